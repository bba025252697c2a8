-- `DiagGmm::loglikes` meets its contract: the two sums, dimension by dimension, are each Gaussian's own (`sums_are`), and with the constants they are the
-- definition's (`loglikes_is`, both in Likelihoods.antt).
use native.Mathlib.Omega.{arith}
use borrow.Author.Rules.{rules}
use Rattle.loops.proofs.Std.{fill_whole}
use Rattle.floats.specs.Operators.{◌*₃₂◌, at}
use Rattle.gmm.proofs.Likelihoods.{table_in_lem, sums_are, loglikes_is}
use Rattle.gmm.proofs.diag_gmm.gmm.DiagGmm.loglikes.Goals as goal

pub add_rows-requires-clause-in_table : goal.add_rows-requires-clause-in_table
add_rows-requires-clause-in_table c = table_in_lem _ _ _ _ (omega arith) c.args.self.fits.1

pub add_rows-requires-2-clause-in_table : goal.add_rows-requires-2-clause-in_table
add_rows-requires-2-clause-in_table c = table_in_lem _ _ _ _ (omega arith) c.args.self.fits.2

pub returns-clause-likes : goal.returns-clause-likes
returns-clause-likes c =
    let a = c.args in
    let p = c.requires in
    loglikes_is _ _ _ _ _ _
    (sums_are _ _ _ (at a.x.now) a.rooms.now.likes.now p.likes_long (fill_whole _ _ _ (c.fill.ensures.after (λ y e. e))) (c.add_rows.ensures (λ v. v) (λ v r h. search rules)))
    (sums_are _ _ _ (λ k. at a.x.now k *₃₂ at a.x.now k) a.rooms.now.squares.now p.squares_long (fill_whole _ _ _ (c.fill-2.ensures.after (λ y e. e))) (c.add_rows-2.ensures (λ v. v *₃₂ v) (λ v r h. search rules)))
    c.add_constants.ensures
