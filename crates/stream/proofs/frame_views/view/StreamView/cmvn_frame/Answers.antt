-- `cmvn_frame` meets its contract: the window's state, smoothed, is the CMVN state (`state_on`), and the raw frame less its mean is the view
-- (`frame_on`, both in Normalised.antt).
use Rattle.std.proofs.Common.{length, ap, ◌∙◌, arith}
use Rattle.stream.proofs.Normalised.{state_on, frame_on}
use Rattle.stream.proofs.Rings.{row_ends, row_lent}
use Rattle.stream.proofs.frame_views.view.StreamView.cmvn_frame.Goals as goal

pub row-requires : goal.row-requires
row-requires c = row_ends _ _ c.args.self.now.frames.now c.requires.placed.frame c.args.self.now.rooms.0

pub raw_less_mean-requires : goal.raw_less_mean-requires
raw_less_mean-requires c =
    let v = c.args.self.now in
    let long = row_lent _ _ v.frames.now c.requires.placed.frame v.rooms.0 in
    (omega (arith, ap length c.row.ensures, long.1, c.cmvn_smooth.auto.cmvn, c.cmvn_window.auto.cmvn, c.requires.state), omega (arith, ap length c.row.ensures, long.1, c.requires.out))

pub returns-clause-state : goal.returns-clause-state
returns-clause-state c = state_on _ _ _ _ _ _ _ _ c.cmvn_window.ensures c.cmvn_smooth.ensures

pub returns-clause-out : goal.returns-clause-out
returns-clause-out c =
    let v = c.args.self.now in
    let raw = row_lent _ _ v.frames.now c.requires.placed.frame v.rooms.0 in
    let long = ap length c.row.ensures ∙ raw.1 in
    frame_on v.dim v.accepted c.args.p.frame v.frames.now v.rows.now c.cmvn_smooth.new.cmvn c.args.out.now (c.row.ensures ∙ raw.0) c.requires.out (rw long at c.raw_less_mean.ensures)
