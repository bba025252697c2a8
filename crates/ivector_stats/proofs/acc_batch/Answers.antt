-- `acc_batch` meets its contract, by the invariant in Invariants.antt (`linear_turn`, `quadratic_turn` in Gaussians.antt).
use mathlib.Core.Path.{◌≡◌, refl, ap, ◌∙◌}
use Prim.Native.Nat.{ℕ, ◌+◌, ◌-◌, ◌*◌, ◌≤◌}
use native.Mathlib.Omega.{arith}
use lib.ListN.{length, get_or, take, drop}
use Rattle.loops.specs.Inner.{fill}
use Rattle.loops.proofs.Loop.{at_end, iter_none, iter_next}
use Rattle.loops.proofs.Cells.{row_in_lem}
use Rattle.loops.proofs.Parts.{length_lent}
use Rattle.floats.specs.Operators.{◌+₆₄◌, zero₆₄, at, sum₆₄}
use Rattle.ivector_stats.specs.Inner.{linear_term, linear_over, quadratic_over}
use Rattle.ivector_stats.proofs.Gaussians.{linear_none, linear_turn, quadratic_none, quadratic_turn}
use Rattle.gmm.proofs.Places.{slot_sum}
use Rattle.ivector_stats.proofs.acc_batch.Goals.{In-loop-k}
use Rattle.ivector_stats.proofs.acc_batch.Goals as goal

-- slot k lies in the room of the sums, and the part of it that is lent is d long
slot_in : (c : In-loop-k) → c.loop-k.k * c.args.d + c.args.d ≤ length c.args.sums.sum.now
slot_in c =
    let a = c.args in
    let z = c.requires.slots in
    slot_sum a.num_gauss a.d _ _ _ _ z c.loop-k.k (omega (arith, c.loop-k-test.true, c.loop-k.invariant.end, z.room))

slot_long : (c : In-loop-k) → let start = c.loop-k.k * c.args.d in length (take (start + c.args.d - start) (drop start c.args.sums.sum.now)) ≡ c.args.d
slot_long c = length_lent (c.loop-k.k * c.args.d) c.args.d _ c.args.sums.sum.now refl (slot_in c)

pub loop-k-init : goal.loop-k-init
loop-k-init c =
    let a = c.args in
    let z = a.sums in
    let s = a.stats.now in
    record {
      most = omega arith;
      end = refl;
      same = (refl, refl, refl, refl);
      num_frames = refl;
      row_long = refl;
      linear = linear_none a.d (length a.row.now) a.sigma_inv_m.now z.seen.now z.sum.now s.linear.now c.requires.linear_long;
      quadratic = quadratic_none (length s.quadratic.now) a.u.now z.seen.now z.tot.now s.quadratic.now refl;
      weight = iter_none _ zero₆₄;
    }

pub overflow_mul-start : goal.overflow_mul-start
overflow_mul-start c = omega (arith, slot_in (goal.at.overflow_mul-start c).In-loop-k)

pub slice_bounds-acc_gauss-end : goal.slice_bounds-acc_gauss-end
slice_bounds-acc_gauss-end c = slot_in (goal.at.slice_bounds-acc_gauss-end c).In-loop-k

pub acc_gauss-requires : goal.acc_gauss-requires
acc_gauss-requires c =
    let a = c.args in
    let p = c.requires in
    let v = c.loop-k.invariant in
    let g = p.slots.fair.below c.loop-k.k (omega (arith, c.loop-k-test.true, v.end)) in
    let i = get_or a.sums.seen.now c.loop-k.k 0 in
    record {
      rows_in = rw (slot_long (goal.at.acc_gauss-requires c).In-loop-k, v.row_long) (row_in_lem i a.num_gauss (a.d * length a.row.now) _ p.rows_in g);
      terms_in = rw v.same.3 (row_in_lem i a.num_gauss (length a.stats.now.quadratic.now) _ p.terms_in g);
      linear_long = omega (arith, v.same, v.row_long, p.linear_long);
    }

pub loop-k-preserved : goal.loop-k-preserved
loop-k-preserved c =
    let a = c.args in
    let z = a.sums in
    let loop = c.loop-k in
    let v = loop.invariant in
    let e = c.acc_gauss.ensures in
    let s = length a.row.now in
    let g = get_or z.seen.now loop.k 0 in
    let start = loop.k * a.d in
    let x = take (start + a.d - start) (drop start z.sum.now) in
    let l = loop.stats.linear.now in
    let added = e.linear
    ∙ ap (λ (n : ℕ). fill n (λ c. at l c +₆₄ linear_term (length x) n a.sigma_inv_m.now g (at x) c) l) v.row_long
    ∙ ap (λ (n : ℕ). fill s (λ c. at l c +₆₄ linear_term n s a.sigma_inv_m.now g (at x) c) l) (slot_long (goal.at.loop-k-preserved c).In-loop-k) in
    record {
      most = omega arith;
      end = v.end;
      same = (e.loans.0 ∙ v.same.0, e.loans.1 ∙ v.same.1, e.loans.2 ∙ v.same.2, e.loans.3 ∙ v.same.3);
      num_frames = e.num_frames ∙ v.num_frames;
      row_long = c.acc_gauss.auto.row ∙ v.row_long;
      linear = linear_turn a.d s a.sigma_inv_m.now z.seen.now z.sum.now a.stats.now.linear.now loop.k v.linear added;
      quadratic = quadratic_turn (length a.stats.now.quadratic.now) a.u.now z.seen.now z.tot.now a.stats.now.quadratic.now loop.k v.quadratic e.quadratic;
      weight = iter_next (λ k s. s +₆₄ at z.tot.now k) zero₆₄ loop.k v.weight;
    }

pub returns : goal.returns
returns c =
    let a = c.args in
    let z = a.sums in
    let k = c.loop-k.k in
    let v = c.loop-k.invariant in
    let most : k ≤ z.count = omega (arith, v) in
    let least : z.count ≤ k = omega (arith, v, c.loop-k-test.false) in
    record {
      linear = at_end (linear_over a.d (length a.row.now) a.sigma_inv_m.now z.seen.now z.sum.now a.stats.now.linear.now) k z.count most least v.linear;
      quadratic = at_end (quadratic_over (length a.stats.now.quadratic.now) a.u.now z.seen.now z.tot.now a.stats.now.quadratic.now) k z.count most least v.quadratic;
      weight = at_end (λ k. sum₆₄ zero₆₄ k (at z.tot.now)) k z.count most least v.weight;
      num_frames = v.num_frames;
      loans = v.same;
    }
