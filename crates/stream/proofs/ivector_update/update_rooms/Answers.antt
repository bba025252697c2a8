-- `update_rooms` meets its contract: what the tests of the record and the rooms say bounds the sizes, the parts that are kept are
-- lent to `update_stats_until`, and come back at the fronts of the rooms.
use mathlib.Core.Path.{sym, ap, subst, ◌∙◌}
use Prim.Native.Nat.{ℕ, ◌*◌}
use native.Mathlib.Nat.{mul-le-mul_right, mul_assoc}
use native.Mathlib.Omega.{arith}
use lib.ListN.{length}
use lib.Seq.{length-take-le}
use Rattle.loops.proofs.Fill.{lent_over}
use Rattle.definition.specs.Kaldi.{triangle}
use Rattle.definition.specs.Lent.{tables_in}
use Rattle.definition.specs.Model.{Tables, model}
use Rattle.definition.specs.Estimate.{Estimate, nans_over, updated}
use Rattle.definition.specs.Stream.{stream_scratch}
use Rattle.definition.proofs.Ranges.{Fitting, fitting}
use Rattle.program.specs.Rooms.{estimate_from, Rooms, rooms_from, room_lengths_of, ring_frames, estimate_at}
use Rattle.program.specs.Lent.{rings_in}
use Rattle.stream.specs.Inner.IvectorBatch.{batch_in, Ready}
use Rattle.stream.proofs.Rooms.{Sized, sized, ready, rooms-over}
use Rattle.stream.proofs.ivector_update.update_rooms.Goals.{Start}
use Rattle.stream.proofs.ivector_update.update_rooms.Goals as goal

abbrev tables : (c : Start) → Tables
tables c = tables_in c.args.tables

abbrev rooms : (c : Start) → Rooms
rooms c = let a = c.args in rooms_from (rings_in a.held a.intake.waiting) (estimate_from a.cmvn_stats.now a.linear.now a.quadratic.now a.current.now)

-- the estimate by tables that are kept
abbrev after : (c : Start) → Tables → Estimate
after c y =
    let a = c.args in
    let i = a.info in
    let F = ring_frames i.dims.base_dim a.intake.accepted a.held.frames.now a.held.rows.now in
    updated (model i y) F (batch_in i.opts a.intake) (estimate_at i.dims a.num_frames (rooms c).estimate)

abbrev nans_after : (c : Start) → Tables → ℕ
nans_after c y =
    let a = c.args in
    let i = a.info in
    let F = ring_frames i.dims.base_dim a.intake.accepted a.held.frames.now a.held.rows.now in
    nans_over (model i y) F (batch_in i.opts a.intake) (estimate_at i.dims a.num_frames (rooms c).estimate).cmvn

sizes : (c : Start) → Sized c.args.info (tables c)
sizes c = sized c.args.info (tables c) c.requires.sound c.requires.tables_fit

fits : (c : Start) → Fitting c.args.info.dims (room_lengths_of (rooms c) (length c.args.scratch.now))
fits c = fitting c.args.info.dims (room_lengths_of (rooms c) (length c.args.scratch.now)) c.requires.rooms_fit

pub overflow_add-row : goal.overflow_add-row
overflow_add-row c = let x = sizes (goal.at.overflow_add-row c).Start in let z = fits (goal.at.overflow_add-row c).Start in omega (arith, x.dims_are.base_is)

pub overflow_add-packed : goal.overflow_add-packed
overflow_add-packed c = let x = sizes (goal.at.overflow_add-packed c).Start in let z = fits (goal.at.overflow_add-packed c).Start in omega (arith, x.dims_are.ivector_is)

pub overflow_mul-packed : goal.overflow_mul-packed
overflow_mul-packed c = let x = sizes (goal.at.overflow_mul-packed c).Start in let z = fits (goal.at.overflow_mul-packed c).Start in omega (arith, x.products_are.ivector_next)

pub slice_bounds-update_stats_until-end : goal.slice_bounds-update_stats_until-end
slice_bounds-update_stats_until-end c = let x = sizes (goal.at.slice_bounds-update_stats_until-end c).Start in let z = fits (goal.at.slice_bounds-update_stats_until-end c).Start in z.cmvn_fits

pub slice_bounds-update_stats_until-end-2 : goal.slice_bounds-update_stats_until-end-2
slice_bounds-update_stats_until-end-2 c = let x = sizes (goal.at.slice_bounds-update_stats_until-end-2 c).Start in let z = fits (goal.at.slice_bounds-update_stats_until-end-2 c).Start in sym (length-take-le _ _ z.cmvn_fits)

pub slice_bounds-update_stats_until-end-3 : goal.slice_bounds-update_stats_until-end-3
slice_bounds-update_stats_until-end-3 c = let x = sizes (goal.at.slice_bounds-update_stats_until-end-3 c).Start in let z = fits (goal.at.slice_bounds-update_stats_until-end-3 c).Start in z.linear_fits

pub slice_bounds-update_stats_until-end-4 : goal.slice_bounds-update_stats_until-end-4
slice_bounds-update_stats_until-end-4 c = let x = sizes (goal.at.slice_bounds-update_stats_until-end-4 c).Start in let z = fits (goal.at.slice_bounds-update_stats_until-end-4 c).Start in sym (length-take-le _ _ z.linear_fits)

pub slice_bounds-update_stats_until-end-5 : goal.slice_bounds-update_stats_until-end-5
slice_bounds-update_stats_until-end-5 c = let x = sizes (goal.at.slice_bounds-update_stats_until-end-5 c).Start in let z = fits (goal.at.slice_bounds-update_stats_until-end-5 c).Start in z.quadratic_fits

pub slice_bounds-update_stats_until-end-6 : goal.slice_bounds-update_stats_until-end-6
slice_bounds-update_stats_until-end-6 c = let x = sizes (goal.at.slice_bounds-update_stats_until-end-6 c).Start in let z = fits (goal.at.slice_bounds-update_stats_until-end-6 c).Start in sym (length-take-le _ _ z.quadratic_fits)

pub slice_bounds-update_stats_until-end-7 : goal.slice_bounds-update_stats_until-end-7
slice_bounds-update_stats_until-end-7 c = let x = sizes (goal.at.slice_bounds-update_stats_until-end-7 c).Start in let z = fits (goal.at.slice_bounds-update_stats_until-end-7 c).Start in z.current_fits

pub slice_bounds-update_stats_until-end-8 : goal.slice_bounds-update_stats_until-end-8
slice_bounds-update_stats_until-end-8 c = let x = sizes (goal.at.slice_bounds-update_stats_until-end-8 c).Start in let z = fits (goal.at.slice_bounds-update_stats_until-end-8 c).Start in sym (length-take-le _ _ z.current_fits)

pub invariant_of-batch : goal.invariant_of-batch
invariant_of-batch c =
    let o = (goal.at.invariant_of-batch c).Start in
    let z = fits o in
    record {
      ready = subst (λ (y : Tables). Ready c.args.info y) (sym c.kept.ensures) (ready (sizes o));
      rooms = (z.frames_fit, omega (arith, z.rows_fit));
      brought = c.requires.held;
    }

pub update_stats_until-requires : goal.update_stats_until-requires
unfolding stream_scratch
update_stats_until-requires c =
    let o = (goal.at.update_stats_until-requires c).Start in
    let r = sizes o in
    let z = fits o in
    let d = c.args.info.dims in
    let e = d.ext_gauss in
    let f = d.feat_dim in
    let s = d.ivector_dim in
    let t = tables o in
    let k = c.kept.ensures in
    let sigma = ap (λ (y : Tables). length y.sigma_inv_m) k ∙ length-take-le (e * f * s) t.sigma_inv_m r.tables_fit_is.sigma_fits in
    let packed = ap (λ (y : Tables). length y.u) k ∙ length-take-le (e * triangle s) t.u r.tables_fit_is.u_fits in
    record {
      some = r.dims_are.some_ivector;
      few = r.dims_are.ivector_is;
      sigma_fits = omega (arith, sigma, mul_assoc e f s, mul-le-mul_right (f * s) r.agree.gauss_fit);
      u_fits = omega (arith, packed, mul-le-mul_right (triangle s) r.agree.gauss_fit);
      cmvn_long = length-take-le _ _ z.cmvn_fits;
      linear_long = length-take-le _ _ z.linear_fits;
      quadratic_long = length-take-le _ _ z.quadratic_fits;
      current_long = length-take-le _ _ z.current_fits;
      sums_fit = omega (arith, z.scratch_fits);
      factor_fits = omega (arith, z.scratch_fits);
    }

pub returns : goal.returns
returns c =
    let o = (goal.at.returns c).Start in
    let fit = fits o in
    let left = c.update_stats_until.ensures.learnt ∙ ap (after o) c.kept.ensures in (
      ap (λ (e : Estimate). e.stats.num_frames) left,
      rooms-over (after o _) (rooms o).estimate
          (lent_over _ _ _ (c.update_stats_until.auto.cmvn_stats ∙ length-take-le _ _ fit.cmvn_fits) (ap (λ (e : Estimate). e.cmvn) left))
          (lent_over _ _ _ (c.update_stats_until.auto.linear ∙ length-take-le _ _ fit.linear_fits) (ap (λ (e : Estimate). e.stats.linear) left))
          (lent_over _ _ _ (c.update_stats_until.auto.quadratic ∙ length-take-le _ _ fit.quadratic_fits) (ap (λ (e : Estimate). e.stats.quadratic) left))
          (lent_over _ _ _ (c.update_stats_until.auto.current ∙ length-take-le _ _ fit.current_fits) (ap (λ (e : Estimate). e.current) left)),
      c.update_stats_until.ensures.nans ∙ ap (nans_after o) c.kept.ensures,
    )
