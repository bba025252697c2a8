-- `batch_sums::add_posterior` meets its contract, by whether the Gaussian has a slot: then its sums grow (`entered_again`), else a new slot holds its first entry
-- (`entered_first`, both in Slots.antt); for a new one there is a place (`has_place` in Places.antt).
use Rattle.std.proofs.Common.{◌+◌, ◌<◌, refl, ◌∙◌, arith}
use Rattle.gmm.proofs.Places.{has_place, fair_more, slot_tot, slot_sum, slots_kept}
use Rattle.gmm.proofs.Slots.{entered_again, entered_first}
use Rattle.gmm.proofs.batch_sums.add_posterior.Goals.{Else-k-m}
use Rattle.gmm.proofs.batch_sums.add_posterior.Goals as goal

-- a Gaussian that was not seen has a place
place_of : (c : Else-k-m) → c.args.sums.now.count < c.args.num_gauss
place_of c = has_place c.args.num_gauss c.args.sums.now.count c.args.g c.args.sums.now.seen.now c.requires.slots.fair c.requires.below c.slot_of-k.result c.if-k-m.false c.slot_of-k.ensures.none_before

pub slot_of-k-requires : goal.slot_of-k-requires
slot_of-k-requires c = let z = c.requires.slots in omega (arith, z.room, z.seen_long)

pub add_to_slot-requires : goal.add_to_slot-requires
add_to_slot-requires c =
    let a = c.args in
    let z = c.requires.slots in
    let l : c.slot_of-k.result < a.num_gauss = omega (arith, c.if-k-m.true, z.room) in
    (slot_tot a.num_gauss a.d _ _ _ _ z _ l, c.requires.x_long, slot_sum a.num_gauss a.d _ _ _ _ z _ l)

pub returns-then-k-m-clause-grown : goal.returns-then-k-m-clause-grown
returns-then-k-m-clause-grown c =
    let a = c.args in
    let s = a.sums.now in
    let z = c.requires.slots in
    let k = c.slot_of-k in
    let e = c.add_to_slot.ensures in (
      rw (e.count, e.seen) (slots_kept a.num_gauss a.d _ _ _ _ z s.count refl e.loans.4 e.loans.5 z.room z.fair),
      λ es h. rw (e.count, e.seen) (entered_again a.num_gauss a.d _ a.g a.w a.x.now _ _ _ z es h k.result c.if-k-m.true (k.ensures.here c.if-k-m.true) e.tot e.sum),
    )

pub open_slot-requires : goal.open_slot-requires
open_slot-requires c =
    let a = c.args in
    let z = c.requires.slots in
    let place = place_of (goal.at.open_slot-requires c).Else-k-m in
    (omega (arith, place, z.seen_long), slot_tot a.num_gauss a.d _ _ _ _ z _ place, slot_sum a.num_gauss a.d _ _ _ _ z _ place)

pub add_to_slot-requires-2 : goal.add_to_slot-requires-2
add_to_slot-requires-2 c =
    let a = c.args in
    let z = c.requires.slots in
    let place = place_of (goal.at.add_to_slot-requires-2 c).Else-k-m in
    let b = c.open_slot.ensures in
    (omega (arith, slot_tot a.num_gauss a.d _ _ _ _ z _ place, b), c.requires.x_long, omega (arith, slot_sum a.num_gauss a.d _ _ _ _ z _ place, b))

pub returns-clause-grown : goal.returns-clause-grown
returns-clause-grown c =
    let a = c.args in
    let s = a.sums.now in
    let z = c.requires.slots in
    let k = c.slot_of-k in
    let place = place_of (goal.at.returns-clause-grown c).Else-k-m in
    let b = c.open_slot.ensures in
    let e = c.add_to_slot-2.ensures in
    let new = k.ensures.none_before in
    let fair = fair_more a.num_gauss s.count a.g _ z.fair c.requires.below k.result c.if-k-m.false new (omega (arith, place, z.seen_long)) b.seen in (
      rw (e.count, b.count, e.seen)
          (slots_kept a.num_gauss a.d _ _ _ _ z (s.count + 1) b.loans.3 (e.loans.4 ∙ b.loans.4) (e.loans.5 ∙ b.loans.5) (omega (arith, place)) fair),
      λ es h. rw (e.count, b.count, e.seen)
          (entered_first a.num_gauss a.d _ a.g a.w a.x.now _ _ _ z es h k.result place fair c.if-k-m.false new b.loans.4 b.loans.5 b.seen b.tot b.sum e.tot e.sum),
    )
