-- `stream_refusals::store_frame` meets its contract. The rings have whole rows, so that places lie within them and two rows one after the other lie apart.
use mathlib.Core.Path.{◌≡◌, refl}
use Prim.Native.Nat.{◌+◌, ◌<◌}
use native.Mathlib.Omega.{arith}
use lib.ListN.{length}
use Rattle.loops.specs.Ring.{rows_in, place}
use Rattle.loops.proofs.Ring.{place_in}
use Rattle.algebra.proofs.Places.{place-turned}
use Rattle.stream.proofs.Stored.{place_after_lem, frame-stored, row-stored}
use Rattle.stream.proofs.stream_refusals.store_frame.Goals.{After-row_after-next, Start}
use Rattle.stream.proofs.stream_refusals.store_frame.Goals as goal

-- a place of the rows lies within them
some_rows : (c : Start) → 0 < rows_in (length c.args.rows.now) (length c.args.frame.now)
some_rows c = omega (arith, c.requires.4)

-- the row after, as a place of the ring
next_is : (c : After-row_after-next) →
    c.row_after-next.result ≡ place (length c.args.rows.now) (length c.args.frame.now) (c.args.accepted + 1)
next_is c = place-turned _ _ _ c.requires.0 (some_rows (goal.at.After-row_after-next c).Start) c.ring_place-last.ensures c.row_after-next.ensures

pub ring_place-a-requires : goal.ring_place-a-requires
ring_place-a-requires c = (c.requires.0, c.requires.1, c.requires.3, c.requires.2)

pub put_frame-requires : goal.put_frame-requires
put_frame-requires c = omega (arith, place_in (length c.args.frames.now) (length c.args.frame.now) c.args.accepted c.requires.3, c.ring_place-a.ensures)

pub ring_place-last-requires : goal.ring_place-last-requires
ring_place-last-requires c = (c.requires.0, c.requires.1, some_rows (goal.at.ring_place-last-requires c).Start, c.requires.2)

pub row_after-next-requires : goal.row_after-next-requires
row_after-next-requires c = (c.requires.1, omega (arith, place_in (length c.args.rows.now) (length c.args.frame.now) c.args.accepted (some_rows (goal.at.row_after-next-requires c).Start), c.ring_place-last.ensures))

pub add_frame-requires : goal.add_frame-requires
add_frame-requires c =
    let n = length c.args.rows.now in
    let b = length c.args.frame.now in
    let t = c.args.accepted in (
      omega (arith, place_in n b t (some_rows (goal.at.add_frame-requires c).Start), c.ring_place-last.ensures),
      omega (arith, place_in n b (t + 1) (some_rows (goal.at.add_frame-requires c).Start), next_is (goal.at.add_frame-requires c).After-row_after-next),
      place_after_lem n b t c.requires.4 refl c.ring_place-last.ensures (next_is (goal.at.add_frame-requires c).After-row_after-next),
      c.requires.5,
    )

pub shape_of-frames : goal.shape_of-frames
shape_of-frames c = c.put_frame.auto.frames

pub shape_of-rows : goal.shape_of-rows
shape_of-rows c = c.add_frame.auto.rows

pub returns : goal.returns
returns c = (
  frame-stored c.args.frames.now c.args.frame.now c.args.accepted c.ring_place-a.ensures c.put_frame.ensures,
  row-stored c.args.rows.now c.args.frame.now c.args.accepted c.ring_place-last.ensures (next_is (goal.at.returns c).After-row_after-next) c.add_frame.ensures,
)
