-- `next_places` meets its contract: frame v is the place's, or the one after it; then its row is the next in its ring, and so are those at the
-- ends of its window, but the first while the window begins at row 0 (`stays`, `steps` in Rings.antt).
use Rattle.std.proofs.Common.{◌+◌, ◌-◌, length, sym, ap, ◌∙◌, true≢false, arith}
use Rattle.loops.proofs.Ring.{place_in}
use Rattle.stream.specs.Rows.{is_normalized}
use Rattle.stream.proofs.Rings.{stays, steps}
use Rattle.stream.proofs.frame_views.view.StreamView.next_places.Goals as goal

pub row_after-here-requires : goal.row_after-here-requires
row_after-here-requires c =
    let v = c.args.self.now in
    (v.some.1, omega (arith, c.requires.placed.frame, place_in (length v.frames.now) v.dim c.args.p.frame v.rooms.0))

pub row_after-high-requires : goal.row_after-high-requires
row_after-high-requires c =
    let v = c.args.self.now in
    (v.some.1, omega (arith, c.requires.placed.last (ap is_normalized c.in-Normalized.is), place_in (length v.rows.now) v.dim (c.args.p.frame + 1) v.rooms.1))

pub row_after-requires : goal.row_after-requires
row_after-requires c =
    let v = c.args.self.now in
    (v.some.1, omega (arith, c.requires.placed.first (ap is_normalized c.in-Normalized.is), place_in (length v.rows.now) v.dim (c.args.p.frame + 1 - v.options.cmn_window) v.rooms.1))

pub returns-then-v-self-clause-placed : goal.returns-then-v-self-clause-placed
returns-then-v-self-clause-placed c =
    let v = c.args.self.now in
    let u = c.args.p.frame in
    let w = v.options.cmn_window in
    let q = c.requires.placed in
    let (low, high) = c.requires.near in
    let normal = ap is_normalized c.in-Normalized.is in
    let on = c.if-v-p.true in
    let from = c.if-v-self.true in
    record {
      frame = steps (length v.frames.now) v.dim u c.args.v v.some.0 v.rooms.0 low high q.frame on c.row_after-here.ensures;
      last = λ e. steps (length v.rows.now) v.dim (u + 1) (c.args.v + 1) v.some.0 v.rooms.1 (omega arith) (omega arith) (q.last normal) (omega arith) c.row_after-high.ensures;
      first = λ e. steps (length v.rows.now) v.dim (u + 1 - w) (c.args.v + 1 - w) v.some.0 v.rooms.1 (omega arith) (omega arith) (q.first normal) (omega arith) c.row_after.ensures;
    }

pub returns-else-v-self-clause-placed : goal.returns-else-v-self-clause-placed
returns-else-v-self-clause-placed c =
    let v = c.args.self.now in
    let u = c.args.p.frame in
    let w = v.options.cmn_window in
    let q = c.requires.placed in
    let (low, high) = c.requires.near in
    let normal = ap is_normalized c.in-Normalized.is in
    let on = c.if-v-p.true in
    let before = c.if-v-self.false in
    record {
      frame = steps (length v.frames.now) v.dim u c.args.v v.some.0 v.rooms.0 low high q.frame on c.row_after-here.ensures;
      last = λ e. steps (length v.rows.now) v.dim (u + 1) (c.args.v + 1) v.some.0 v.rooms.1 (omega arith) (omega arith) (q.last normal) (omega arith) c.row_after-high.ensures;
      first = λ e. stays (length v.rows.now) v.dim (u + 1 - w) (c.args.v + 1 - w) v.some.0 v.rooms.1 (omega arith) (omega arith) (q.first normal) (omega arith);
    }

pub returns-in-Raw-clause-placed : goal.returns-in-Raw-clause-placed
returns-in-Raw-clause-placed c =
    let v = c.args.self.now in
    let raw = ap is_normalized c.in-Raw.is in
    record {
      frame = steps (length v.frames.now) v.dim c.args.p.frame c.args.v v.some.0 v.rooms.0 c.requires.near.0 c.requires.near.1 c.requires.placed.frame c.if-v-p.true c.row_after-here.ensures;
      last = λ e. absurd (true≢false (sym e ∙ raw));
      first = λ e. absurd (true≢false (sym e ∙ raw));
    }
