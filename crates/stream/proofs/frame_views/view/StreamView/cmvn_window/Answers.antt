-- `cmvn_window` meets its contract, by whether the frame is loud (`window_true`, `window_false` in Normalised.antt).
use Rattle.std.proofs.Common.{length, sym, refl, ap, ◌∙◌, arith}
use Rattle.loops.specs.Ring.{place}
use Rattle.stream.proofs.Normalised.{window_true, window_false}
use Rattle.stream.proofs.Rings.{row_ends, row_lent}
use Rattle.stream.proofs.frame_views.view.StreamView.cmvn_window.Goals as goal

pub row-raw-requires : goal.row-raw-requires
row-raw-requires c = row_ends _ _ c.args.self.now.frames.now c.requires.placed.frame c.args.self.now.rooms.0

pub bounds-raw-0 : goal.bounds-raw-0
bounds-raw-0 c =
    let v = c.args.self.now in
    omega (arith, ap length c.row-raw.ensures, (row_lent _ _ v.frames.now c.requires.placed.frame v.rooms.0).1, v.some)

pub row-requires : goal.row-requires
row-requires c = row_ends _ _ c.args.self.now.rows.now (c.requires.placed.last refl) c.args.self.now.rooms.1

pub row-requires-then-raw-self : goal.row-requires-then-raw-self
row-requires-then-raw-self c = row_ends _ _ c.args.self.now.rows.now (c.requires.placed.first refl) c.args.self.now.rooms.1

pub difference-requires : goal.difference-requires
difference-requires c =
    let v = c.args.self.now in
    let p = c.requires.placed in
    let high = row_lent _ _ v.rows.now (p.last refl) v.rooms.1 in
    let low = row_lent _ _ v.rows.now (p.first refl) v.rooms.1 in
    (omega (arith, ap length c.row.ensures, high.1), omega (arith, ap length c.row-then-raw-self.ensures, low.1), omega (arith, c.requires.state))

pub returns-then-raw-self : goal.returns-then-raw-self
returns-then-raw-self c =
    let v = c.args.self.now in
    let p = c.requires.placed in
    let lo = c.saturating_sub-lo.ensures in
    let raw = row_lent _ _ v.frames.now p.frame v.rooms.0 in
    let high = row_lent _ _ v.rows.now (p.last refl) v.rooms.1 in
    let low = row_lent _ _ v.rows.now (p.first refl ∙ ap (place (length v.rows.now) v.dim) (sym lo)) v.rooms.1 in
    window_true _ _ _ _ _ _ _ v.some.0 (c.row-raw.ensures ∙ raw.0) c.requires.state
    c.if-raw-self.true lo (c.row.ensures ∙ high.0) (c.row-then-raw-self.ensures ∙ low.0)
    c.difference.ensures c.nearest_u64_to_f64.ensures

pub returns-else-raw-self : goal.returns-else-raw-self
returns-else-raw-self c =
    let v = c.args.self.now in
    window_false _ _ _ _ _ _ _ v.some.0 (c.row-raw.ensures ∙ (row_lent _ _ v.frames.now c.requires.placed.frame v.rooms.0).0) c.if-raw-self.false
