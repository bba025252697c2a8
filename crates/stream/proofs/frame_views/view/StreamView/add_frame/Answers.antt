-- `add_frame` meets its contract: what is added is the part that `spliced_row` gives, which is the frame's view or its raw row (`viewed_on` in
-- SplicedRows.antt).
use Rattle.std.proofs.Common.{◌≡◌, ◌+◌, ◌*◌, List, length, ap, ◌∙◌, arith}
use borrow.Author.Rules.{rules}
use lib.Ieee.{Float}
use Rattle.loops.specs.Inner.{fill}
use Rattle.floats.specs.Operators.{◌*₃₂◌, at, sum₃₂}
use Rattle.stream.specs.Rows.{is_normalized, frames_of}
use Rattle.stream.proofs.Rings.{row_ends, row_lent}
use Rattle.stream.specs.Inner.FrameViews.{viewed}
use Rattle.stream.proofs.SplicedRows.{length-viewed, viewed_on}
use Rattle.stream.proofs.frame_views.view.StreamView.add_frame.Goals.{After-spliced_row-spliced}
use Rattle.stream.proofs.frame_views.view.StreamView.add_frame.Goals as goal

pub spliced_row-spliced-requires-clause-raw : goal.spliced_row-spliced-requires-clause-raw
spliced_row-spliced-requires-clause-raw c = row_ends _ _ c.args.self.now.frames.now c.requires.placed.frame c.args.self.now.rooms.0

-- the part that is added is the frame's view
spliced_is : (c : After-spliced_row-spliced) →
    let v = c.args.self.now in
    c.spliced_row-spliced.result.now ≡ viewed v.dim (frames_of v) (is_normalized c.args.features) c.args.p.frame c.fetch_frame.new.cmvn
spliced_is c =
    let v = c.args.self.now in
    viewed_on v.dim (frames_of v) c.args.p.frame c.fetch_frame.new.cmvn (is_normalized c.args.features) c.spliced_row-spliced.ensures c.fetch_frame.ensures.view
    (row_lent _ _ v.frames.now c.requires.placed.frame v.rooms.0).0

pub add_rows-requires-clause-in_x : goal.add_rows-requires-clause-in_x
add_rows-requires-clause-in_x c =
    let v = c.args.self.now in
    let viewed_long = length-viewed v.dim (frames_of v) (is_normalized c.args.features) c.args.p.frame c.fetch_frame.new.cmvn in
    omega (arith, ap length (spliced_is (goal.at.add_rows-requires-clause-in_x c).After-spliced_row-spliced), viewed_long)

pub returns-clause-out : goal.returns-clause-out
returns-clause-out c =
    let a = c.args in
    let n = length a.out.now in
    c.add_rows.ensures (λ v. v) (λ v r h. search rules)
    ∙ ap (λ (z : List Float). fill n (λ r. sum₃₂ (at a.out.now r) a.self.now.dim (λ c. at a.part.now (c * n + r) *₃₂ at z c)) a.out.now)
    (spliced_is (goal.at.returns-clause-out c).After-spliced_row-spliced)
