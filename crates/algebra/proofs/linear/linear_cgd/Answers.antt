-- `linear::linear_cgd` meets its contract: the matrix is laid out square for the first residual and the turns; a start on the solution is kept
-- (`kept-start`); else, by whether the residual got worse, the vector stays (`stays`), or the exact solution or the start takes its place (`gives_up`; all
-- three in Turns.antt). The rooms keep their lengths from call to call.
use mathlib.Core.Path.{◌≡◌, sym, ap, ◌∙◌}
use mathlib.Core.Bool.{false}
use mathlib.Core.List.{List}
use lib.Ieee.{Float}
use Rattle.definition.specs.Solve.{factor, solved_or}
use Rattle.algebra.specs.Inner.Linear.{is_last}
use Rattle.algebra.proofs.Turns.{kept-start, stays, gives_up, dot_front}
use Rattle.algebra.proofs.linear.linear_cgd.Goals.{After-cgd_turns-last}
use Rattle.algebra.proofs.linear.linear_cgd.Goals as goal

-- the start is not on the solution, once the turns begin
begins_far : (c : After-cgd_turns-last) → is_last c.cgd_begin-first.result ≡ false
begins_far c = sym c.is_last.ensures ∙ c.if-is_last.false

pub returns-then-is_last : goal.returns-then-is_last
returns-then-is_last c =
    let a = c.args.a.cells.now in
    kept-start a _ _ _ _ c.cgd_begin-first.result (c.cgd_begin-first.ensures.begun a c.lay_out.ensures) (sym c.is_last.ensures ∙ c.if-is_last.true)

pub returns-then-is_worse : goal.returns-then-is_worse
returns-then-is_worse c =
    let a = c.args.a.cells.now in
    let laid = c.lay_out.ensures in
    let from-x : List Float → List Float = λ x. solved_or x c.args.a.n c.args.b.now (factor a c.args.a.n) in
    gives_up a _ _ _ _ c.cgd_begin-first.result c.cgd_turns-last.result (c.cgd_begin-first.ensures.begun a laid) (c.cgd_turns-last.ensures a laid)
    (dot_front _ c.args.b.now c.requires.b_long c.dot.ensures) c.is_worse.ensures (begins_far (goal.at.returns-then-is_worse c).After-cgd_turns-last) c.if-is_worse.true (c.exact_or_start.ensures ∙ ap from-x c.copy.ensures)

pub returns-else-is_worse : goal.returns-else-is_worse
returns-else-is_worse c =
    let a = c.args.a.cells.now in
    let laid = c.lay_out.ensures in
    stays a _ _ _ _ c.cgd_begin-first.result c.cgd_turns-last.result (c.cgd_begin-first.ensures.begun a laid) (c.cgd_turns-last.ensures a laid)
    (dot_front _ c.args.b.now c.requires.b_long c.dot.ensures) c.is_worse.ensures (begins_far (goal.at.returns-else-is_worse c).After-cgd_turns-last) c.if-is_worse.false
