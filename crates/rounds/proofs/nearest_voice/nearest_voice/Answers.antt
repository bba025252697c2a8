-- `nearest_voice` meets its contract, by the invariant in Invariants.antt and the laws of Least.antt. No product passes 64 bits: a refused
-- length never gets there (`accepted` in VoiceRefusals.antt).
use Rattle.std.specs.Prelude.{Err}
use borrow.Author.Rules.{rules}
use mathlib.Core.Path.{◌≡◌, refl, sym, ap, ◌∙◌}
use Prim.Native.Nat.{ℕ, suc, ◌+◌, ◌-◌}
use native.Mathlib.Nat.{le_of_eq, le_antisymm}
use native.Mathlib.Omega.{arith}
use lib.Ieee.{Float, lt}
use Rattle.definition.specs.Number.{number_of, numbered}
use Rattle.rounds.specs.Voice.{distance, least}
use Rattle.rounds.proofs.VoiceRefusals.{accepted}
use Rattle.rounds.proofs.Least.{row_in_lem, least_first, least_new, least_same, answer_refused, answer_voice, answer_nobody}
use Rattle.rounds.proofs.nearest_voice.nearest_voice.Goals.{then-d-shortest, else-d-shortest}
use Rattle.rounds.proofs.nearest_voice.nearest_voice.Goals as goal

pub returns-in_err-check : goal.returns-in_err-check
returns-in_err-check c =
    let a = c.args in
    let told : numbered c.from_residual.result ≡ Err (number_of c.in_err-check.field-0.0) = search rules in
    told ∙ answer_refused a.dim a.vector.now a.count a.enrolled.now a.limit _ c.in_err-check.ensures

pub distance-shortest-requires : goal.distance-shortest-requires
distance-shortest-requires c =
    let a = c.args in
    let h = accepted a.dim a.vector.now a.count a.enrolled.now a.limit c.in_ok-check.ensures refl in
    (le_of_eq (sym h.vector_long), row_in_lem 0 _ _ _ h.some h.rows_long, h.vector_finite, h.rows_finite)

pub loop-i-init : goal.loop-i-init
loop-i-init c =
    let a = c.args in
    let h = accepted a.dim a.vector.now a.count a.enrolled.now a.limit c.in_ok-check.ensures refl in
    (omega arith, h.some, least_first _, c.distance-shortest.ensures)

pub distance-d-requires : goal.distance-d-requires
distance-d-requires c =
    let a = c.args in
    let h = accepted a.dim a.vector.now a.count a.enrolled.now a.limit c.in_ok-check.ensures refl in
    (le_of_eq (sym h.vector_long), row_in_lem c.loop-i.i _ _ _ (omega arith) h.rows_long, h.vector_finite, h.rows_finite)

pub loop-i-preserved : goal.loop-i-preserved
loop-i-preserved c =
    let a = c.args in
    let f = distance a.dim a.vector.now a.enrolled.now in
    let l = c.loop-i in
    let p = l.i - 1 in
    let i-is : l.i ≡ suc p = omega arith in
    let q-is : l.i + 1 - 1 ≡ suc p = omega arith in
    let d = c.distance-d.ensures in
    elim c.if-d-shortest.branch [
      | then-d-shortest w ↦ (
        omega arith,
        omega arith,
        w.index-is ∙ least_new f p l.i (l.i + 1 - 1) i-is q-is l.invariant.2 l.invariant.3 (ap (λ (y : Float). lt y l.shortest) (sym d) ∙ w.if-d-shortest.true),
        w.shortest-is ∙ d ∙ ap f (sym w.index-is),
      )
      | else-d-shortest w ↦ (
        omega arith,
        omega arith,
        w.index-is ∙ least_same f p l.i (l.i + 1 - 1) i-is q-is l.invariant.2 l.invariant.3 (ap (λ (y : Float). lt y l.shortest) (sym d) ∙ w.if-d-shortest.false),
        w.shortest-is ∙ l.invariant.3 ∙ ap f (sym w.index-is),
      )
    ]

pub returns-then-shortest-limit : goal.returns-then-shortest-limit
returns-then-shortest-limit c =
    let a = c.args in
    let l = c.loop-i in
    let f = distance a.dim a.vector.now a.enrolled.now in
    let i-is : l.index ≡ least f (a.count - 1) = l.invariant.2 ∙ ap (λ (k : ℕ). least f (k - 1)) (le_antisymm l.invariant.1 c.loop-i-test.false) in
    answer_voice a.dim a.vector.now a.count a.enrolled.now a.limit c.in_ok-check.ensures _ _ i-is l.invariant.3 c.if-shortest-limit.true

pub returns : goal.returns
returns c =
    let a = c.args in
    let l = c.loop-i in
    let f = distance a.dim a.vector.now a.enrolled.now in
    let i-is : l.index ≡ least f (a.count - 1) = l.invariant.2 ∙ ap (λ (k : ℕ). least f (k - 1)) (le_antisymm l.invariant.1 c.loop-i-test.false) in
    answer_nobody a.dim a.vector.now a.count a.enrolled.now a.limit c.in_ok-check.ensures _ _ i-is l.invariant.3 c.if-shortest-limit.false
