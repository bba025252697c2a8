-- `posteriors::next` meets its contract: where there is no cutoff the first from g on is g itself (`all_pass`).
use Rattle.std.specs.Prelude.{Option, IfSome}
use Rattle.std.specs.Bool.{then_some}
use mathlib.Core.Path.{◌≡◌, refl}
use mathlib.Core.Bool.{true}
use Prim.Native.Nat.{ℕ, ◌≤◌, ◌<◌}
use native.Mathlib.Omega.{arith}
use lib.Dec.{ltb}
use borrow.Author.Tests.{ltb-true, ltb-false}
use Rattle.loops.proofs.Choose.{by-test}
use Rattle.gmm.specs.Inner.Posteriors.{Next, place_or}
use Rattle.gmm.proofs.posteriors.next.Goals as goal

-- where all pass, the first from g on is g itself
all_pass : (g n : ℕ) {r : Option ℕ} → g ≤ n → r ≡ then_some (ltb g n) g → Next (λ k. true) g n (place_or n r)
all_pass g n h e =
    by-test (ltb g n)
    (λ t. let l = ltb-true g n t in rw (e, t) (record { from = omega arith; most = h; none = λ k s i. absurd (omega arith); here = λ i. refl }))
    (λ t. let l = ltb-false g n t in rw (e, t) (record { from = h; most = omega arith; none = λ k s i. absurd (omega arith); here = λ i. absurd (omega arith) }))

in_list : (g n : ℕ) {r : Option ℕ} → r ≡ then_some (ltb g n) g → IfSome r (λ k. k < n)
in_list g n e = by-test (ltb g n) (λ t. rw (e, t) (ltb-true g n t)) (λ t. rw (e, t) tt)

pub returns-in_default : goal.returns-in_default
returns-in_default c = record { first = rw c.in_default.is (all_pass _ _ c.requires c.then_some.ensures); in_list = in_list _ _ c.then_some.ensures }

pub returns-clause-first : goal.returns-clause-first
returns-clause-first c = rw c.in-Some.is c.next_above.ensures.first
