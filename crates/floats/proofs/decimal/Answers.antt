-- `decimal` gives `scaled W.format minus m up down`: ±m and the power of ten are each held by the format, so that one product or quotient rounds once
-- (`times_ten`, `over_ten` in Tens.antt).
use Rattle.std.proofs.Common.{Bool, sym, ap, ◌∙◌, subst}
use lib.Ieee.{neg}
use lib.Ieee.Exact.{HasValue}
use Rattle.floats.proofs.Tens.{plus_value, minus_value, times_ten, over_ten}
use Rattle.floats.proofs.decimal.Given.{Over}
use Rattle.floats.proofs.decimal.Goals.{Joined-minus, then-minus, else-minus}
use Rattle.floats.proofs.decimal.Goals as goal

-- x is ±m
signed : (g : Over) (c : Joined-minus g) → let a = c.args in HasValue (g.W.Real.float c.if-minus.x) a.minus a.m 1
signed g c =
    let a = c.args in
    let h = c.requires.m_bound in
    let f = g.W.Real.format in
    let x = g.W.Real.float c.if-minus.x in
    elim c.if-minus.branch [
      | then-minus w ↦ subst (λ (s : Bool). HasValue x s a.m 1) (sym w.if-minus.true)
          (minus_value f a.m h x (ap g.W.Real.float w.x-is ∙ g.met.W.Arithmetic.neg_is _ _ w.neg-x.ensures ∙ ap neg c.whole-whole.ensures))
      | else-minus w ↦ subst (λ (s : Bool). HasValue x s a.m 1) (sym w.if-minus.false) (plus_value f a.m h x (ap g.W.Real.float w.x-is ∙ c.whole-whole.ensures))
    ]

pub returns-then-down-up : goal.returns-then-down-up
returns-then-down-up g c =
    let a = c.args in
    g.met.W.Arithmetic.mul_is _ _ _ c.mul.ensures
    ∙ times_ten g.W.Real.format a.minus a.m a.up a.down _ _ (signed g (goal.at.returns-then-down-up g c).Joined-minus) c.if-down-up.true c.requires.up_bound.0 c.ten.ensures

pub returns-else-down-up : goal.returns-else-down-up
returns-else-down-up g c =
    let a = c.args in
    g.met.W.Arithmetic.div_is _ _ _ c.div.ensures
    ∙ over_ten g.W.Real.format a.minus a.m a.up a.down _ _ (signed g (goal.at.returns-else-down-up g c).Joined-minus) c.if-down-up.false c.requires.up_bound.1 c.ten-else-down-up.ensures
