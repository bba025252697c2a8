-- `leading::keep` meets its contract: with no bound all stay (`kept_all`); with one, a turn by `kept_turn`, from none on (`kept_none`, all in Keeping.antt).
use Rattle.std.specs.Prelude.{Some}
use mathlib.Core.Path.{◌≡◌, refl, ap, ◌∙◌}
use mathlib.Core.Bool.{not}
use native.Mathlib.Omega.{arith}
use Rattle.std.proofs.lemmas.List.{get_or-set_other, length-set}
use lib.Ieee.{nan}
use Rattle.gmm.specs.Inner.Leading.{stays}
use Rattle.gmm.proofs.Keeping.{byte-few, kept_all, kept_none, kept_turn}
use Rattle.gmm.proofs.leading.keep.Goals as goal

pub returns-in_default-clause-kept : goal.returns-in_default-clause-kept
returns-in_default-clause-kept c = kept_all c.args.bound _ _ _ _ c.in_default.is c.requires.0 c.requires.1 c.requires.2

pub loop-j-init : goal.loop-j-init
loop-j-init c =
    let q = c.requires in
    record {
      from = omega arith;
      most = omega arith;
      upto = q.0;
      long = refl;
      long2 = refl;
      rest = λ k s. refl;
      rest2 = λ k s. refl;
      kept = kept_none (stays (Some c.in-Some.v)) _ _ _ (omega (arith, q)) (omega (arith, q));
    }

pub loop-j-preserved : goal.loop-j-preserved
loop-j-preserved c =
    let l = c.loop-j in
    let v = l.invariant in
    let q = c.requires in
    let few = byte-few (not c.ahead.result) in
    record {
      from = omega (arith, v.from);
      most = omega (arith, few, v.most);
      upto = omega (arith, c.loop-j-test.true);
      long = length-set l.gauss l.n _ ∙ v.long;
      long2 = length-set l.posts l.n _ ∙ v.long2;
      rest = λ k s. get_or-set_other l.gauss l.n k _ 0 (omega (arith, s, v.most)) ∙ v.rest k (omega (arith, s));
      rest2 = λ k s. get_or-set_other l.posts l.n k _ nan (omega (arith, s, v.most)) ∙ v.rest2 k (omega (arith, s));
      kept = kept_turn c.in-Some.v _ l.j l.n _ l.gauss _ l.posts (omega (arith, v.from, v.most)) v.most (omega (arith, q)) (omega (arith, q)) v.long v.long2 (v.rest l.j (omega arith)) (v.rest2 l.j (omega arith)) (ap not c.ahead.ensures) v.kept;
    }

pub returns-clause-kept : goal.returns-clause-kept
returns-clause-kept c =
    let v = c.loop-j.invariant in
    let e : c.loop-j.j ≡ c.args.end = omega (arith, v.upto, c.loop-j-test.false) in
    rw (c.in-Some.is, ← e) v.kept
