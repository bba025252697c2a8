-- `acc_posteriors` meets its contract, by the invariant in Invariants.antt (`batch_next` in Batches.antt).
use Rattle.std.proofs.Common.{[], ◌∷◌, ◌++◌, get_or, refl, ap, ◌∙◌, arith}
use lib.Ieee.{Float}
use Rattle.gmm.proofs.Batches.{sums_on, batch_none, batch_next, batch_all, batch}
use Rattle.gmm.specs.Batch.{entry_of, scaled_entry}
use Rattle.gmm.proofs.batch_sums.acc_posteriors.Goals as goal

pub loop-i-init : goal.loop-i-init
loop-i-init c =
    let a = c.args in
    record {
      most = omega arith;
      same = (refl, refl, refl, refl, refl, refl);
      grown = (c.requires.slots, λ es h. sums_on (batch_none a.chosen.now.gauss.now a.chosen.now.posts.now es (scaled_entry a.scale a.raw.now)) h);
    }

pub loop-i-preserved : goal.loop-i-preserved
loop-i-preserved c =
    let l = c.loop-i in
    let a = c.args in
    let p = c.requires.places in
    let v = l.invariant in
    let z = a.chosen.now in
    let e = c.add_posterior.ensures in
    let entry = λ (w : Float). entry_of a.raw.now (get_or z.gauss.now l.i 0, w) in
    record {
      most = omega (arith, c.loop-i-test.true);
      same = (e.loans.0 ∙ v.same.0, e.loans.1 ∙ v.same.1, e.loans.2 ∙ v.same.2, e.loans.3 ∙ v.same.3, e.loans.4 ∙ v.same.4, e.loans.5 ∙ v.same.5);
      grown = (
        e.grown.0,
        λ es h. sums_on (ap (λ (w : Float). batch z.gauss.now z.posts.now es (scaled_entry a.scale a.raw.now) l.i ++ (entry w ∷ [])) c.f32_to_f64_with_nan-w.ensures
            ∙ batch_next z.gauss.now z.posts.now es (scaled_entry a.scale a.raw.now) l.i (omega (arith, c.loop-i-test.true, p)) (omega (arith, c.loop-i-test.true, p))) (e.grown.1 _ (v.grown.1 es h)),
      );
    }

pub returns-clause-grown : goal.returns-clause-grown
returns-clause-grown c =
    let a = c.args in
    let z = a.chosen.now in
    let v = c.loop-i.invariant in
    (v.grown.0, λ es h. sums_on (batch_all z.gauss.now z.posts.now es (scaled_entry a.scale a.raw.now) c.loop-i.i a.n v.most c.loop-i-test.false) (v.grown.1 es h))
