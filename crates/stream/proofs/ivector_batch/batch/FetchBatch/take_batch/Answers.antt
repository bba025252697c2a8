-- `take_batch` meets its contract, by the invariant in Invariants.antt. The laws of a batch partway are those of Places.antt.
use mathlib.Core.Path.{◌≡◌, refl, ap, ◌∙◌}
use Prim.Native.Nat.{ℕ, ◌+◌}
use native.Mathlib.Nat.{zero-add}
use native.Mathlib.Omega.{arith}
use mathlib.Core.List.{[]}
use lib.ListN.{length}
use lib.Seq.{length-take-le}
use Rattle.loops.proofs.Fill.{lent_length}
use Rattle.definition.specs.Changes.{Batch}
use Rattle.definition.specs.Estimate.{entries, nans_over}
use Rattle.gmm.proofs.Batches.{sums_on}
use Rattle.stream.specs.Inner.IvectorBatch.{left_of}
use Rattle.stream.specs.Fetched.{model_of, frames_of}
use Rattle.stream.proofs.Places.{left_all, left_none, left_less, nans_none, nans_less, none_left, whole_batch}
use Rattle.stream.proofs.Counted.{nans_few}
use Rattle.stream.proofs.ivector_batch.batch.FetchBatch.take_batch.Goals.{After-take_frame-heard, After-loop-j, Start}
use Rattle.stream.proofs.ivector_batch.batch.FetchBatch.take_batch.Goals as goal

pub loop-j-init : goal.loop-j-init
loop-j-init c =
    let b = c.args.self.now in
    record {
      most = omega arith;
      state = refl;
      normalized = refl;
      raw = refl;
      same_sums = (refl, refl, refl, refl, refl, refl);
      same_likes = (refl, refl, refl, refl);
      slots = c.requires.slots;
      partway = left_all (model_of b) (frames_of b) (left_of b.info.opts b.intake c.places-places.result 0) c.args.cmvn.now c.args.sums.now c.requires.none;
      nans = zero-add _;
    }

-- the NaNs so far with those of this frame, and those of what is left
counted : (c : After-take_frame-heard) →
    let b = c.args.self.now in
    let left : ℕ → Batch = left_of b.info.opts b.intake c.places-places.result in
    c.loop-j.nans + c.take_frame-heard.result + nans_over (model_of b) (frames_of b) (left c.frame_at-b.result.end) c.take_frame-heard.new.cmvn
    ≡ nans_over (model_of b) (frames_of b) (left 0) c.args.cmvn.now
counted c =
    let b = c.args.self.now in
    nans_less (model_of b) (frames_of b) c.loop-j.nans (left_of b.info.opts b.intake c.places-places.result c.loop-j.j) c.loop-j.cmvn c.loop-j.invariant.nans c.take_frame-heard.result
    c.frame_at-b.ensures.left c.take_frame-heard.ensures.state c.take_frame-heard.ensures.nans

pub overflow_add-nans : goal.overflow_add-nans
overflow_add-nans c =
    let b = c.args.self.now in
    let whole = whole_batch b.info.opts b.intake c.places-places.ensures in
    let few = nans_few (model_of b) (frames_of b) (left_of b.info.opts b.intake c.places-places.result 0) c.args.cmvn.now b.ready.gauss_in (omega (arith, ap length whole, b.brought.short)) in
    omega (arith, counted (goal.at.overflow_add-nans c).After-take_frame-heard, few)

pub loop-j-preserved : goal.loop-j-preserved
loop-j-preserved c =
    let b = c.args.self.now in
    let was = c.loop-j.invariant in
    let d = b.info.dims.feat_dim in
    let e = c.take_frame-heard.ensures in
    record {
      most = c.frame_at-b.ensures.within;
      state = c.take_frame-heard.auto.cmvn ∙ was.state;
      normalized = lent_length d c.loop-j.normalized c.take_frame-heard.new.normalized
          (c.take_frame-heard.auto.normalized ∙ length-take-le _ _ (omega (arith, was.normalized, b.ready.feat_in))) (omega (arith, was.normalized, b.ready.feat_in)) ∙ was.normalized;
      raw = lent_length d c.loop-j.raw c.take_frame-heard.new.raw
          (c.take_frame-heard.auto.raw ∙ length-take-le _ _ (omega (arith, was.raw, b.ready.feat_in))) (omega (arith, was.raw, b.ready.feat_in)) ∙ was.raw;
      same_sums = (e.loans.0 ∙ was.same_sums.0, e.loans.1 ∙ was.same_sums.1, e.loans.2 ∙ was.same_sums.2, e.loans.3 ∙ was.same_sums.3, e.loans.4 ∙ was.same_sums.4, e.loans.5 ∙ was.same_sums.5);
      same_likes = (e.like_loans.0 ∙ was.same_likes.0, e.like_loans.1 ∙ was.same_likes.1, e.like_loans.2 ∙ was.same_likes.2, e.like_loans.3 ∙ was.same_likes.3);
      slots = e.grown.0;
      partway = left_less (model_of b) (frames_of b) (left_of b.info.opts b.intake c.places-places.result 0) c.args.cmvn.now was.partway c.frame_at-b.ensures.left e.state e.grown.1;
      nans = counted (goal.at.loop-j-preserved c).After-take_frame-heard;
    }

-- none is left
all_of : (c : After-loop-j) → left_of c.args.self.now.info.opts c.args.self.now.intake c.places-places.result c.loop-j.j ≡ []
all_of c =
    let x = c.args.self.now.intake in
    none_left c.args.self.now.info.opts x.called x.next c.places-places.result x.waiting.frames.now x.waiting.weights.now c.loop-j.j c.loop-j-test.false

pub returns-clause-state : goal.returns-clause-state
returns-clause-state c =
    let b = c.args.self.now in
    let all = left_none (model_of b) (frames_of b) (left_of b.info.opts b.intake c.places-places.result 0) c.args.cmvn.now c.loop-j.invariant.partway (all_of (goal.at.returns-clause-state c).After-loop-j) in
    all.0 ∙ ap (λ (bs : Batch). (entries (model_of b) (frames_of b) bs c.args.cmvn.now).0) (whole_batch b.info.opts b.intake c.places-places.ensures)

pub returns-clause-sums : goal.returns-clause-sums
returns-clause-sums c =
    let b = c.args.self.now in
    let all = left_none (model_of b) (frames_of b) (left_of b.info.opts b.intake c.places-places.result 0) c.args.cmvn.now c.loop-j.invariant.partway (all_of (goal.at.returns-clause-sums c).After-loop-j) in
    sums_on (ap (λ (bs : Batch). (entries (model_of b) (frames_of b) bs c.args.cmvn.now).1) (whole_batch b.info.opts b.intake c.places-places.ensures)) all.1

pub returns-clause-nans : goal.returns-clause-nans
returns-clause-nans c =
    let b = c.args.self.now in
    nans_none (model_of b) (frames_of b) c.loop-j.nans (left_of b.info.opts b.intake c.places-places.result c.loop-j.j) c.loop-j.cmvn c.loop-j.invariant.nans (all_of (goal.at.returns-clause-nans c).After-loop-j)
    ∙ ap (λ (bs : Batch). nans_over (model_of b) (frames_of b) bs c.args.cmvn.now) (whole_batch b.info.opts b.intake c.places-places.ensures)
