-- `run` meets its contract, by its three ways out (Runs.antt): a list that is refused, a stream that is not made, a list that is played.
use Rattle.std.proofs.Common.{rules}
use Rattle.std.proofs.lemmas.Result.{err_from_is_err_and}
use mathlib.Core.Path.{◌≡◌, refl, sym, ap, ◌∙◌}
use mathlib.Core.List.{List}
use Prim.Native.Nat.{ℕ, ◌+◌, ◌-◌, ◌*◌}
use native.Mathlib.Omega.{arith}
use lib.ListN.{length}
use Rattle.loops.specs.Ring.{put}
use Rattle.loops.proofs.Fill.{put_back}
use Rattle.definition.specs.Lent.{tables_in}
use Rattle.definition.specs.Number.{refused_by}
use Rattle.definition.specs.Machine.{Call}
use Rattle.stream.specs.Stream.{program_of}
use Rattle.stream.proofs.Records.{some_number}
use Rattle.stream.proofs.Loans.{still_lent}
use Rattle.lists.specs.Listed.{calls, Written, written, list_refusal}
use Rattle.lists.proofs.Lists.{left_again, left_last}
use Rattle.lists.proofs.Runs.{list_taken, run_listed, run_refused, run_played}
use Rattle.lists.proofs.run_calls.run.Goals.{Start}
use Rattle.lists.proofs.run_calls.run.Goals as goal

-- what is lent, at the start
abbrev rooms-for : Start → Written
rooms-for c = written c.args.answers.now c.args.outs.now

abbrev list : Start → List Call
list c =
    let a = c.args in
    calls a.list.kinds.now a.list.numbers.now a.list.lists.now a.list.samples.now (length a.outs.now)

-- ---- the list

pub returns-in_err-check_list-clause-run : goal.returns-in_err-check_list-clause-run
returns-in_err-check_list-clause-run c =
    let a = c.args in
    let start = (goal.at.returns-in_err-check_list-clause-run c).Start in
    let r : refused_by c.from_residual.result ≡ list_refusal (length a.list.kinds.now) (length a.list.numbers.now) (length a.answers.now) = search rules in
    let n : refused_by c.from_residual.result ≡ 99 = search rules in
    let h = run_listed a.info (tables_in a.tables) (program_of a.stream.now) (length a.stream.now.scratch.now) a.list.numbers.now (list start) (rooms-for start)
    (length a.list.kinds.now) (length a.list.numbers.now) (length a.answers.now) r (λ z. omega (arith, z, n)) in
    (h.0, h.1, h.2, λ _. refl)

-- ---- a stream that is not made

pub returns-in_err-start-clause-run : goal.returns-in_err-start-clause-run
returns-in_err-start-clause-run c =
    let a = c.args in
    let begin = (goal.at.returns-in_err-start-clause-run c).Start in
    let e = err_from_is_err_and c.from_residual-in_err-start.result c.from_residual-in_err-start.ensures.1 in
    let h = run_refused a.info (tables_in a.tables) (program_of a.stream.now) (length a.stream.now.scratch.now) a.list.numbers.now (list begin) (rooms-for begin)
    (length a.list.kinds.now) (length a.list.numbers.now) (length a.answers.now) (sym c.in_ok-check_list.ensures.value)
    c.in_err-start.ensures.refusal (some_number _) c.in_err-start.ensures.fresh in
    rw (e.1, e.2) (h.0, h.1, h.2, λ _. c.start.ensures.scratch)

-- ---- the loop: the list's numbers and the room for its answers are long enough

pub call_at-call-requires : goal.call_at-call-requires
call_at-call-requires c =
    let long = list_taken _ _ _ (sym c.in_ok-check_list.ensures.value) in
    (omega (arith, c.loop-i-test.true, c.loop-i.auto.i-end), omega (arith, c.loop-i-test.true, c.loop-i.auto.i-end, long.0))

pub overflow_mul-i : goal.overflow_mul-i
overflow_mul-i c =
    let long = list_taken _ _ _ (sym c.in_ok-check_list.ensures.value) in
    omega (arith, c.loop-i-test.true, c.loop-i.auto.i-end, long.1)

pub overflow_mul-i-in-loop-i : goal.overflow_mul-i-in-loop-i
overflow_mul-i-in-loop-i c =
    let long = list_taken _ _ _ (sym c.in_ok-check_list.ensures.value) in
    omega (arith, c.loop-i-test.true, c.loop-i.auto.i-end, long.1)

pub overflow_add-i : goal.overflow_add-i
overflow_add-i c =
    let long = list_taken _ _ _ (sym c.in_ok-check_list.ensures.value) in
    omega (arith, c.loop-i-test.true, c.loop-i.auto.i-end, long.1)

pub offset_bounds-answers-i : goal.offset_bounds-answers-i
offset_bounds-answers-i c =
    let long = list_taken _ _ _ (sym c.in_ok-check_list.ensures.value) in
    omega (arith, c.loop-i-test.true, c.loop-i.auto.i-end, long.1)

pub slice_bounds-copy_from_slice-end : goal.slice_bounds-copy_from_slice-end
slice_bounds-copy_from_slice-end c =
    let long = list_taken _ _ _ (sym c.in_ok-check_list.ensures.value) in
    omega (arith, c.loop-i-test.true, c.loop-i.auto.i-end, c.loop-i.auto.answers, long.1)

pub loop-i-init : goal.loop-i-init
loop-i-init c = record { left = record { same = refl; there = refl }; scratch = ap length c.start.ensures.scratch; rooms = c.start.ensures.loans }

pub loop-i-preserved : goal.loop-i-preserved
loop-i-preserved c =
    let l = c.loop-i in
    let was = l.invariant in
    let same = c.turn-told.ensures in
    let five = c.copy_from_slice.ensures.after ∙ c.numbers_of.ensures in
    let wrote = put_back (l.i * 5) (l.i * 5 + 5 - l.i * 5) c.copy_from_slice.new.self l.answers (omega (arith, ap length five)) ∙ ap (λ (x : List ℕ). put (l.i * 5) x l.answers) five in
    record {
      left = left_again _ _ _ _ _ _ _ _ l.i _ _ was.left (omega (arith, c.loop-i-test.true, l.auto.i-end)) was.scratch l.auto.outs c.call_at-call.ensures same.call wrote;
      scratch = same.scratch ∙ was.scratch;
      rooms = still_lent was.rooms same.rooms;
    }

-- ---- a list that is played

pub returns-clause-run : goal.returns-clause-run
returns-clause-run c =
    let a = c.args in
    let begin = (goal.at.returns-clause-run c).Start in
    let all = left_last _ _ _ _ _ _ _ _ _ _ _ c.loop-i.invariant.left (omega (arith, c.loop-i-test.false, c.loop-i.auto.i-end)) in
    let h = run_played a.info (tables_in a.tables) (program_of a.stream.now) (length a.stream.now.scratch.now) a.list.numbers.now (list begin) (rooms-for begin)
    (length a.list.kinds.now) (length a.list.numbers.now) (length a.answers.now) (sym c.in_ok-check_list.ensures.value)
    c.in_ok-start.ensures.refusal c.in_ok-start.ensures.fresh all in
    (h.0, h.1, h.2, λ some. absurd (some refl))
