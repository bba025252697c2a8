-- `play` meets its contract: by its three ways out (Played.antt): sizes, a stream that is not made, calls that are played.
use Rattle.std.proofs.Common.{rules}
use mathlib.Core.Path.{◌≡◌, refl, sym}
use native.Mathlib.Omega.{arith}
use lib.ListN.{length}
use Rattle.definition.specs.Lent.{tables_in}
use Rattle.definition.specs.Number.{number_of}
use Rattle.stream.specs.Stream.{program_of}
use Rattle.stream.proofs.Records.{some_number}
use Rattle.lists.proofs.Steps.{size_taken, size_some}
use Rattle.lists.specs.Totals.{no_totals}
use Rattle.lists.specs.Inner.TryPlay.{totals_of}
use Rattle.lists.proofs.Played.{play_sized, play_refused, play_played, played_none}
use Rattle.lists.proofs.try_play.play.Goals as goal

pub returns-in_err-size_refusal-clause-play : goal.returns-in_err-size_refusal-clause-play
returns-in_err-size_refusal-clause-play c =
    let a = c.args in
    let r = c.in_err-size_refusal.ensures in
    let none : totals_of c.from_residual.result ≡ no_totals (number_of c.in_err-size_refusal.field-0.0) = search rules in
    let h = play_sized a.info (tables_in a.tables) (program_of a.stream.now) (length a.stream.now.scratch.now) a.seed a.times r.value (λ z. omega (arith, z, r.one_number)) none in
    (h.0, h.1, λ _. refl)

pub returns-in_err-start-clause-play : goal.returns-in_err-start-clause-play
returns-in_err-start-clause-play c =
    let a = c.args in
    let none : totals_of c.from_residual-in_err-start.result ≡ no_totals (number_of c.in_err-start.field-0.0) = search rules in
    let h = play_refused a.info (tables_in a.tables) (program_of a.stream.now) (length a.stream.now.scratch.now) a.seed a.times c.in_ok-size_refusal.ensures.value
    c.in_err-start.ensures.refusal (some_number _) c.in_err-start.ensures.fresh none in
    (h.0.0, h.0.1, λ _. c.start.ensures.scratch)

pub overflow_cast-state : goal.overflow_cast-state
overflow_cast-state c = omega (arith, (size_taken _ _ _ (sym c.in_ok-size_refusal.ensures.value)).0)

pub play_calls-requires : goal.play_calls-requires
play_calls-requires c =
    let none = sym c.in_ok-size_refusal.ensures.value in
    let h = size_taken _ _ _ none in
    (size_some _ _ _ none, h.1, h.2)

pub returns-clause-play : goal.returns-clause-play
returns-clause-play c =
    let a = c.args in
    let sizes = c.in_ok-size_refusal.ensures.value in
    let made = c.in_ok-start.ensures.refusal in
    let h = play_played a.info (tables_in a.tables) (program_of a.stream.now) (length a.stream.now.scratch.now) a.seed a.times sizes made c.in_ok-start.ensures.fresh refl
    (rw c.start.ensures.scratch at c.play_calls.ensures.played) in
    (h.0, h.1, λ some. absurd (some (played_none a.info (tables_in a.tables) (program_of a.stream.now) (length a.stream.now.scratch.now) a.seed a.times sizes made)))
