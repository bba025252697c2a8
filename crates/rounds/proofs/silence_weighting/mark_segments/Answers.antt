-- `mark_segments` meets its contract, by the invariant in Invariants.antt.
use native.Mathlib.Omega.{arith}
use mathlib.Core.Bool.{true, false}
use mathlib.Core.Path.{◌≡◌, refl, ◌∙◌}
use lib.IntN.{pos}
use lib.ListN.{get_or}
use Rattle.loops.specs.Lists.{any_of}
use Rattle.definition.specs.Silence.{same_phone}
use Rattle.rounds.proofs.Phones.{contains_is}
use Rattle.rounds.proofs.Tables.{place_in, length_table}
use Rattle.rounds.proofs.Walk.{known_at, silence-at}
use Rattle.rounds.proofs.Marks.{mark_none, mark_turn, mark_end, known-given, silence-given}
use Rattle.rounds.proofs.silence_weighting.mark_segments.Goals as goal

pub loop-i-init : goal.loop-i-init
loop-i-init c =
    record {
      known_long = refl;
      silence_long = refl;
      marked = λ n ws d lk ls. (
        mark_none _ _ _ _ _ _ (λ f. f.known) _ false n lk (λ k l. place_in false false n _ k l ∙ known_at n _ _ ws k),
        mark_none _ _ _ _ _ _ (λ f. f.is_silence) _ false n ls (λ k l. place_in false false n _ k l ∙ silence-at n _ _ ws k),
      );
    }

pub loop-i-preserved : goal.loop-i-preserved
loop-i-preserved c =
    let v = c.loop-i.invariant in
    let sil : c.contains-sil.result ≡ any_of (same_phone (get_or c.args.path.phones.now c.loop-i.i (pos 0))) c.args.silence_phones.now = c.contains-sil.ensures.value ∙ contains_is _ _ in
    record {
      known_long = omega arith;
      silence_long = omega arith;
      marked = λ n ws d lk ls. (
        mark_turn _ _ _ _ _ _ (λ f. f.known) _ true _ (known-given _) n _ _ _ _ _ d c.min-stop.ensures c.min-start.ensures refl (v.marked n ws d lk ls).0 c.fill.ensures,
        mark_turn _ _ _ _ _ _ (λ f. f.is_silence) _ _ _ (silence-given _) n _ _ _ _ _ d c.min-stop.ensures c.min-start.ensures refl (v.marked n ws d lk ls).1
            (rw sil at c.fill-in-loop-i.ensures),
      );
    }

pub returns : goal.returns
returns c =
    λ n ws d lk ls.
    let marked = c.loop-i.invariant.marked n ws d lk ls in (
      marked.0 ∙ mark_end _ _ _ _ _ _ (λ f. f.known) _ n _ (length_table n _ _ ws) d (omega arith),
      marked.1 ∙ mark_end _ _ _ _ _ _ (λ f. f.is_silence) _ n _ (length_table n _ _ ws) d (omega arith),
    )
