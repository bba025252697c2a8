-- try_notes: words of inner contracts, the tally of calls and answers.
use Rattle.std.specs.Prelude.{ℕ, ◌+◌, max, List, get_or, set}
use Rattle.definition.specs.declared.StreamAnswer.{StreamAnswer}

-- counts with one more at place k
unfoldable pub counted : List ℕ → ℕ → List ℕ
counted l k = set l k (get_or l k 0 + 1)

-- counts by kind, counts by refusal, the greatest frames held
pub record Tally : Type 0 where
  pub calls : List ℕ
  pub refusals : List ℕ
  pub most : ℕ

abbrev pub tally : List ℕ → List ℕ → ℕ → Tally
tally c r m = record { calls = c; refusals = r; most = m }

abbrev pub noted : Tally → ℕ → StreamAnswer → Tally
noted s k a = tally (counted s.calls k) (counted s.refusals a.refusal) (max s.most a.frames_held)
