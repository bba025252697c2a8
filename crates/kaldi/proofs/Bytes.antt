-- Ranges of dimensions.
use Rattle.std.proofs.Common.{◌≡◌, ℕ, ◌≤◌, true, le-leb}
use Rattle.definition.specs.Options.{within}

pub in_range : (low high n : ℕ) → low ≤ n → n ≤ high → within low high n ≡ true
in_range low high n h l = simp (le-leb low n h, le-leb n high l)
