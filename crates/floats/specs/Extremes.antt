-- Rust's `max`, `min` and `abs`. A NaN is passed over by `max` and `min`. (`is_finite` is the library's `finite`.)
use Rattle.std.specs.Prelude.{false, is_nan, Float, if◌then◌else◌}
use Rattle.std.specs.Float.{nan, inf, fin}
use Rattle.std.specs.Float.Ieee.{lt}

unfoldable pub larger : Float → Float → Float
larger a b = if is_nan a then b else if lt a b then b else a

unfoldable pub smaller : Float → Float → Float
smaller a b = if is_nan a then b else if lt b a then b else a

unfoldable pub absolute : Float → Float
absolute nan = nan
absolute (inf s) = inf false
absolute (fin s m e) = fin false m e
