-- The library compares floats three ways, and its `<` asks whether the answer is Less: that is the format's `<`.
use Rattle.std.specs.Prelude.{◌≡◌, refl, Bool, true, false, Some, None, Float, if◌then◌else◌}
use Rattle.std.specs.declared.cmp.Ordering.TheVariants.{Less, Equal, Greater}
use Rattle.std.specs.Ordering.{is_lt, is_some_and, partial_lt, float_partial_cmp}
use Rattle.std.specs.Float.Ieee.{lt, eq}

pub float_lt : (x y : Float) → partial_lt float_partial_cmp x y ≡ lt x y
float_lt x y = go (lt x y) (eq x y) (lt y x)
  where
    go : (a b c : Bool) → is_some_and is_lt (if a then Some Less else if b then Some Equal else if c then Some Greater else None) ≡ a
    go true b c = refl
    go false true c = refl
    go false false true = refl
    go false false false = refl
