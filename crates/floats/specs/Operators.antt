-- Rust's operators on f32 and f64, each rounded once. An f32 is an f64 as it stands, so widening is not written.
use Rattle.std.specs.Prelude.{ℕ, List, pos, from_bits, slice_index_or, Float}
use Rattle.std.specs.Float.{nan, binary32, binary64}
use Rattle.std.specs.Float.Ieee.{add, sub, mul, div, of_int}
use Rattle.std.specs.List.{fold}
use Rattle.loops.specs.Loop.{iter}

infixl 65 ◌+₃₂◌ ◌-₃₂◌ ◌+₆₄◌ ◌-₆₄◌
infixl 70 ◌*₃₂◌ ◌/₃₂◌ ◌*₆₄◌ ◌/₆₄◌
abbrev pub ◌+₃₂◌ : Float → Float → Float
◌+₃₂◌ = add binary32

abbrev pub ◌-₃₂◌ : Float → Float → Float
◌-₃₂◌ = sub binary32

abbrev pub ◌*₃₂◌ : Float → Float → Float
◌*₃₂◌ = mul binary32

abbrev pub ◌/₃₂◌ : Float → Float → Float
◌/₃₂◌ = div binary32

abbrev pub ◌+₆₄◌ : Float → Float → Float
◌+₆₄◌ = add binary64

abbrev pub ◌-₆₄◌ : Float → Float → Float
◌-₆₄◌ = sub binary64

abbrev pub ◌*₆₄◌ : Float → Float → Float
◌*₆₄◌ = mul binary64

abbrev pub ◌/₆₄◌ : Float → Float → Float
◌/₆₄◌ = div binary64

-- constants, by their bits
abbrev pub f32 : ℕ → Float
f32 = from_bits binary32

abbrev pub f64 : ℕ → Float
f64 = from_bits binary64

abbrev pub zero₃₂ : Float
zero₃₂ = f32 0

abbrev pub one₃₂ : Float
one₃₂ = f32 0x3f80_0000

abbrev pub zero₆₄ : Float
zero₆₄ = f64 0

abbrev pub one₆₄ : Float
one₆₄ = f64 0x3ff0_0000_0000_0000

abbrev pub half₆₄ : Float
half₆₄ = f64 0x3fe0_0000_0000_0000

-- a count as an f64, and as an f32
abbrev pub as_f64 : ℕ → Float
as_f64 n = of_int binary64 (pos n)

abbrev pub as_f32 : ℕ → Float
as_f32 n = of_int binary32 (pos n)

-- element i, for an i below the length
abbrev pub at : List Float → ℕ → Float
at xs i = slice_index_or xs i nan

-- s + f 0 + f 1 + .. + f (n - 1), added in this order
abbrev pub sum₃₂ : Float → ℕ → (ℕ → Float) → Float
sum₃₂ s n f = iter n (λ k a. a +₃₂ f k) s

abbrev pub sum₆₄ : Float → ℕ → (ℕ → Float) → Float
sum₆₄ s n f = iter n (λ k a. a +₆₄ f k) s

-- s plus each of a list, in order
abbrev pub total₆₄ : Float → List Float → Float
total₆₄ = fold ◌+₆₄◌
