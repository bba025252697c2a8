-- What a sound record of a model says of numbers: its window is 1 to 1,000, its base dimension not 0.
use mathlib.Core.Path.{◌≡◌}
use Prim.Native.Nat.{◌≤◌, ◌<◌}
use mathlib.Core.Bool.{true}
use Rattle.definition.specs.declared.IvectorInfo.{IvectorInfo}
use Rattle.definition.specs.Stream.{info_sound}
use Rattle.definition.proofs.Ranges.{option_ranges, dim-ranges, info_sound_lem}

pub record Ranges (i : IvectorInfo) : Type 0 where
  pub some_window : 0 < i.opts.cmn_window
  pub window_is : i.opts.cmn_window ≤ 1000
  pub some_base : 0 < i.dims.base_dim

pub ranges : (i : IvectorInfo) → info_sound i ≡ true → Ranges i
ranges i e =
    let s = (info_sound_lem i e).0 in
    let o = option_ranges i.opts s.options_are in
    record { some_window = o.some_window; window_is = o.window_is; some_base = (dim-ranges i.dims s.dims_are).some_base }
