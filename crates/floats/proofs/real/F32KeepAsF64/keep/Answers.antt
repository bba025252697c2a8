-- `keep` keeps the number, as the library's widening does; no search is asked.
use Rattle.floats.proofs.real.F32KeepAsF64.keep.Goals as goal

pub returns : goal.returns
returns c = c.f32_to_f64_with_nan.ensures
