-- `exp_argument` gives x/128: widening keeps x (`exp_part`, Series.antt).
use Rattle.floats.proofs.Series.{exp_part}
use Rattle.floats.proofs.exp_argument.Goals as goal

pub returns : goal.returns
returns c = exp_part c.args.x c.f32_to_f64_with_nan.result c.f32_to_f64_with_nan.ensures
