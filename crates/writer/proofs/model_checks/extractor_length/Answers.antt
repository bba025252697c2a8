-- `extractor_length` meets its contract: no product of sizes in range passes 64 bits (Lengths.antt).
use native.Mathlib.Omega.{arith}
use Rattle.writer.proofs.Lengths.{blocks_low}
use Rattle.writer.proofs.model_checks.extractor_length.Goals as goal

pub overflow_add-result-5 : goal.overflow_add-result-5
overflow_add-result-5 c = omega (arith, blocks_low c.args.width c.args.z c.requires.few c.requires.sizes, c.requires.few)
