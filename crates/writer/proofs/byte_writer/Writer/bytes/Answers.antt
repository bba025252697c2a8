-- `Writer::bytes` meets its contract: the part that is copied comes back into the room it was lent from (`put_back`).
use mathlib.Core.Path.{refl, ap, ◌∙◌}
use Prim.Native.Nat.{◌+◌, ◌-◌}
use native.Mathlib.Omega.{arith}
use lib.ListN.{length}
use Rattle.loops.specs.Ring.{put}
use Rattle.loops.proofs.Fill.{length_put, put_back}
use Rattle.writer.proofs.byte_writer.Writer.bytes.Goals as goal

pub returns : goal.returns
returns c =
    let w = c.args.self.now in
    let src = c.args.src.now in
    let copied = c.copy_from_slice.ensures.after in
    let put_so = put_back w.at (w.at + length src - w.at) c.copy_from_slice.new.self w.out.now (ap length copied ∙ omega arith) ∙ ap (λ (l : _). put w.at l w.out.now) copied in
    record { next_is = refl; out_is = put_so; long = ap length put_so ∙ length_put w.at src w.out.now c.requires.fits; same_out = refl }
