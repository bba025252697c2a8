-- What is copied are the first numbers of the offset (`build_take` in loops/proofs/Build.antt).
use Rattle.std.proofs.Common.{refl, sym, length, ◌∙◌}
use lib.Ieee.{nan}
use Rattle.floats.specs.Operators.{at}
use Rattle.loops.proofs.Build.{build_take}
use Rattle.loops.proofs.Fill.{fill_whole}
use Rattle.stream.proofs.frame_views.copy_offset.Goals as goal

pub returns : goal.returns
returns c =
    let n = length c.args.out.now in
    c.copy_from_slice.ensures.after ∙ sym (build_take nan n c.args.offset.now c.requires) ∙ sym (fill_whole (at c.args.offset.now) n c.args.out.now refl)
