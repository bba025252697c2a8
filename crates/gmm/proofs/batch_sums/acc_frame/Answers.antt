-- `batch_sums::acc_frame` meets its contract, by the frame's kind: a skipped frame adds no entry (`skipped_adds`), a weighed one its scaled posteriors
-- (`weighed_adds`, both in Batches.antt, as are the laws of its NaNs): the log-likelihoods, their selection, then its posteriors one by one. The chosen
-- Gaussians are below `num_gauss` by `Fair`, which `select_by` ensures.
use Rattle.std.proofs.Common.{List, ◌++◌, map, ap, ◌∙◌}
use lib.Ieee.{Float}
use Rattle.definition.specs.Posteriors.{Post, select_posteriors, nan_count}
use Rattle.gmm.specs.Batch.{scaled_entry}
use Rattle.gmm.proofs.Batches.{sums_on, skipped_adds, weighed_adds, skipped_nans, weighed_nans}
use Rattle.gmm.proofs.batch_sums.acc_frame.Goals as goal

pub returns-in-Weighed-clause-grown : goal.returns-in-Weighed-clause-grown
returns-in-Weighed-clause-grown c =
    let a = c.args in
    let w = c.in-Weighed in
    let g = c.acc_posteriors.ensures.grown in
    let here = c.select_by-selection.ensures.selected.here in (
      g.0,
      λ es h. sums_on (ap (λ (l : List Post). es ++ map (scaled_entry w.scale a.features.raw.now) l) (here ∙ ap (λ (l : List Float). select_posteriors l a.num_gselect w.floor) c.loglikes.ensures.likes)
          ∙ weighed_adds a.num_gselect _ a.features.raw.now es _ _ w.is) (g.1 es h),
    )

pub select_by-selection-requires-clause-log : goal.select_by-selection-requires-clause-log
select_by-selection-requires-clause-log c = c.requires.log _ _ c.in-Weighed.is

pub returns-in-Weighed-clause-nans : goal.returns-in-Weighed-clause-nans
returns-in-Weighed-clause-nans c = c.select_by-selection.ensures.nans ∙ ap nan_count c.loglikes.ensures.likes ∙ weighed_nans _ _ _ c.in-Weighed.is

-- ---- a skipped frame

pub returns-in-Skipped-clause-grown : goal.returns-in-Skipped-clause-grown
returns-in-Skipped-clause-grown c = (c.requires.slots, λ es h. sums_on (skipped_adds c.args.num_gselect _ c.args.features.raw.now es c.in-Skipped.is) h)

pub returns-in-Skipped-clause-nans : goal.returns-in-Skipped-clause-nans
returns-in-Skipped-clause-nans c = skipped_nans _ c.in-Skipped.is
