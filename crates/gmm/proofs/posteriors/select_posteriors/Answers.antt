-- `posteriors::select_posteriors` meets its contract: the logarithm is that of `min_post`; no search is asked.
use Rattle.gmm.proofs.posteriors.select_posteriors.Goals as goal

pub select_by-requires-clause-log : goal.select_by-requires-clause-log
select_by-requires-clause-log c = c.ln_f32-ln.ensures
