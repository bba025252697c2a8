-- `cmvn_smooth` meets its contract, by whether the count is below the window (`smooth_true`, `smooth_false` in Normalised.antt).
use Rattle.stream.proofs.Normalised.{smooth_true, smooth_false}
use Rattle.stream.proofs.frame_views.view.StreamView.cmvn_smooth.Goals as goal

pub returns-then-cur_count-window : goal.returns-then-cur_count-window
returns-then-cur_count-window c =
    smooth_true _ _ _ _ c.nearest_u64_to_f64-window.ensures c.requires
    c.if-cur_count-window.true c.nearest_u64_to_f64.ensures c.min-from_global.ensures c.add_scaled.ensures

pub returns-else-cur_count-window : goal.returns-else-cur_count-window
returns-else-cur_count-window c = smooth_false _ _ _ _ c.nearest_u64_to_f64-window.ensures c.if-cur_count-window.false
