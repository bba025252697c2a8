-- "Statistics and solve": `OnlineIvectorStats`, but for the solve.
use Rattle.std.specs.Prelude.{ℕ, ◌+◌, ◌*◌, ◌&&◌, set, replicate, eqb, Float, if◌then◌else◌}
use mathlib.Core.List.{List, [], ◌∷◌, ◌++◌, map, foldl}
use Rattle.std.specs.Float.Ieee.{lt, ne}
use Rattle.loops.specs.Loop.{iter}
use Rattle.loops.specs.Lists.{build, those, any_of}
use Rattle.floats.specs.Operators.{◌+₆₄◌, ◌-₆₄◌, ◌*₆₄◌, ◌/₆₄◌, zero₆₄, one₆₄, at, sum₆₄, total₆₄}
use Rattle.floats.specs.Extremes.{larger}
use Rattle.definition.specs.Kaldi.{triangle}
use Rattle.definition.specs.Model.{packed}

pub record Stats : Type 0 where
  pub num_frames : Float
  pub linear : List Float
  pub quadratic : List Float  -- packed

abbrev pub stats_from : Float → List Float → List Float → Stats
stats_from n linear quadratic = record { num_frames = n; linear = linear; quadratic = quadratic }

-- v added to the diagonal of a packed matrix, s wide
unfoldable pub add_diagonal : ℕ → Float → List Float → List Float
add_diagonal s v q = iter s (λ i q. set q (packed i i) (at q (packed i i) +₆₄ v)) q

-- `OnlineIvectorStats::new`, of the i-vector dimension and the prior offset
unfoldable pub new_stats : ℕ → Float → Stats
new_stats s prior = stats_from zero₆₄ (set (replicate s zero₆₄) 0 (zero₆₄ +₆₄ prior)) (add_diagonal s one₆₄ (replicate (triangle s) zero₆₄))

-- more of the prior, past `max_count` frames: tot is the batch's weight
unfoldable pub rescaled : ℕ → Float → Float → Float → Stats → Stats
rescaled s prior max_count tot st =
    let scale : Float → Float = λ n. larger n max_count /₆₄ max_count in
    let change = scale (st.num_frames +₆₄ tot) -₆₄ scale st.num_frames in
    let more = lt zero₆₄ max_count && ne change zero₆₄ in
    stats_from (st.num_frames +₆₄ tot) (if more then set st.linear 0 (at st.linear 0 +₆₄ prior *₆₄ change) else st.linear)
    (if more then add_diagonal s change st.quadratic else st.quadratic)

-- a posterior of a batch: its Gaussian, its scaled value, and the raw feature row of its frame
pub record Entry : Type 0 where
  pub gauss : ℕ
  pub value : Float
  pub feats : List Float

-- the Gaussians of a batch, in the order first seen
unfoldable pub seen : List Entry → List ℕ
seen es = foldl (λ gs e. if any_of (eqb e.gauss) gs then gs else gs ++ (e.gauss ∷ [])) [] es

-- over the batch, for Gaussian g: the sum of what v is of each of its entries
unfoldable pub sum_for : List Entry → ℕ → (Entry → Float) → Float
sum_for es g v = total₆₄ zero₆₄ (map v (those (λ e. eqb e.gauss g) es))

-- `acc`, before the prior's scaling: per Gaussian over the batch, Gaussians in the order first seen
unfoldable pub acc_linear : ℕ → ℕ → List Float → List Entry → List Float → List Float
acc_linear d s sigma_inv_m es linear = build s (λ c. total₆₄ (at linear c) (map (λ g.
    sum₆₄ zero₆₄ d (λ a. at sigma_inv_m ((g * d + a) * s + c) *₆₄ sum_for es g (λ e. e.value *₆₄ at e.feats a))) (seen es)))

unfoldable pub acc_quadratic : ℕ → List Float → List Entry → List Float → List Float
acc_quadratic s u es quadratic = build (triangle s) (λ i. total₆₄ (at quadratic i) (map (λ g.
    sum_for es g (λ e. e.value) *₆₄ at u (g * triangle s + i)) (seen es)))

unfoldable pub acc : ℕ → ℕ → List Float → List Float → Float → Float → List Entry → Stats → Stats
acc d s sigma_inv_m u prior max_count es st =
    rescaled s prior max_count (total₆₄ zero₆₄ (map (λ g. sum_for es g (λ e. e.value)) (seen es)))
    (stats_from st.num_frames (acc_linear d s sigma_inv_m es st.linear) (acc_quadratic s u es st.quadratic))
