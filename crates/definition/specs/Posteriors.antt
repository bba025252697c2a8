-- "Posteriors and weights": `DiagGmm::loglikes`, `select_posteriors`, and how a frame enters the statistics.
use Rattle.std.specs.Prelude.{ℕ, zero, suc, ◌+◌, ◌*◌, Bool, true, not, ◌&&◌, ◌||◌, length, take, get_or, Float, if◌then◌else◌}
use mathlib.Core.List.{List, [], ◌∷◌, map, foldl}
use Rattle.std.specs.Float.{nan, inf}
use Rattle.std.specs.Float.Ieee.{is_nan, neg, lt, eq}
use Rattle.loops.specs.Lists.{build, those}
use Rattle.floats.specs.Operators.{◌+₃₂◌, ◌-₃₂◌, ◌*₃₂◌, ◌/₃₂◌, f32, zero₃₂, one₃₂, at, sum₃₂}
use Rattle.floats.specs.Ln.{ln_narrow}
use Rattle.floats.specs.Exp.{exp_of}
use Rattle.floats.specs.Extremes.{larger, smaller, absolute}
use Rattle.definition.specs.declared.IvectorOptions.{IvectorOptions}
use Rattle.definition.specs.declared.FrameWeight.{FrameWeight}
use Rattle.definition.specs.declared.FrameWeight.TheVariants.{Skipped, Weighed}

-- of a normalised feature row x, g Gaussians, d dimensions; 3f00.. is 0.5
unfoldable pub loglikes : ℕ → ℕ → List Float → List Float → List Float → List Float → List Float
loglikes g d gconsts means_invvars_t inv_vars_t x = build g (λ m.
    at gconsts m +₃₂ sum₃₂ zero₃₂ d (λ k. at means_invvars_t (k * g + m) *₃₂ at x k)
    -₃₂ f32 0x3f00_0000 *₃₂ sum₃₂ zero₃₂ d (λ k. at inv_vars_t (k * g + m) *₃₂ (at x k *₃₂ at x k)))

-- a Gaussian and its posterior
abbrev pub Post : Type 0
Post = ℕ × Float

-- whether p is ahead of q: larger; a NaN stands last
abbrev pub ahead : Post → Post → Bool
ahead p q = not (is_nan p.1) && (is_nan q.1 || lt q.1 p.1)

-- put into a sorted list, behind its equals: those have the lower index
unfoldable pub insert : Post → List Post → List Post
insert p [] = p ∷ []
insert p (q ∷ qs) = let rest = insert p qs in if ahead p q then p ∷ q ∷ qs else q ∷ rest

unfoldable pub sorted : List Post → List Post
sorted ps = foldl (λ qs p. insert p qs) [] ps

-- of the first n, the last is dropped while it is below the cutoff and not alone: how many are left, and their total
unfoldable pub pruned : List Post → Float → ℕ → Float → ℕ × Float
pruned ps cutoff zero tot = (0, tot)
pruned ps cutoff (suc zero) tot = (1, tot)
pruned ps cutoff (suc (suc n)) tot =
    let last = (get_or ps (suc n) (0, nan)).1 in
    let rest = pruned ps cutoff (suc n) (tot -₃₂ last) in
    if lt last cutoff then rest else (suc (suc n), tot)

abbrev pub or_else : List Post → List Post → List Post
or_else [] ps = ps
or_else (q ∷ qs) ps = q ∷ qs

-- the log-likelihoods with their Gaussians, and the largest of them
abbrev pub every : List Float → List Post
every ls = build (length ls) (λ g. (g, at ls g))

abbrev pub max_like : List Float → Float
max_like ls = foldl larger (inf true) ls

-- of log-likelihoods the k most likely, as likelihoods
unfoldable pub ranked : ℕ → Float → List Post → List Post
ranked k largest ps = take k (sorted (map (λ p. (p.0, exp_of (p.1 -₃₂ largest))) ps))

-- the k most likely of the log-likelihoods ls: of those above the largest plus ln min_post; of all, where none is or min_post is 0
unfoldable pub best_of : List Float → ℕ → Float → List Post
best_of ls k min_post =
    let likely = if eq min_post zero₃₂ then [] else those (λ p. lt (max_like ls +₃₂ ln_narrow min_post) p.1) (every ls) in
    ranked k (max_like ls) (or_else likely (every ls))

-- pruned below min_post of their total, and scaled to a total of one
unfoldable pub renormalised : Float → List Post → List Post
renormalised min_post best =
    let tot = foldl (λ a p. a +₃₂ p.1) (neg zero₃₂) best in
    let left = pruned best (min_post *₃₂ tot) (length best) tot in
    map (λ p. (p.0, p.1 *₃₂ (one₃₂ /₃₂ left.1))) (take left.0 best)

-- the `num_gselect` most likely Gaussians of the log-likelihoods ls, as posteriors
unfoldable pub select_posteriors : List Float → ℕ → Float → List Post
select_posteriors ls num_gselect min_post = renormalised min_post (best_of ls num_gselect min_post)

-- request 4: how many of the log-likelihoods that a selection is made from are NaN; an infinite one is a number
unfoldable pub nan_count : List Float → ℕ
nan_count ls = length (those is_nan ls)

-- `min_post_for`, the prune floor of a weight; 3f7d70a4 is 0.99
unfoldable pub min_post_for : IvectorOptions → Float → Float
min_post_for o w = if eq w zero₃₂ then f32 0x3f7d_70a4 else smaller (o.min_post /₃₂ absolute w) (f32 0x3f7d_70a4)

unfoldable pub weighed : IvectorOptions → Float → FrameWeight
weighed o w = if eq w zero₃₂ then Skipped else Weighed (min_post_for o w) (o.posterior_scale *₃₂ w)

unfoldable pub unweighted : IvectorOptions → FrameWeight
unweighted o = Weighed o.min_post o.posterior_scale

-- the scaled posteriors of log-likelihoods; a skipped frame has none
unfoldable pub posteriors : ℕ → FrameWeight → List Float → List Post
posteriors num_gselect Skipped ls = []
posteriors num_gselect (Weighed floor scale) ls = map (λ p. (p.0, p.1 *₃₂ scale)) (select_posteriors ls num_gselect floor)

-- request 4: the NaNs among the log-likelihoods of a frame; a skipped one makes no selection
unfoldable pub nans_of : FrameWeight → List Float → ℕ
nans_of Skipped ls = 0
nans_of (Weighed floor scale) ls = nan_count ls
