-- The largest of a list: the last that is above all in front of it, to the bit, since of equal ones the first stays. By parts: each part's own, joined in the order of
-- the parts, is the whole list's.
use mathlib.Core.Path.{◌≡◌, refl, sym, ap, ◌∙◌}
use mathlib.Core.Bool.{true, false, true≢false}
use mathlib.Core.List.{List, [], ◌∷◌, foldl, foldl-append}
use Prim.Native.Nat.{ℕ, zero, suc, ◌+◌, ◌-◌, ◌*◌, ◌≤◌, ◌<◌}
use native.Mathlib.Nat.{le_of_eq, zero-mul, one-mul, add-mul}
use native.Mathlib.Omega.{arith}
use borrow.Author.Tests.{ltb-true, ltb-false}
use lib.Dec.{ltb}
use lib.ListN.{length, take, drop, take-append-drop, length-drop}
use lib.Seq.{take-add, take_all}
use lib.Ieee.{Float, nan, inf, fin, is_nan, lt}
use Rattle.loops.proofs.Choose.{by-test}
use Rattle.loops.proofs.Parts.{take_next}
use Rattle.floats.specs.Operators.{at}
use Rattle.floats.specs.Extremes.{larger}
use Rattle.floats.proofs.Order.{lt-nan, lt-no_nan, lt_asym, not-lt_trans}
use Rattle.definition.specs.Posteriors.{max_like}
use Rattle.gmm.specs.Inner.Posteriors.{above, least, top, joined}

above_no_nan : (m l : Float) → is_nan m ≡ false → is_nan (above m l) ≡ false
above_no_nan m l n = by-test (lt m l) (λ t. rw t (lt-no_nan m l t)) (λ t. rw t n)

lt_trans : (x y z : Float) → lt x y ≡ true → lt y z ≡ true → lt x z ≡ true
lt_trans x y z h k =
    by-test (lt x z) (λ t. t) (λ t. absurd (true≢false (sym h ∙ not-lt_trans y z x (lt-no_nan y z k) (lt_asym y z k) t)))

above_assoc : (x y z : Float) → is_nan y ≡ false → above (above x y) z ≡ above x (above y z)
above_assoc x y z n =
    by-test (lt x y)
    (λ t. by-test (lt y z) (λ u. rw (t, u, lt_trans x y z t u)) (λ u. rw (t, u, t)))
    (λ t. by-test (lt y z) (λ u. rw (t, u)) (λ u. rw (t, u, t, not-lt_trans z y x n u t)))

-- nothing is below the least
lt-least : (m : Float) → lt m least ≡ false
unfolding lt
lt-least nan = refl
lt-least (inf true) = refl
lt-least (inf false) = refl
lt-least (fin s m e) = refl

-- what the least is not below, nothing is
lt-none : (m y : Float) → lt least y ≡ false → lt m y ≡ false
unfolding lt
lt-none m nan h = lt-nan m
lt-none m (inf true) h = lt-least m
lt-none m (inf false) h = absurd (true≢false h)
lt-none m (fin s k e) h = absurd (true≢false h)

above-least : (m y : Float) → above m (above least y) ≡ above m y
above-least m y = by-test (lt least y) (λ t. rw t) (λ t. rw (t, lt-least m, lt-none m y t))

least-no_nan : is_nan least ≡ false
unfolding is_nan
least-no_nan = refl

top-join : (m : Float) (ls : List Float) → is_nan m ≡ false → top m ls ≡ above m (top least ls)
unfolding top
top-join m [] n = rw (lt-least m)
top-join m (y ∷ ls) n =
    let s = above_no_nan least y least-no_nan in
    top-join (above m y) ls (above_no_nan m y n) ∙ ap (λ (x : Float). above x (top least ls)) (sym (above-least m y)) ∙ above_assoc m (above least y) (top least ls) s
    ∙ ap (above m) (sym (top-join (above least y) ls s))

top-no_nan : (m : Float) (ls : List Float) → is_nan m ≡ false → is_nan (top m ls) ≡ false
unfolding top
top-no_nan m [] n = n
top-no_nan m (y ∷ ls) n = top-no_nan (above m y) ls (above_no_nan m y n)

-- ---- as the code has it

-- one more place
pub top-turn : {j : ℕ} (ls : List Float) {m v : Float} → j < length ls → m ≡ top least (take j ls) → v ≡ above m (at ls j) → v ≡ top least (take (j + 1) ls)
unfolding top
top-turn {j} ls h e f =
    f ∙ ap (λ (x : Float). above x (at ls j)) e ∙ sym (ap (top least) (take_next nan ls j h) ∙ foldl-append above least (take j ls) (at ls j ∷ []))

-- the definition's largest: it is no NaN on the way
max-top : (m : Float) (ls : List Float) → is_nan m ≡ false → foldl larger m ls ≡ top m ls
unfolding top larger
max-top m [] n = refl
max-top m (y ∷ ls) n = rw n (max-top (above m y) ls (above_no_nan m y n))

-- all are looked at
pub top-all : (ls : List Float) {m : Float} → m ≡ top least (take (length ls) ls) → m ≡ max_like ls
top-all ls e = e ∙ ap (top least) (take_all (length ls) ls (omega arith)) ∙ sym (max-top least ls least-no_nan)

-- the largest in front of k is the largest in front of j, where none between is above it
pub top-past : (ls : List Float) (k j : ℕ) {m : Float} → k ≤ j → j ≤ length ls → ((i : ℕ) → i < j → k ≤ i → lt m (at ls i) ≡ false) → m ≡ top least (take k ls)
    → m ≡ top least (take j ls)
top-past ls k zero h l n e = let s : k ≡ 0 = omega (arith, h) in e ∙ ap (λ (i : ℕ). top least (take i ls)) s
top-past ls k (suc j) h l n e =
    by-test (ltb k (suc j))
    (λ t.
    let s = ltb-true k (suc j) t in
    let next : j + 1 ≡ suc j = omega arith in
    top-turn ls (omega (arith, l)) (top-past ls k j (omega (arith, s)) (omega (arith, l)) (λ i p. n i (omega (arith, p))) e) (rw (n j (omega arith) (omega (arith, s))))
    ∙ ap (λ (i : ℕ). top least (take i ls)) next)
    (λ t. let s : k ≡ suc j = omega (arith, h, ltb-false k (suc j) t) in e ∙ ap (λ (i : ℕ). top least (take i ls)) s)

-- the rest is gone over from the largest in front of k on
pub top-rest : (ls : List Float) (k : ℕ) {m v : Float} → m ≡ top least (take k ls) → v ≡ top m (take (length ls - k) (drop k ls)) → v ≡ max_like ls
unfolding top
top-rest ls k {m} e f =
    f ∙ ap (top m) (take_all (length ls - k) (drop k ls) (le_of_eq (length-drop k ls))) ∙ ap (λ (x : Float). top x (drop k ls)) e
    ∙ sym (foldl-append above least (take k ls) (drop k ls)) ∙ ap (top least) (take-append-drop k ls) ∙ sym (max-top least ls least-no_nan)

-- the largest so far is no NaN
pub top-number : (ls : List Float) {m : Float} → m ≡ top least ls → is_nan m ≡ false
top-number ls e = ap is_nan e ∙ top-no_nan least ls least-no_nan

-- ---- by parts

-- one more place of a part that is n long, and all of it
pub part-turn : {j n : ℕ} (ls : List Float) {m v : Float} → j < n → length ls ≡ n → m ≡ top least (take j ls) → v ≡ above m (at ls j) → v ≡ top least (take (j + 1) ls)
part-turn ls h l e f = top-turn ls (omega (arith, h, l)) e f

pub part-whole : {j n : ℕ} (ls : List Float) {m : Float} → n ≤ j → length ls ≡ n → m ≡ top least (take j ls) → m ≡ top least ls
part-whole {j} ls h l e = e ∙ ap (top least) (take_all j ls (omega (arith, h, l)))

-- the largest of each part, joined in turn
pub joined_is : (a b c d e f g i : List Float) {ma mb mc md me mf mg mi v1 v2 v3 v4 v5 v6 v : Float} → v1 ≡ above ma mb → v2 ≡ above v1 mc → v3 ≡ above v2 md → v4 ≡ above v3 me
    → v5 ≡ above v4 mf → v6 ≡ above v5 mg → v ≡ above v6 mi → ma ≡ top least a → mb ≡ top least b → mc ≡ top least c → md ≡ top least d → me ≡ top least e → mf ≡ top least f
    → mg ≡ top least g → mi ≡ top least i → v ≡ joined (top least a) (b ∷ c ∷ d ∷ e ∷ f ∷ g ∷ i ∷ [])
unfolding joined
joined_is a b c d e f g i q1 q2 q3 q4 q5 q6 q7 pa pb pc pd pe pf pg pi = rw (q7, q6, q5, q4, q3, q2, q1, pa, pb, pc, pd, pe, pf, pg, pi)

-- the parts before part k, then part k: the parts are h long
part-next : (h k : ℕ) (ls : List Float) {m t : Float} → m ≡ top least (take (k * h) ls) → t ≡ top least (take h (drop (k * h) ls)) → above m t ≡ top least (take ((k + 1) * h) ls)
unfolding top
part-next h k ls {t = u} d e =
    let front = take (k * h) ls in
    let part = take h (drop (k * h) ls) in
    let l : (k + 1) * h ≡ k * h + h = add-mul k 1 h ∙ ap (λ (n : ℕ). k * h + n) (one-mul h) in
    let s : top least (take ((k + 1) * h) ls) ≡ top (top least front) part = rw (l, take-add (k * h) h ls) (foldl-append above least front part) in
    ap (λ (x : Float). above x u) d ∙ ap (above (top least front)) e ∙ sym (top-join (top least front) part (top-no_nan least front least-no_nan)) ∙ sym s

-- a largest so far, eight parts joined, then all the others
pub parts-rest : (m : Float) (h : ℕ) (ls : List Float) {a b c d e f g i : List Float} {p q v : Float} → is_nan m ≡ false → a ≡ take h (drop (0 * h) ls) → b ≡ take h (drop (1 * h) ls)
    → c ≡ take h (drop (2 * h) ls) → d ≡ take h (drop (3 * h) ls) → e ≡ take h (drop (4 * h) ls) → f ≡ take h (drop (5 * h) ls) → g ≡ take h (drop (6 * h) ls)
    → i ≡ take h (drop (7 * h) ls) → p ≡ joined (top least a) (b ∷ c ∷ d ∷ e ∷ f ∷ g ∷ i ∷ []) → q ≡ above m p → v ≡ top q (drop (8 * h) ls) → v ≡ top m ls
unfolding joined top
parts-rest m h ls number a b c d e f g i p q v =
    let first = ap (top least) a ∙ ap (λ (n : ℕ). top least (take h (drop n ls))) (zero-mul h) ∙ sym (ap (λ (n : ℕ). top least (take n ls)) (one-mul h)) in
    let p1 = part-next h 1 ls first (ap (top least) b) in
    let p2 = part-next h 2 ls p1 (ap (top least) c) in
    let p3 = part-next h 3 ls p2 (ap (top least) d) in
    let p4 = part-next h 4 ls p3 (ap (top least) e) in
    let p5 = part-next h 5 ls p4 (ap (top least) f) in
    let p6 = part-next h 6 ls p5 (ap (top least) g) in
    let front = take (8 * h) ls in
    let joint = p ∙ part-next h 7 ls p6 (ap (top least) i) in
    let both = q ∙ ap (above m) joint ∙ sym (top-join m front number) in
    v ∙ ap (λ (x : Float). top x (drop (8 * h) ls)) both ∙ sym (foldl-append above m front (drop (8 * h) ls)) ∙ ap (top m) (take-append-drop (8 * h) ls)
