-- Bytes written one after the other: what two calls leave is what one would (`together`), and where the whole has room, each part has (`first`, `rest`).
use mathlib.Core.Path.{◌≡◌, refl, sym, ap, ◌∙◌, subst}
use mathlib.Core.List.{List, [], ◌++◌, append_assoc, append-nil}
use Prim.Native.Nat.{ℕ, ◌+◌, ◌≤◌, ◌<◌, suc, zero}
use native.Mathlib.Nat.{add-zero}
use native.Mathlib.Omega.{arith}
use lib.ListN.{length, take, drop, length-append, take-append-drop, drop_of_length-le}
use lib.Seq.{length-take-le, take_all}
use Rattle.loops.specs.Lists.{flat, over}
use Rattle.loops.specs.Ring.{put}
use Rattle.loops.proofs.Fill.{over_put, put_front}
use Rattle.loops.proofs.Flat.{flat_snoc}
use native.Mathlib.Decide.{dec_le}
use Rattle.writer.specs.declared.byte_writer.Writer.{Writer}
use Rattle.writer.specs.Wrote.{HasRoom, Wrote}

put_is_over : (room : List ℕ) (at : ℕ) (xs : List ℕ) → at ≤ length room → put at xs room ≡ over (take at room ++ xs) room
unfolding put over
put_is_over room at xs h =
    sym (append_assoc (take at room) xs (drop (at + length xs) room))
    ∙ ap (λ (k : ℕ). (take at room ++ xs) ++ drop k room) (sym (length-append (take at room) xs ∙ ap (λ (k : ℕ). k + length xs) (length-take-le at room h)))

-- wherever the first place is
put-put : (room : List ℕ) (at : ℕ) (xs ys : List ℕ) → put (at + length xs) ys (put at xs room) ≡ put at (xs ++ ys) room
unfolding put
put-put room at xs ys = go (dec_le at (length room))
  where
    go : Dec (at ≤ length room) → put (at + length xs) ys (put at xs room) ≡ put at (xs ++ ys) room
    go (yes h) =
        ap (put (at + length xs) ys) (put_is_over room at xs h)
        ∙ over_put (take at room ++ xs) ys room (at + length xs) (length-append (take at room) xs ∙ ap (λ (k : ℕ). k + length xs) (length-take-le at room h))
        ∙ ap (λ (l : List ℕ). over l room) (append_assoc (take at room) xs ys) ∙ sym (put_is_over room at (xs ++ ys) h)
    go (no h) =
        let past : (zs : List ℕ) → put at zs room ≡ room ++ zs = λ zs.
        ap (λ (l : List ℕ). take at room ++ (zs ++ l)) (drop_of_length-le room (omega arith)) ∙ ap (λ (l : List ℕ). take at room ++ l) (append-nil zs)
        ∙ ap (λ (l : List ℕ). l ++ zs) (take_all at room (omega arith)) in
        let end : length (room ++ xs) ≤ at + length xs = omega (arith, length-append room xs) in
        ap (put (at + length xs) ys) (past xs)
        ∙ ap (λ (l : List ℕ). l ++ (ys ++ drop (at + length xs + length ys) (room ++ xs))) (take_all (at + length xs) (room ++ xs) end)
        ∙ ap (λ (l : List ℕ). (room ++ xs) ++ (ys ++ l)) (drop_of_length-le (room ++ xs) (omega (arith, end)))
        ∙ ap (λ (l : List ℕ). (room ++ xs) ++ l) (append-nil ys) ∙ append_assoc room xs ys ∙ sym (past (xs ++ ys))

-- what two calls in a row leave
pub together : {xs ys : List ℕ} {u v w : Writer} → Wrote xs u v → Wrote ys v w → Wrote (xs ++ ys) u w
together {xs} {ys} {u} {v} {w} a b =
    record {
      next_is = omega (arith, a.next_is, b.next_is, length-append xs ys);
      out_is = b.out_is ∙ ap (λ (k : ℕ). put k ys v.out.now) a.next_is ∙ ap (put (u.at + length xs) ys) a.out_is ∙ put-put u.out.now u.at xs ys;
      long = b.long ∙ a.long;
      same_out = b.same_out ∙ a.same_out;
    }

-- room for the whole is room for its first part
pub first : (u : Writer) (xs ys : List ℕ) → HasRoom (xs ++ ys) u → HasRoom xs u
first u xs ys h = record { fits = omega (arith, h.fits, length-append xs ys) }

-- and for what comes after it
pub rest : {u v : Writer} (xs ys : List ℕ) → HasRoom (xs ++ ys) u → Wrote xs u v → HasRoom ys v
rest xs ys h a = record { fits = omega (arith, h.fits, length-append xs ys, a.next_is, a.long) }

pub room_as : {xs ys : List ℕ} {u : Writer} → xs ≡ ys → HasRoom ys u → HasRoom xs u
room_as {u = u} e h = subst (λ (l : List ℕ). HasRoom l u) (sym e) h

pub wrote_none : (u : Writer) → Wrote [] u u
unfolding put
wrote_none u =
    record {
      next_is = sym (add-zero u.at);
      out_is = sym (ap (λ (k : ℕ). take u.at u.out.now ++ drop k u.out.now) (add-zero u.at) ∙ take-append-drop u.at u.out.now);
      long = refl;
      same_out = refl;
    }

pub wrote_as : {xs ys : List ℕ} {u v : Writer} → xs ≡ ys → Wrote xs u v → Wrote ys u v
wrote_as {u = u} {v} e w = subst (λ (l : List ℕ). Wrote l u v) e w

-- what a writer leaves that began at the front of the memory
pub whole : {xs : List ℕ} {u v : Writer} → u.at ≡ 0 → Wrote xs u v → (v.at ≡ length xs) × (v.out.now ≡ over xs u.out.now)
whole {xs} {u} {v} z w = (w.next_is ∙ ap (λ (k : ℕ). k + length xs) z ∙ omega arith, w.out_is ∙ ap (λ (k : ℕ). put k xs u.out.now) z ∙ put_front xs u.out.now)

-- ---- blocks, one by one

flat_front : (n : ℕ) (B : ℕ → List ℕ) (i : ℕ) → i < n → length (flat i B) + length (B i) ≤ length (flat n B)
flat_front zero B i l = absurd (omega arith)
flat_front (suc n) B i l = go (λ k. flat_front n B i k) (dec_le (suc i) n)
  where
    grows : length (flat (suc n) B) ≡ length (flat n B) + length (B n)
    grows = ap length (flat_snoc n B) ∙ length-append (flat n B) (B n)

    go : (i < n → length (flat i B) + length (B i) ≤ length (flat n B)) → Dec (suc i ≤ n) → length (flat i B) + length (B i) ≤ length (flat (suc n) B)
    go before (yes k) = omega (arith, before k, grows)
    go before (no k) = let e : i ≡ n = omega arith in rw e (omega (arith, grows))

-- where n blocks have room, and i of them are written, the next one has room
pub next_room : (n : ℕ) (B : ℕ → List ℕ) {i : ℕ} {u v : Writer} → HasRoom (flat n B) u → Wrote (flat i B) u v → i < n → HasRoom (B i) v
next_room n B {i} h w l = record { fits = omega (arith, h.fits, w.next_is, w.long, flat_front n B i l) }
