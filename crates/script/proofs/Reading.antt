-- What is known of the bytes of a reader and of a writer. A room that is read into from a place on: what stands before the place stays, and the bytes read stand after it.
use Rattle.std.proofs.Common.{◌≡◌, ◌≤◌, ◌+◌, ℕ, List, [], ◌∷◌, ◌++◌, length, take, drop, None, Some}
use Rattle.std.proofs.Math.Path.{sym, ap, ◌∙◌, subst}
use Rattle.std.proofs.Math.Nat.{le_refl}
use Rattle.std.proofs.Math.Seq.{take-add}
use Rattle.std.proofs.lemmas.List.{append_assoc, append-nil, take-append-le, drop_at, length-take-le}
use Rattle.std.proofs.lemmas.Slice.{take-put_mid_below}
use Rattle.std.specs.declared.option.Option.{Option}
use Rattle.std.specs.Io.KnownBytes.{Consumes, Appends}
use Rattle.script.specs.Lines.{spaced}
use borrow.Rule.Slice.PartMut.{put_mid, post_of}

more_consumed : (a b c : Option (List ℕ)) (bs cs : List ℕ) → Consumes a b bs → Consumes b c cs → Consumes a c (bs ++ cs)
more_consumed None b c bs cs p q = tt
more_consumed (Some x) None c bs cs p q = absurd p
more_consumed (Some x) (Some y) None bs cs p q = absurd q
more_consumed (Some x) (Some y) (Some z) bs cs p q = p ∙ ap (λ l. bs ++ l) q ∙ sym (append_assoc bs cs z)

-- what is written after what was written
more_appended : (a b c : Option (List ℕ)) (bs cs : List ℕ) → Appends a b bs → Appends b c cs → Appends a c (bs ++ cs)
more_appended None b c bs cs p q = tt
more_appended (Some x) None c bs cs p q = absurd p
more_appended (Some x) (Some y) None bs cs p q = absurd q
more_appended (Some x) (Some y) (Some z) bs cs p q = q ∙ ap (λ l. l ++ cs) p ∙ append_assoc x bs cs

spaced-one_more : (all : List (List ℕ)) (text : List ℕ) → spaced (all ++ (text ∷ [])) ≡ spaced all ++ (32 ∷ text)
spaced-one_more [] text = append-nil (32 ∷ text)
spaced-one_more (t ∷ all) text = ap (λ l. (32 ∷ t) ++ l) (spaced-one_more all text) ∙ sym (append_assoc (32 ∷ t) (spaced all) (32 ∷ text))

-- one text more, behind a space
pub one_more : (a b c : Option (List ℕ)) (all : List (List ℕ)) (text : List ℕ) → Appends a b (spaced all) → Appends b c (32 ∷ text) → Appends a c (spaced (all ++ (text ∷ [])))
one_more a b c all text p q = subst (Appends a c) (sym (spaced-one_more all text)) (more_appended a b c _ _ p q)

front_read : (n k m : ℕ) (room read : List ℕ) → n ≤ length room → m ≤ length read → take (n + m) (put_mid n k room read) ≡ take n room ++ take m read
front_read n k m room read within fits =
    let rest = drop_at (take n room) (read ++ post_of n k room) n (length-take-le n room within) in
    take-add n m (put_mid n k room read)
    ∙ ap (λ l. l ++ take m (drop n (put_mid n k room read))) (take-put_mid_below n k room read n (le_refl n) within)
    ∙ ap (λ l. take n room ++ take m l) rest
    ∙ ap (λ l. take n room ++ l) (take-append-le m read (post_of n k room) fits)

-- a reader's known bytes, after a read into the room from place n on
pub reading : (a b c : Option (List ℕ)) (n k m : ℕ) (room read : List ℕ) → n ≤ length room → m ≤ length read
    → Consumes a b (take n room) → Consumes b c (take m read) → Consumes a c (take (n + m) (put_mid n k room read))
reading a b c n k m room read within fits before now =
    subst (Consumes a c) (sym (front_read n k m room read within fits)) (more_consumed a b c _ _ before now)
