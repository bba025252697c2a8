-- A load beside the dimensions of its files: both judge the files alike, and then the load judges what it is lent.
use mathlib.Core.Path.{◌≡◌, refl, subst}
use mathlib.Core.Bool.{Bool, true, false, ◌&&◌}
use mathlib.Core.List.{[]}
use Prim.Native.Nat.{ℕ}
use lib.Dec.{leb}
use Rattle.loops.proofs.Choose.{by-test}
use Rattle.definition.specs.declared.IvectorOptions.{IvectorOptions}
use Rattle.definition.specs.declared.Dimensions.{Dimensions}
use Rattle.definition.specs.declared.TableLengths.{TableLengths}
use Rattle.definition.specs.Options.{options_in_range}
use Rattle.definition.specs.Reader.{Got, read, refused, after, give, need}
use Rattle.definition.specs.Model.{Model, Contents, Files, contents_agree, dims_of, model_of, tables_fit, load_scratch, reading, judged, loading, load}
use Rattle.model.specs.Memory.{dimensions_of}

-- a model with these options and dimensions was loaded
pub record Found (o : IvectorOptions) (d : Dimensions) (m : Got Model) : Type 0 where
  pub model : Model
  pub place : ℕ
  pub is : m ≡ read model place
  pub dims_are : model.info.dims ≡ d
  pub opts_are : model.info.opts ≡ o

module _ (o : IvectorOptions) (z : TableLengths) (n : ℕ) where
  abbrev fits : Dimensions → Bool
  fits d = tables_fit o d z && leb (load_scratch d) n

  -- what a load answers, by what the dimensions' call does
  abbrev pub Follows : Got Dimensions → Got Model → Type 0
  Follows (refused r) m = m ≡ refused r
  Follows (read d i) m = (fits d ≡ true → Found o d m) × (fits d ≡ false → m ≡ refused 8)

  in_rooms : (c : Contents) (p : ℕ) → Follows (after (need (contents_agree o c) 5 [] p) (λ _. give (dims_of c)) []) (judged o z n c [] p)
  unfolding judged
  in_rooms c p = by-test (contents_agree o c) (λ e. rw e (taken, λ k. rw k refl)) (λ e. rw e refl)
    where
      taken : fits (dims_of c) ≡ true → Found o (dims_of c) (after (need (fits (dims_of c)) 8 [] p) (λ _. give (model_of o c z)) [])
      taken k = record { model = model_of o c z; place = p; is = rw k refl; dims_are = refl; opts_are = refl }

  in_files : (g : Got Contents) → Follows (after g (λ c s i. after (need (contents_agree o c) 5 s i) (λ _. give (dims_of c)) s) []) (after g (judged o z n) [])
  in_files (refused r) = refl
  in_files (read c p) = in_rooms c p

  pub follows : (f : Files) → Follows (dimensions_of o f) (load o f z n)
  unfolding dimensions_of load loading
  follows f = by-test (options_in_range o) (λ e. rw e (in_files (reading f [] 0))) (λ e. rw e refl)

  module _ (f : Files) where
    module _ {d : Dimensions} {i : ℕ} (e : dimensions_of o f ≡ read d i) where
      pub follows_read : (fits d ≡ true → Found o d (load o f z n)) × (fits d ≡ false → load o f z n ≡ refused 8)
      follows_read = subst (λ (x : Got Dimensions). Follows x (load o f z n)) e (follows f)
