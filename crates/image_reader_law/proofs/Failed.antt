-- Readings that failed: where in what is read one after the other.
use Rattle.std.proofs.Common.{◌≡◌, ◌⊎◌, inl, inr, ◌++◌, ℕ, zero, suc, List, [], ◌∷◌, Result, Ok, Err, Option, refl, ap, ◌∙◌}
use Rattle.machine_semantics.specs.Trees.{Seg, Segs, Cons}
use Rattle.image_format.specs.declared.fault.ByteFault.{ByteFault}
use Rattle.image_format.specs.Format.{Format, Read, ◌>>=◌, passed, each_read}
use Rattle.image_format.specs.TreeFormat.{segs_read}

-- in the second, after the first went well
pub record Second {A B : Type 0} (r : Result A ByteFault) (g : A → Result B ByteFault) (e : ByteFault) : Type 0 where
  pub x : A
  pub was : r ≡ Ok x
  pub then_is : g x ≡ Err e

abbrev pub Failed : {A B : Type 0} (r : Result A ByteFault) (g : A → Result B ByteFault) (e : ByteFault) → Type 0
Failed r g e = (r ≡ Err e) ⊎ Second r g e

abbrev err : {A : Type 0} → ByteFault → Result A ByteFault
err e = Err e

elsewhere : {A B : Type 0} (d e : ByteFault) → err {A = A} d ≡ err e → err {A = B} d ≡ err e
elsewhere {B = B} d e h = ap (λ (x : ByteFault). err {A = B} x) (let same : d ≡ e = cc in same)

pub failed : {A B : Type 0} (r : Result A ByteFault) (g : A → Result B ByteFault) (e : ByteFault) → (r >>= g) ≡ Err e → Failed r g e
failed (Ok x) g e h = inr (record { x = x; was = refl; then_is = h })
failed {A = A} {B = B} (Err d) g e h = inl (elsewhere {A = B} {B = A} d e h)

-- what does not change whether reading went well
pub failed_only : {A B : Type 0} (r : Result A ByteFault) (f : A → B) (e : ByteFault) → (r >>= λ x. Ok (f x)) ≡ Err e → r ≡ Err e
failed_only r f e h = by (failed r (λ x. Ok (f x)) e h) where
  by : Failed r (λ x. Ok (f x)) e → r ≡ Err e
  by (inl first) = first
  by (inr second) = let d = second.then_is in cc

pub stops : {A B : Type 0} (r : Result A ByteFault) (g : A → Result B ByteFault) (e : ByteFault) → r ≡ Err e → (r >>= g) ≡ Err e
stops r g e h = ap (λ s. s >>= g) h

pub goes_on : {A B : Type 0} (r : Result A ByteFault) (g : A → Result B ByteFault) (x : A) (e : ByteFault) → r ≡ Ok x → g x ≡ Err e → (r >>= g) ≡ Err e
goes_on r g x e h then_is = ap (λ s. s >>= g) h ∙ then_is

-- ---- what is read after the first

abbrev pub second_of : {A B : Type 0} → (A → Format B) → A × List ℕ → Read (A × B)
second_of g x = (g x.0).read x.1 >>= λ y. Ok ((x.0, y.0), y.1)

abbrev pub rule_of : {A : Type 0} → (A → Option ℕ) → (left : ℕ) → A × List ℕ → Read A
rule_of wrong left x = passed (wrong x.0) left x

abbrev pub list_of : {A : Type 0} → (List A → Format A) → (earlier : List A) → (count : ℕ) → A × List ℕ → Read (List A)
list_of f earlier count x = each_read f (earlier ++ x.0 ∷ []) count x.1 >>= λ xs. Ok (x.0 ∷ xs.0, xs.1)

-- ---- segments, as a list

module _ (one : Format Seg) where
  abbrev pub rest_of : ℕ → Seg × List ℕ → Read Segs
  rest_of n x = segs_read one n x.1 >>= λ rest. Ok (Cons x.0 rest.0, rest.1)

  abbrev more_of : List Seg → ℕ → Seg × List ℕ → Read (List Seg)
  more_of earlier n x = each_read (λ before. one) (earlier ++ x.0 ∷ []) n x.1 >>= λ xs. Ok (x.0 ∷ xs.0, xs.1)

  pub list_fails : (earlier : List Seg) (count : ℕ) (bytes : List ℕ) (e : ByteFault) → segs_read one count bytes ≡ Err e → each_read (λ before. one) earlier count bytes ≡ Err e
  unfolding each_read segs_read
  list_fails earlier zero bytes e h = cc
  list_fails earlier (suc n) bytes e h = by (λ x. list_fails (earlier ++ x ∷ []) n) (failed (one.read bytes) (rest_of n) e h) where
    by : ((x : Seg) (more : List ℕ) (d : ByteFault) → segs_read one n more ≡ Err d → each_read (λ before. one) (earlier ++ x ∷ []) n more ≡ Err d)
        → Failed (one.read bytes) (rest_of n) e → each_read (λ before. one) earlier (suc n) bytes ≡ Err e
    by ih (inl first) = stops (one.read bytes) (more_of earlier n) e first
    by ih (inr s) =
        goes_on (one.read bytes) (more_of earlier n) s.x e s.was
        (stops (each_read (λ before. one) (earlier ++ s.x.0 ∷ []) n s.x.1) (λ xs. Ok (s.x.0 ∷ xs.0, xs.1)) e
        (ih s.x.0 s.x.1 e (failed_only (segs_read one n s.x.1) (λ rest. (Cons s.x.0 rest.0, rest.1)) e s.then_is)))

  pub row_fails : (earlier : List Seg) (count : ℕ) (bytes : List ℕ) (e : ByteFault) → each_read (λ before. one) earlier count bytes ≡ Err e → segs_read one count bytes ≡ Err e
  unfolding each_read segs_read
  row_fails earlier zero bytes e h = cc
  row_fails earlier (suc n) bytes e h = by (λ x. row_fails (earlier ++ x ∷ []) n) (failed (one.read bytes) (more_of earlier n) e h) where
    by : ((x : Seg) (more : List ℕ) (d : ByteFault) → each_read (λ before. one) (earlier ++ x ∷ []) n more ≡ Err d → segs_read one n more ≡ Err d)
        → Failed (one.read bytes) (more_of earlier n) e → segs_read one (suc n) bytes ≡ Err e
    by ih (inl first) = stops (one.read bytes) (rest_of n) e first
    by ih (inr s) =
        goes_on (one.read bytes) (rest_of n) s.x e s.was
        (stops (segs_read one n s.x.1) (λ rest. Ok (Cons s.x.0 rest.0, rest.1)) e
        (ih s.x.0 s.x.1 e (failed_only (each_read (λ before. one) (earlier ++ s.x.0 ∷ []) n s.x.1) (λ xs. (s.x.0 ∷ xs.0, xs.1)) e s.then_is)))
