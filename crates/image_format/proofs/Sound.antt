-- Laws of formats: what is read is what is written, in its range; what is written is read; and written bytes that are cut end inside a
-- field.
use Rattle.std.proofs.Common.{◌≡◌, ◌≤◌, ◌<◌, ◌⊎◌, inl, inr, ◌+◌, ◌-◌, ◌++◌, ℕ, zero, suc, Bool, true, List, [], ◌∷◌, length, take, drop, Result, Ok, Err, Option, None, Some, refl, sym, ap, ◌∙◌, subst, arith, append_assoc, length-append}
use Rattle.std.proofs.Math.Seq.{take-append-add, take-append_seam, drop-append_seam}
use Rattle.std.proofs.lemmas.List.{take-append-le, take-append-drop, length-take-le}
use Rattle.std.proofs.lemmas.Bool.{cases_lt, le-ltb, lt-ltb, and_parts}
use Rattle.image_format.specs.declared.fault.ByteFault.{ByteFault}
use Rattle.image_format.specs.Format.{Format, Read, ◌>>=◌, fault, field_at, given, is_fine, passed, checked, both, via, each, each_read, each_write, each_is}
use Rattle.image_format.specs.FormatLaw.{AreBytes, IsSound}
use Rattle.image_format.proofs.Booleans.{together}
use Rattle.image_format.proofs.Alike.{same_ok}

-- ---- bytes

pub bytes_after : (front rest : List ℕ) → AreBytes (front ++ rest) → AreBytes rest
bytes_after [] rest h = h
bytes_after (b ∷ front) rest h = bytes_after front rest h.1

pub bytes_before : (front rest : List ℕ) → AreBytes (front ++ rest) → AreBytes front
bytes_before [] rest h = tt
bytes_before (b ∷ front) rest h = (h.0, bytes_before front rest h.1)

-- ---- readings that went well

pub record Came {A B : Type 0} (r : Result A ByteFault) (g : A → Result B ByteFault) (y : B) : Type 0 where
  pub x : A
  pub was : r ≡ Ok x
  pub then_is : g x ≡ Ok y

pub came : {A B : Type 0} (r : Result A ByteFault) (g : A → Result B ByteFault) (y : B) → (r >>= g) ≡ Ok y → Came r g y
came (Ok x) g y h = record { x = x; was = refl; then_is = h }
came (Err e) g y h = cc

fine_passes : {A : Type 0} (w : Option ℕ) (left : ℕ) (x : A × List ℕ) → is_fine w ≡ true → passed w left x ≡ Ok x
fine_passes None left x h = refl
fine_passes (Some n) left x h = cc

passed_fine : {A : Type 0} (w : Option ℕ) (left : ℕ) (x y : A × List ℕ) → passed w left x ≡ Ok y → (is_fine w ≡ true) × (x ≡ y)
passed_fine None left x y h = (refl, same_ok x y h)
passed_fine (Some n) left x y h = cc

-- ---- a rule

pub checked_sound : {A : Type 0} (f : Format A) (wrong : A → Option ℕ) → IsSound f → IsSound (checked f wrong)
checked_sound {A = A} f wrong s = record {
  back = λ bytes x are h.
      let c = came (f.read bytes) (λ y. passed (wrong y.0) (length bytes) y) x h in
      let p = passed_fine (wrong c.x.0) (length bytes) c.x x c.then_is in
      let ih = s.back bytes x are (c.was ∙ ap (λ y. Ok y) p.1) in
      (ih.0, together (f.is x.0) (is_fine (wrong x.0)) ih.1 (subst (λ (y : A × List ℕ). is_fine (wrong y.0) ≡ true) p.1 p.0));
  again = λ x rest h.
      let p = and_parts (f.is x) (is_fine (wrong x)) h in
      ap (λ r. r >>= λ y. passed (wrong y.0) (length (f.write x ++ rest)) y) (s.again x rest p.0) ∙ fine_passes (wrong x) (length (f.write x ++ rest)) (x, rest) p.1;
  cut = λ x k h lt.
      let p = and_parts (f.is x) (is_fine (wrong x)) h in
      ap (λ r. r >>= λ y. passed (wrong y.0) (length (take k (f.write x))) y) (s.cut x k p.0 lt);
}

-- ---- one after the other

pub both_sound : {A B : Type 0} (f : Format A) (g : A → Format B) → IsSound f → ((x : A) → IsSound (g x)) → IsSound (both f g)
both_sound {A = A} {B = B} f g s t = record { back = both_back; again = both_again; cut = both_cut } where
  after : A → List ℕ → Read (A × B)
  after x bytes = (g x).read bytes >>= λ y. Ok ((x, y.0), y.1)

  both_back : (bytes : List ℕ) (z : (A × B) × List ℕ) → AreBytes bytes → (both f g).read bytes ≡ Ok z → (bytes ≡ (both f g).write z.0 ++ z.1) × ((both f g).is z.0 ≡ true)
  both_back bytes z are h =
      let c = came (f.read bytes) (λ x. (g x.0).read x.1 >>= λ y. Ok ((x.0, y.0), y.1)) z h in
      let d = came ((g c.x.0).read c.x.1) (λ y. Ok ((c.x.0, y.0), y.1)) z c.then_is in
      let first = s.back bytes c.x are c.was in
      let are_rest : AreBytes c.x.1 = bytes_after (f.write c.x.0) c.x.1 (subst AreBytes first.0 are) in
      let second = (t c.x.0).back c.x.1 d.x are_rest d.was in
      let whole : bytes ≡ (f.write c.x.0 ++ (g c.x.0).write d.x.0) ++ d.x.1 =
      first.0 ∙ ap (λ (ys : List ℕ). f.write c.x.0 ++ ys) second.0 ∙ sym (append_assoc (f.write c.x.0) ((g c.x.0).write d.x.0) d.x.1) in
      let is_z : ((c.x.0, d.x.0), d.x.1) ≡ z = same_ok _ _ d.then_is in
      subst (λ (w : (A × B) × List ℕ). (bytes ≡ (both f g).write w.0 ++ w.1) × ((both f g).is w.0 ≡ true)) is_z (whole, together (f.is c.x.0) ((g c.x.0).is d.x.0) first.1 second.1)

  both_again : (z : A × B) (rest : List ℕ) → (both f g).is z ≡ true → (both f g).read ((both f g).write z ++ rest) ≡ Ok (z, rest)
  both_again z rest h =
      let p = and_parts (f.is z.0) ((g z.0).is z.1) h in
      ap (λ bytes. (both f g).read bytes) (append_assoc (f.write z.0) ((g z.0).write z.1) rest)
      ∙ ap (λ r. r >>= λ x. (g x.0).read x.1 >>= λ y. Ok ((x.0, y.0), y.1)) (s.again z.0 ((g z.0).write z.1 ++ rest) p.0)
      ∙ ap (λ r. r >>= λ y. Ok ((z.0, y.0), y.1)) ((t z.0).again z.1 rest p.1)

  both_cut : (z : A × B) (k : ℕ) → (both f g).is z ≡ true → k < length ((both f g).write z) → (both f g).read (take k ((both f g).write z)) ≡ Err (fault 2 0)
  both_cut z k h lt = by (cases_lt k (length (f.write z.0))) where
    p : (f.is z.0 ≡ true) × ((g z.0).is z.1 ≡ true)
    p = and_parts (f.is z.0) ((g z.0).is z.1) h

    by : (k < length (f.write z.0)) ⊎ (length (f.write z.0) ≤ k) → (both f g).read (take k ((both f g).write z)) ≡ Err (fault 2 0)
    by (inl early) =
        ap (λ bytes. (both f g).read bytes) (take-append-le k (f.write z.0) ((g z.0).write z.1) (omega (arith, early)))
        ∙ ap (λ r. r >>= λ x. (g x.0).read x.1 >>= λ y. Ok ((x.0, y.0), y.1)) (s.cut z.0 k p.0 early)
    by (inr late) =
        let m = k - length (f.write z.0) in
        let is_k : k ≡ length (f.write z.0) + m = omega (arith, late) in
        let within : m < length ((g z.0).write z.1) = omega (arith, late, lt, length-append (f.write z.0) ((g z.0).write z.1)) in
        ap (λ n. (both f g).read (take n (f.write z.0 ++ (g z.0).write z.1))) is_k
        ∙ ap (λ bytes. (both f g).read bytes) (take-append-add (f.write z.0) ((g z.0).write z.1) m)
        ∙ ap (λ r. r >>= λ x. (g x.0).read x.1 >>= λ y. Ok ((x.0, y.0), y.1)) (s.again z.0 (take m ((g z.0).write z.1)) p.0)
        ∙ ap (λ r. r >>= λ y. Ok ((z.0, y.0), y.1)) ((t z.0).cut z.1 m p.1 within)

-- ---- the same bytes, seen as another thing

pub via_sound : {A B : Type 0} (to : A → B) (from : B → A) (f : Format A) → ((x : A) → f.is x ≡ true → from (to x) ≡ x) → ((y : B) → f.is (from y) ≡ true → to (from y) ≡ y) → IsSound f → IsSound (via to from f)
via_sound {A = A} {B = B} to from f there again_there s = record {
  back = λ bytes z are h.
      let c = came (f.read bytes) (λ x. Ok (to x.0, x.1)) z h in
      let ih = s.back bytes c.x are c.was in
      let same = there c.x.0 ih.1 in
      let is_z : (to c.x.0, c.x.1) ≡ z = same_ok _ _ c.then_is in
      subst (λ (w : B × List ℕ). (bytes ≡ f.write (from w.0) ++ w.1) × (f.is (from w.0) ≡ true)) is_z
      (ih.0 ∙ ap (λ x. f.write x ++ c.x.1) (sym same), subst (λ x. f.is x ≡ true) (sym same) ih.1);
  again = λ y rest h. ap (λ r. r >>= λ x. Ok (to x.0, x.1)) (s.again (from y) rest h) ∙ ap (λ x. Ok (x, rest)) (again_there y h);
  cut = λ y k h lt. ap (λ r. r >>= λ x. Ok (to x.0, x.1)) (s.cut (from y) k h lt);
}

-- ---- no bytes

pub given_sound : {A : Type 0} (same : A → A → Bool) (x : A) → ((y : A) → same x y ≡ true → x ≡ y) → same x x ≡ true → IsSound (given same x)
given_sound {A = A} same x exact itself = record {
  back = λ bytes z are h.
      let is_z : (x, bytes) ≡ z = same_ok _ _ h in
      subst (λ (w : A × List ℕ). (bytes ≡ w.1) × (same x w.0 ≡ true)) is_z (refl, itself);
  again = λ y rest h. ap (λ w. Ok (w, rest)) (exact y h);
  cut = λ y k h lt. absurd (omega (arith, lt));
}

-- ---- so many things

each_back : {A : Type 0} (f : List A → Format A) (s : (earlier : List A) → IsSound (f earlier)) (earlier : List A) (count : ℕ) (bytes : List ℕ) (z : List A × List ℕ) → AreBytes bytes → each_read f earlier count bytes ≡ Ok z
    → (bytes ≡ each_write f earlier z.0 ++ z.1) × (each_is f earlier count z.0 ≡ true)
unfolding each_read
each_back {A = A} f s earlier zero bytes z are h =
    subst (λ (w : List A × List ℕ). (bytes ≡ each_write f earlier w.0 ++ w.1) × (each_is f earlier zero w.0 ≡ true)) (same_ok _ _ h) (refl, refl)
each_back {A = A} f s earlier (suc n) bytes z are h =
    let c = came ((f earlier).read bytes) (λ x. each_read f (earlier ++ x.0 ∷ []) n x.1 >>= λ xs. Ok (x.0 ∷ xs.0, xs.1)) z h in
    let d = came (each_read f (earlier ++ c.x.0 ∷ []) n c.x.1) (λ xs. Ok (c.x.0 ∷ xs.0, xs.1)) z c.then_is in
    let first = (s earlier).back bytes c.x are c.was in
    let are_rest : AreBytes c.x.1 = bytes_after ((f earlier).write c.x.0) c.x.1 (subst AreBytes first.0 are) in
    let second = each_back f s (earlier ++ c.x.0 ∷ []) n c.x.1 d.x are_rest d.was in
    let whole : bytes ≡ ((f earlier).write c.x.0 ++ each_write f (earlier ++ c.x.0 ∷ []) d.x.0) ++ d.x.1 =
    first.0 ∙ ap (λ (ys : List ℕ). (f earlier).write c.x.0 ++ ys) second.0 ∙ sym (append_assoc ((f earlier).write c.x.0) (each_write f (earlier ++ c.x.0 ∷ []) d.x.0) d.x.1) in
    subst (λ (w : List A × List ℕ). (bytes ≡ each_write f earlier w.0 ++ w.1) × (each_is f earlier (suc n) w.0 ≡ true)) (same_ok _ _ d.then_is)
    (whole, together ((f earlier).is c.x.0) (each_is f (earlier ++ c.x.0 ∷ []) n d.x.0) first.1 second.1)

each_again : {A : Type 0} (f : List A → Format A) (s : (earlier : List A) → IsSound (f earlier)) (earlier : List A) (count : ℕ) (xs : List A) (rest : List ℕ) → each_is f earlier count xs ≡ true → each_read f earlier count (each_write f earlier xs ++ rest) ≡ Ok (xs, rest)
unfolding each_read
each_again {A = A} f s earlier zero [] rest h = refl
each_again {A = A} f s earlier zero (x ∷ xs) rest h = cc
each_again {A = A} f s earlier (suc n) [] rest h = cc
each_again {A = A} f s earlier (suc n) (x ∷ xs) rest h =
    let p = and_parts ((f earlier).is x) (each_is f (earlier ++ x ∷ []) n xs) h in
    ap (λ bytes. each_read f earlier (suc n) bytes) (append_assoc ((f earlier).write x) (each_write f (earlier ++ x ∷ []) xs) rest)
    ∙ ap (λ r. r >>= λ y. each_read f (earlier ++ y.0 ∷ []) n y.1 >>= λ ys. Ok (y.0 ∷ ys.0, ys.1)) ((s earlier).again x (each_write f (earlier ++ x ∷ []) xs ++ rest) p.0)
    ∙ ap (λ r. r >>= λ ys. Ok (x ∷ ys.0, ys.1)) (each_again f s (earlier ++ x ∷ []) n xs rest p.1)

each_cut : {A : Type 0} (f : List A → Format A) (s : (earlier : List A) → IsSound (f earlier)) (earlier : List A) (count : ℕ) (xs : List A) (k : ℕ) → each_is f earlier count xs ≡ true → k < length (each_write f earlier xs)
    → each_read f earlier count (take k (each_write f earlier xs)) ≡ Err (fault 2 0)
unfolding each_read
each_cut {A = A} f s earlier zero [] k h lt = absurd (omega (arith, lt))
each_cut {A = A} f s earlier zero (x ∷ xs) k h lt = cc
each_cut {A = A} f s earlier (suc n) [] k h lt = cc
each_cut {A = A} f s earlier (suc n) (x ∷ xs) k h lt =
    by (λ m within. each_cut f s (earlier ++ x ∷ []) n xs m (and_parts ((f earlier).is x) (each_is f (earlier ++ x ∷ []) n xs) h).1 within) (cases_lt k (length ((f earlier).write x))) where
      by : ((m : ℕ) → m < length (each_write f (earlier ++ x ∷ []) xs) → each_read f (earlier ++ x ∷ []) n (take m (each_write f (earlier ++ x ∷ []) xs)) ≡ Err (fault 2 0))
          → (k < length ((f earlier).write x)) ⊎ (length ((f earlier).write x) ≤ k) → each_read f earlier (suc n) (take k (each_write f earlier (x ∷ xs))) ≡ Err (fault 2 0)
      by ih (inl early) =
          let p = and_parts ((f earlier).is x) (each_is f (earlier ++ x ∷ []) n xs) h in
          ap (λ bytes. each_read f earlier (suc n) bytes) (take-append-le k ((f earlier).write x) (each_write f (earlier ++ x ∷ []) xs) (omega (arith, early)))
          ∙ ap (λ r. r >>= λ y. each_read f (earlier ++ y.0 ∷ []) n y.1 >>= λ ys. Ok (y.0 ∷ ys.0, ys.1)) ((s earlier).cut x k p.0 early)
      by ih (inr late) =
          let p = and_parts ((f earlier).is x) (each_is f (earlier ++ x ∷ []) n xs) h in
          let m = k - length ((f earlier).write x) in
          let is_k : k ≡ length ((f earlier).write x) + m = omega (arith, late) in
          let within : m < length (each_write f (earlier ++ x ∷ []) xs) = omega (arith, late, lt, length-append ((f earlier).write x) (each_write f (earlier ++ x ∷ []) xs)) in
          ap (λ j. each_read f earlier (suc n) (take j ((f earlier).write x ++ each_write f (earlier ++ x ∷ []) xs))) is_k
          ∙ ap (λ bytes. each_read f earlier (suc n) bytes) (take-append-add ((f earlier).write x) (each_write f (earlier ++ x ∷ []) xs) m)
          ∙ ap (λ r. r >>= λ y. each_read f (earlier ++ y.0 ∷ []) n y.1 >>= λ ys. Ok (y.0 ∷ ys.0, ys.1)) ((s earlier).again x (take m (each_write f (earlier ++ x ∷ []) xs)) p.0)
          ∙ ap (λ r. r >>= λ ys. Ok (x ∷ ys.0, ys.1)) (ih m within)

pub each_sound : {A : Type 0} (f : List A → Format A) → ((earlier : List A) → IsSound (f earlier)) → (earlier : List A) (count : ℕ) → IsSound (each f earlier count)
each_sound {A = A} f s earlier count = record { back = each_back f s earlier count; again = each_again f s earlier count; cut = each_cut f s earlier count }

-- ---- fields

pub field_short : {A : Type 0} (size : ℕ) (value : List ℕ → A) (bytes : List ℕ) → length bytes < size → field_at size value bytes ≡ Err (fault 2 0)
field_short size value bytes h = rw (lt-ltb (length bytes) size h) refl

pub field_long : {A : Type 0} (size : ℕ) (value : List ℕ → A) (bytes : List ℕ) → size ≤ length bytes → field_at size value bytes ≡ Ok (value (take size bytes), drop size bytes)
field_long size value bytes h = rw (le-ltb (length bytes) size h) refl

-- a field whose number and bytes are one and the same, in its range
pub record IsField {A : Type 0} (size : ℕ) (write : A → List ℕ) (value : List ℕ → A) (is : A → Bool) : Type 0 where
  pub size_is : (x : A) → is x ≡ true → length (write x) ≡ size
  pub told : (x : A) → is x ≡ true → value (write x) ≡ x
  pub tells : (bytes : List ℕ) → length bytes ≡ size → AreBytes bytes → (write (value bytes) ≡ bytes) × (is (value bytes) ≡ true)

pub field_sound : {A : Type 0} (size : ℕ) (write : A → List ℕ) (value : List ℕ → A) (is : A → Bool) → IsField size write value is → IsSound (record { write = write; is = is; read = field_at size value })
field_sound {A = A} size write value is field = record { back = field_back; again = field_again; cut = field_cut } where
  field_back : (bytes : List ℕ) (z : A × List ℕ) → AreBytes bytes → field_at size value bytes ≡ Ok z → (bytes ≡ write z.0 ++ z.1) × (is z.0 ≡ true)
  field_back bytes z are h = by (cases_lt (length bytes) size) where
    by : (length bytes < size) ⊎ (size ≤ length bytes) → (bytes ≡ write z.0 ++ z.1) × (is z.0 ≡ true)
    by (inl short) = let e = sym (field_short size value bytes short) ∙ h in cc
    by (inr long) =
        let is_z : (value (take size bytes), drop size bytes) ≡ z = same_ok _ _ (sym (field_long size value bytes long) ∙ h) in
        let are_front : AreBytes (take size bytes) = bytes_before (take size bytes) (drop size bytes) (subst AreBytes (sym (take-append-drop size bytes)) are) in
        let t = field.tells (take size bytes) (length-take-le size bytes long) are_front in
        subst (λ (w : A × List ℕ). (bytes ≡ write w.0 ++ w.1) × (is w.0 ≡ true)) is_z
        (sym (take-append-drop size bytes) ∙ ap (λ (xs : List ℕ). xs ++ drop size bytes) (sym t.0), t.1)

  field_again : (x : A) (rest : List ℕ) → is x ≡ true → field_at size value (write x ++ rest) ≡ Ok (x, rest)
  field_again x rest h =
      let len = field.size_is x h in
      let long : size ≤ length (write x ++ rest) = omega (arith, len, length-append (write x) rest) in
      let front : take size (write x ++ rest) ≡ write x = ap (λ n. take n (write x ++ rest)) (sym len) ∙ take-append_seam (write x) rest in
      let after : drop size (write x ++ rest) ≡ rest = ap (λ n. drop n (write x ++ rest)) (sym len) ∙ drop-append_seam (write x) rest in
      field_long size value (write x ++ rest) long ∙ ap (λ xs. Ok (value xs, drop size (write x ++ rest))) front ∙ ap (λ ys. Ok (value (write x), ys)) after ∙ ap (λ y. Ok (y, rest)) (field.told x h)

  field_cut : (x : A) (k : ℕ) → is x ≡ true → k < length (write x) → field_at size value (take k (write x)) ≡ Err (fault 2 0)
  field_cut x k h lt =
      let len = field.size_is x h in
      field_short size value (take k (write x)) (omega (arith, len, lt, length-take-le k (write x) (omega (arith, lt))))
