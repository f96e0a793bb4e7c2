-- A layout tells of bytes what reading by a format tells.
use Rattle.std.proofs.Common.{◌≡◌, ◌≤◌, ◌+◌, ◌++◌, ℕ, zero, suc, List, [], ◌∷◌, length, take, drop, Ok, Err, Option, Some, None, arith, refl, ap, sym, ◌∙◌, true, false, Bool, append_assoc}
use Rattle.std.specs.Prelude.{nat_lt, if◌then◌else◌}
use Rattle.std.proofs.lemmas.Bool.{ltb-false}
use Rattle.std.proofs.Common.{length-drop, append-nil}
use Rattle.machine_semantics.specs.Trees.{Seg, Segs, Cons}
use Rattle.image_format.specs.declared.fault.ByteFault.{ByteFault}
use Rattle.image_format.specs.Format.{Format, Read, ◌>>=◌, fault, field_at, passed, checked, both, via, each, each_read}
use Rattle.image_format.specs.TreeFormat.{segs_read}
use Rattle.image_reader_law.specs.Fields.{Field, size_of, any, Rule}
use Rattle.image_reader_law.specs.Layout.{Layout, field, rule, repeated, many}
use Rattle.image_reader_law.proofs.Table.{fault_of, fault_of_rule, or_else}
use Rattle.image_reader_law.proofs.Walks.{walk, stopped}

abbrev pub follow : {A : Type 0} → Read A → (A → List ℕ → Option ByteFault) → Option ByteFault
follow (Ok x) then_is = then_is x.0 x.1
follow (Err e) then_is = Some e

-- what is read goes on as this, of which t is told
abbrev pub Reads : {A B : Type 0} → Format A → (A → B) → ((B → Layout) → Layout) → Type 0
Reads f t l = (k : _ → Layout) (bytes : List ℕ) → walk (l k) bytes ≡ follow (f.read bytes) (λ x rest. walk (k (t x)) rest)

-- of which nothing is told
abbrev pub Skips : {A : Type 0} → Format A → (Layout → Layout) → Type 0
Skips f l = (k : Layout) (bytes : List ℕ) → walk (l k) bytes ≡ follow (f.read bytes) (λ x rest. walk k rest)

-- ---- one field

then_same : {A B : Type 0} (r : Read A) (g : A × List ℕ → Read B) (h : B → List ℕ → Option ByteFault) → follow (r >>= g) h ≡ follow r (λ x rest. follow (g (x, rest)) h)
then_same (Ok x) g h = refl
then_same (Err e) g h = refl

passes_as : {A : Type 0} (o : Option ℕ) (left : ℕ) (x : A × List ℕ) (h : A → List ℕ → Option ByteFault) → follow (passed o left x) h ≡ stopped o left (h x.0 x.1)
passes_as None left x h = refl
passes_as (Some n) left x h = refl

module _ {A : Type 0} (f : Field) (value : List ℕ → A) (wrong : A → Option ℕ) where
  leaf_as : (next : List ℕ → Layout) (k : A → Layout) → ((v : List ℕ) → fault_of f v ≡ wrong (value v)) → ((v : List ℕ) → next v ≡ k (value v)) → (bytes : List ℕ)
      → walk (field f next) bytes ≡ follow (field_at (size_of f) value bytes >>= λ x. passed (wrong x.0) (length bytes) x) (λ x rest. walk (k x) rest)
  leaf_as next k same goes bytes = by (nat_lt (length bytes) (size_of f)) where
    by : (b : Bool)
        → (if b then Some (fault 2 0) else stopped (fault_of f (take (size_of f) bytes)) (length bytes) (walk (next (take (size_of f) bytes)) (drop (size_of f) bytes)))
        ≡ follow ((if b then Err (fault 2 0) else Ok (value (take (size_of f) bytes), drop (size_of f) bytes)) >>= λ x. passed (wrong x.0) (length bytes) x) (λ x rest. walk (k x) rest)
    by true = refl
    by false =
        ap (λ o. stopped o (length bytes) (walk (next (take (size_of f) bytes)) (drop (size_of f) bytes))) (same (take (size_of f) bytes))
        ∙ (ap (λ l. stopped (wrong (value (take (size_of f) bytes))) (length bytes) (walk l (drop (size_of f) bytes))) (goes (take (size_of f) bytes))
        ∙ sym (passes_as (wrong (value (take (size_of f) bytes))) (length bytes) (value (take (size_of f) bytes), drop (size_of f) bytes) (λ x rest. walk (k x) rest)))

-- a field with a rule of its own
pub leaf : {A : Type 0} (f : Field) (value : List ℕ → A) (wrong : A → Option ℕ) (form : Format A)
    → ((bytes : List ℕ) → form.read bytes ≡ (field_at (size_of f) value bytes >>= λ x. passed (wrong x.0) (length bytes) x))
    → ((v : List ℕ) → fault_of f v ≡ wrong (value v)) → Reads form (λ x. x) (λ k. field f (λ v. k (value v)))
leaf f value wrong form reads same k bytes =
    leaf_as f value wrong (λ v. k (value v)) k same (λ v. refl) bytes ∙ ap (λ r. follow r (λ x rest. walk (k x) rest)) (sym (reads bytes))

-- one of which nothing is told
pub skip : {A : Type 0} (f : Field) (value : List ℕ → A) (wrong : A → Option ℕ) (form : Format A)
    → ((bytes : List ℕ) → form.read bytes ≡ (field_at (size_of f) value bytes >>= λ x. passed (wrong x.0) (length bytes) x))
    → ((v : List ℕ) → fault_of f v ≡ wrong (value v)) → Skips form (λ k. field f (λ v. k))
skip f value wrong form reads same k bytes =
    leaf_as f value wrong (λ v. k) (λ x. k) same (λ v. refl) bytes ∙ ap (λ r. follow r (λ x rest. walk k rest)) (sym (reads bytes))

unchecked : {A : Type 0} (r : Read A) (left : ℕ) → r ≡ (r >>= λ x. passed None left x)
unchecked (Ok x) left = refl
unchecked (Err e) left = refl

-- a field that may be anything
pub leaf_any : {A : Type 0} (size : ℕ) (value : List ℕ → A) (form : Format A) → ((bytes : List ℕ) → form.read bytes ≡ field_at size value bytes) → Reads form (λ x. x) (λ k. field (any size) (λ v. k (value v)))
leaf_any size value form reads = leaf (any size) value (λ x. None) form (λ bytes. reads bytes ∙ unchecked (field_at size value bytes) (length bytes)) (λ v. refl)

pub skip_any : {A : Type 0} (size : ℕ) (value : List ℕ → A) (form : Format A) → ((bytes : List ℕ) → form.read bytes ≡ field_at size value bytes) → Skips form (λ k. field (any size) (λ v. k))
skip_any size value form reads = skip (any size) value (λ x. None) form (λ bytes. reads bytes ∙ unchecked (field_at size value bytes) (length bytes)) (λ v. refl)

-- two rules of one field
passed_twice : {A : Type 0} (o p : Option ℕ) (left : ℕ) (x : A × List ℕ) → (passed o left x >>= λ y. passed p left y) ≡ passed (or_else o p) left x
passed_twice None p left x = refl
passed_twice (Some n) p left x = refl

pub twice : {A : Type 0} (r : Read A) (v w : A → Option ℕ) (left : ℕ) → ((r >>= λ x. passed (v x.0) left x) >>= λ x. passed (w x.0) left x) ≡ (r >>= λ x. passed (or_else (v x.0) (w x.0)) left x)
twice (Ok x) v w left = again (v x.0) (w x.0) where
  again : (o p : Option ℕ) → (passed o left x >>= λ y. passed (w y.0) left y) ≡ passed (or_else o (w x.0)) left x
  again None p = refl
  again (Some n) p = refl
twice (Err e) v w left = refl

-- ---- one after the other

module _ {A B : Type 0} (f : Format A) (g : A → Format B) where
  pub both_as : (bytes : List ℕ) (h : A × B → List ℕ → Option ByteFault) → follow ((both f g).read bytes) h ≡ follow (f.read bytes) (λ x rest. follow ((g x).read rest) (λ y more. h (x, y) more))
  both_as bytes h = by (f.read bytes) where
    inner : (x : A) (r : Read B) → follow (r >>= λ y. Ok ((x, y.0), y.1)) h ≡ follow r (λ y more. h (x, y) more)
    inner x (Ok y) = refl
    inner x (Err e) = refl

    by : (r : Read A) → follow (r >>= λ x. (g x.0).read x.1 >>= λ y. Ok ((x.0, y.0), y.1)) h ≡ follow r (λ x rest. follow ((g x).read rest) (λ y more. h (x, y) more))
    by (Ok x) = inner x.0 ((g x.0).read x.1)
    by (Err e) = refl

pub same_after : {A : Type 0} (r : Read A) (g h : A → List ℕ → Option ByteFault) → ((x : A) (rest : List ℕ) → g x rest ≡ h x rest) → follow r g ≡ follow r h
same_after (Ok x) g h same = same x.0 x.1
same_after (Err e) g h same = refl

pub both_reads : {A B C D : Type 0} (f : Format A) (g : A → Format B) (t : A → C) (u : B → D) (l : (C → Layout) → Layout) (m : C → (D → Layout) → Layout)
    → Reads f t l → ((x : A) → Reads (g x) u (m (t x))) → Reads {B = C × D} (both f g) (λ z. (t z.0, u z.1)) (λ k. l (λ c. m c (λ d. k (c, d))))
both_reads f g t u l m first second k bytes =
    first (λ c. m c (λ d. k (c, d))) bytes
    ∙ (same_after (f.read bytes) _ _ (λ x rest. second x (λ d. k (t x, d)) rest) ∙ sym (both_as f g bytes (λ z more. walk (k (t z.0, u z.1)) more)))

-- of the first alone something is told
pub both_first : {A B C : Type 0} (f : Format A) (g : A → Format B) (t : A → C) (l : (C → Layout) → Layout) (m : C → Layout → Layout)
    → Reads f t l → ((x : A) → Skips (g x) (m (t x))) → Reads (both f g) (λ z. t z.0) (λ k. l (λ c. m c (k c)))
both_first f g t l m first second k bytes =
    first (λ c. m c (k c)) bytes ∙ (same_after (f.read bytes) _ _ (λ x rest. second x (k (t x)) rest) ∙ sym (both_as f g bytes (λ z more. walk (k (t z.0)) more)))

-- of the second
pub both_second : {A B D : Type 0} (f : Format A) (g : A → Format B) (u : B → D) (l : Layout → Layout) (m : (D → Layout) → Layout)
    → Skips f l → ((x : A) → Reads (g x) u m) → Reads (both f g) (λ z. u z.1) (λ k. l (m k))
both_second f g u l m first second k bytes =
    first (m k) bytes ∙ (same_after (f.read bytes) _ _ (λ x rest. second x k rest) ∙ sym (both_as f g bytes (λ z more. walk (k (u z.1)) more)))

-- of none
pub both_skip : {A B C : Type 0} (f : Format A) (g : A → Format B) (t : A → C) (l : (C → Layout) → Layout) (m : C → Layout → Layout)
    → Reads f t l → ((x : A) → Skips (g x) (m (t x))) → Skips (both f g) (λ k. l (λ c. m c k))
both_skip f g t l m first second k bytes =
    first (λ c. m c k) bytes ∙ (same_after (f.read bytes) _ _ (λ x rest. second x k rest) ∙ sym (both_as f g bytes (λ z more. walk k more)))

pub skip_both : {A B : Type 0} (f : Format A) (g : A → Format B) (l m : Layout → Layout) → Skips f l → ((x : A) → Skips (g x) m) → Skips (both f g) (λ k. l (m k))
skip_both f g l m first second k bytes = first (m k) bytes ∙ (same_after (f.read bytes) _ _ (λ x rest. second x k rest) ∙ sym (both_as f g bytes (λ z more. walk k more)))

-- ---- seen as another thing

via_as : {A B : Type 0} (to : A → B) (r : Read A) (h : B → List ℕ → Option ByteFault) → follow (r >>= λ x. Ok (to x.0, x.1)) h ≡ follow r (λ x rest. h (to x) rest)
via_as to (Ok x) h = refl
via_as to (Err e) h = refl

pub via_reads : {A B C : Type 0} (f : Format A) (to : A → B) (from : B → A) (t : A → C) (u : B → C) (l : (C → Layout) → Layout)
    → ((x : A) → t x ≡ u (to x)) → Reads f t l → Reads (via to from f) u l
via_reads f to from t u l same reads k bytes =
    reads k bytes ∙ (same_after (f.read bytes) _ _ (λ x rest. ap (λ c. walk (k c) rest) (same x)) ∙ sym (via_as to (f.read bytes) (λ y rest. walk (k (u y)) rest)))

pub via_skips : {A B : Type 0} (f : Format A) (to : A → B) (from : B → A) (l : Layout → Layout) → Skips f l → Skips (via to from f) l
via_skips f to from l skips k bytes = skips k bytes ∙ sym (via_as to (f.read bytes) (λ y rest. walk k rest))

-- ---- rules over what was read

-- how many bytes are taken
abbrev pub Takes : {A : Type 0} → Format A → (A → ℕ) → Type 0
Takes f n = (bytes : List ℕ) (z : _ × List ℕ) → f.read bytes ≡ Ok z → length bytes ≡ n z.0 + length z.1

pub rule_reads : {A B : Type 0} (f : Format A) (wrong : A → Option ℕ) (t : A → B) (l : (B → Layout) → Layout) (r : B → Rule) (back : B → ℕ)
    → Reads f t l → Takes f (λ x. back (t x)) → ((x : A) → fault_of_rule (r (t x)) ≡ wrong x) → Reads (checked f wrong) t (λ k. l (λ b. rule (r b) (back b) (k b)))
rule_reads f wrong t l r back reads takes same k bytes = reads (λ b. rule (r b) (back b) (k b)) bytes ∙ by (f.read bytes) refl where
  by : (s : Read _) → f.read bytes ≡ s
      → follow s (λ x rest. stopped (fault_of_rule (r (t x))) (back (t x) + length rest) (walk (k (t x)) rest)) ≡ follow (s >>= λ x. passed (wrong x.0) (length bytes) x) (λ x rest. walk (k (t x)) rest)
  by (Ok x) is =
      ap (λ o. stopped o (back (t x.0) + length x.1) (walk (k (t x.0)) x.1)) (same x.0)
      ∙ (ap (λ n. stopped (wrong x.0) n (walk (k (t x.0)) x.1)) (sym (takes bytes x is)) ∙ sym (passes_as (wrong x.0) (length bytes) x (λ y rest. walk (k (t y)) rest)))
  by (Err e) is = refl

pub takes_field : {A : Type 0} (size : ℕ) (value : List ℕ → A) (bytes : List ℕ) (z : A × List ℕ) → field_at size value bytes ≡ Ok z → (value (take size bytes) ≡ z.0) × (size ≤ length bytes) × (length bytes ≡ size + length z.1)
takes_field size value bytes z is = by (nat_lt (length bytes) size) refl is where
  by : (b : Bool) → nat_lt (length bytes) size ≡ b → (if b then Err (fault 2 0) else Ok (value (take size bytes), drop size bytes)) ≡ Ok z → (value (take size bytes) ≡ z.0) × (size ≤ length bytes) × (length bytes ≡ size + length z.1)
  by true short told = absurd cc
  by false long told =
      let first : value (take size bytes) ≡ z.0 = cc in
      let rest : drop size bytes ≡ z.1 = cc in
      let le = ltb-false (length bytes) size long in
      (first, le, omega (arith, le, length-drop size bytes, ap (λ (x : List ℕ). length x) rest))

-- ---- many

repeat_as : {A : Type 0} (f : List A → Format A) (l : Layout → Layout) → ((earlier : List A) → Skips (f earlier) l) → (n : ℕ) (earlier : List A) (k : Layout) (bytes : List ℕ)
    → walk (repeated l n k) bytes ≡ follow (each_read f earlier n bytes) (λ x rest. walk k rest)
unfolding each_read
repeat_as {A = A} f l one zero earlier k bytes = refl
repeat_as {A = A} f l one (suc n) earlier k bytes = one earlier (repeated l n k) bytes ∙ by (λ x rest. repeat_as f l one n (earlier ++ x ∷ []) k rest) ((f earlier).read bytes) where
  inner : (x : A) (r : Read (List A)) → follow (r >>= λ xs. Ok (x ∷ xs.0, xs.1)) (λ y rest. walk k rest) ≡ follow r (λ y rest. walk k rest)
  inner x (Ok y) = refl
  inner x (Err e) = refl

  by : ((x : A) (rest : List ℕ) → walk (repeated l n k) rest ≡ follow (each_read f (earlier ++ x ∷ []) n rest) (λ y more. walk k more)) → (r : Read A)
      → follow r (λ x rest. walk (repeated l n k) rest) ≡ follow (r >>= λ x. each_read f (earlier ++ x.0 ∷ []) n x.1 >>= λ xs. Ok (x.0 ∷ xs.0, xs.1)) (λ y rest. walk k rest)
  by ih (Ok x) = ih x.0 x.1 ∙ sym (inner x.0 (each_read f (earlier ++ x.0 ∷ []) n x.1))
  by ih (Err e) = refl

pub repeat_skips : {A : Type 0} (f : List A → Format A) (l : Layout → Layout) → ((earlier : List A) → Skips (f earlier) l) → (n : ℕ) → Skips (each f [] n) (repeated l n)
repeat_skips f l one n k bytes = repeat_as f l one n [] k bytes

pub row_as : (one : Format Seg) (l : Layout → Layout) → Skips one l → (n : ℕ) (k : Layout) (bytes : List ℕ) → walk (repeated l n k) bytes ≡ follow (segs_read one n bytes) (λ x rest. walk k rest)
unfolding segs_read
row_as one l skips zero k bytes = refl
row_as one l skips (suc n) k bytes = skips (repeated l n k) bytes ∙ by (λ rest. row_as one l skips n k rest) (one.read bytes) where
  inner : (x : Seg) (r : Read Segs) → follow (r >>= λ rest. Ok (Cons x rest.0, rest.1)) (λ y rest. walk k rest) ≡ follow r (λ y rest. walk k rest)
  inner x (Ok y) = refl
  inner x (Err e) = refl

  by : ((rest : List ℕ) → walk (repeated l n k) rest ≡ follow (segs_read one n rest) (λ y more. walk k more)) → (r : Read Seg)
      → follow r (λ x rest. walk (repeated l n k) rest) ≡ follow (r >>= λ head. segs_read one n head.1 >>= λ rest. Ok (Cons head.0 rest.0, rest.1)) (λ y rest. walk k rest)
  by ih (Ok x) = ih x.1 ∙ sym (inner x.0 (segs_read one n x.1))
  by ih (Err e) = refl

module _ {A B : Type 0} (f : List A → Format A) (t : A → B) (told : List A → List B) (l : List B → (B → Layout) → Layout)
    (grows : (xs : List A) (x : A) → told (xs ++ x ∷ []) ≡ told xs ++ t x ∷ []) (one : (xs : List A) → Reads (f xs) t (l (told xs))) where
  many_as : (n : ℕ) (earlier : List A) (k : List B → Layout) (bytes : List ℕ) → walk (many l (told earlier) n k) bytes ≡ follow (each_read f earlier n bytes) (λ xs rest. walk (k (told (earlier ++ xs))) rest)
  unfolding each_read
  many_as zero earlier k bytes = ap (λ (xs : List A). walk (k (told xs)) bytes) (simp append-nil refl)
  many_as (suc n) earlier k bytes =
      one earlier (λ x. many l (told earlier ++ x ∷ []) n k) bytes
      ∙ by (λ x rest. ap (λ (ys : List B). walk (many l ys n k) rest) (sym (grows earlier x)) ∙ many_as n (earlier ++ x ∷ []) k rest) ((f earlier).read bytes)
    where
      inner : (x : A) (r : Read (List A)) → follow r (λ xs rest. walk (k (told ((earlier ++ x ∷ []) ++ xs))) rest) ≡ follow (r >>= λ xs. Ok (x ∷ xs.0, xs.1)) (λ xs rest. walk (k (told (earlier ++ xs))) rest)
      inner x (Ok y) = ap (λ (xs : List A). walk (k (told xs)) y.1) (simp append_assoc refl)
      inner x (Err e) = refl

      by : ((x : A) (rest : List ℕ) → walk (many l (told earlier ++ t x ∷ []) n k) rest ≡ follow (each_read f (earlier ++ x ∷ []) n rest) (λ xs more. walk (k (told ((earlier ++ x ∷ []) ++ xs))) more)) → (r : Read A)
          → follow r (λ x rest. walk (many l (told earlier ++ t x ∷ []) n k) rest) ≡ follow (r >>= λ x. each_read f (earlier ++ x.0 ∷ []) n x.1 >>= λ xs. Ok (x.0 ∷ xs.0, xs.1)) (λ xs rest. walk (k (told (earlier ++ xs))) rest)
      by ih (Ok x) = ih x.0 x.1 ∙ inner x.0 (each_read f (earlier ++ x.0 ∷ []) n x.1)
      by ih (Err e) = refl

  pub many_reads : (n : ℕ) → told [] ≡ [] → Reads (each f [] n) told (λ k. many l [] n k)
  many_reads n none k bytes = ap (λ (ys : List B). walk (many l ys n k) bytes) (sym none) ∙ many_as n [] k bytes
