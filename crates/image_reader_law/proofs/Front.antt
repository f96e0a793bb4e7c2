-- The letters and the version of a file, and the fault where they are others.
use Rattle.std.proofs.Common.{◌≡◌, ◌⊎◌, inl, inr, ◌≤◌, ◌||◌, ◌==◌, ◌++◌, ℕ, Bool, true, false, List, [], ◌∷◌, length, take, drop, Ok, Err, Some, refl, sym, ap, ◌∙◌}
use Rattle.std.specs.Prelude.{nat_lt, nat_eq, codes}
use Rattle.std.specs.Int.{w16, from_be_bytes}
use Rattle.std.specs.Cmp.Lexicographic.{pointwise}
use Rattle.std.proofs.lemmas.Bool.{ltb-false, eqb-true}
use Rattle.image_format.specs.Numbers as written
use Rattle.image_format.specs.declared.fault.ByteFault.{ByteFault}
use Rattle.image_format.specs.Format.{fault, field_at, u16, bytes_as_are, unless, checked, passed}
use Rattle.image_reader.specs.File as f
use Rattle.image_format.specs.FormatLaw.{AreBytes}
use Rattle.image_format.proofs.SoundFields.{u16_sound}
use Rattle.image_reader.proofs.Words.{same_words}
use Rattle.image_reader_law.specs.Faults as s
use Rattle.image_reader_law.specs.Faults.{natural, list}
use Rattle.image_reader_law.proofs.Failed.{Failed, failed, failed_only, stops, goes_on, rule_of}
use Rattle.image_reader_law.proofs.Heard.{short, field_of, wrong_is}
use Rattle.image_reader_law.proofs.ImageFaultsWhole.{magic_rule, version_rule}
use Rattle.image_format.proofs.Sound.{field_long}

-- a field that was read
came : {A : Type 0} (size : ℕ) (value : List ℕ → A) (bytes : List ℕ) (z : A × List ℕ) → field_at size value bytes ≡ Ok z → (size ≤ length bytes) × ((value (take size bytes), drop size bytes) ≡ z)
came {A = A} size value bytes z h = by (nat_lt (length bytes) size) refl h where
  by : (b : Bool) → nat_lt (length bytes) size ≡ b → field_of b size value bytes ≡ Ok z → (size ≤ length bytes) × ((value (take size bytes), drop size bytes) ≡ z)
  by true low is = cc
  by false low is = (ltb-false (length bytes) size low, cc)

unless_is : (b : Bool) (number told : ℕ) → unless b number ≡ Some told → (b ≡ false) × (number ≡ told)
unless_is true number told h = cc
unless_is false number told h = (refl, cc)

-- ---- letters

pub record Letters (bytes : List ℕ) (e : ByteFault) : Type 0 where
  pub there : 4 ≤ length bytes
  pub other : take 4 bytes ≡ codes "RTEU" → ⊥
  pub fault_is : fault 1 (length bytes) ≡ e

are_other : (magic : List ℕ) → pointwise nat_eq magic (codes "RTEU") ≡ false → magic ≡ codes "RTEU" → ⊥
are_other magic h same = let test : pointwise nat_eq magic (codes "RTEU") ≡ true = ap (λ (m : List ℕ). pointwise nat_eq m (codes "RTEU")) same in cc

are_not : (magic : List ℕ) → (magic ≡ codes "RTEU" → ⊥) → magic_rule magic ≡ Some 1
are_not magic other = by (pointwise nat_eq magic (codes "RTEU")) refl where
  by : (b : Bool) → pointwise nat_eq magic (codes "RTEU") ≡ b → unless b 1 ≡ Some 1
  by true same = absurd (other (same_words magic (codes "RTEU") same))
  by false same = refl

pub letters_fail : (bytes : List ℕ) (e : ByteFault) → f.magic_format.read bytes ≡ Err e → (fault 2 0 ≡ e) ⊎ Letters bytes e
letters_fail bytes e h = by (failed ((bytes_as_are 4).read bytes) (rule_of magic_rule (length bytes)) e h) where
  by : Failed ((bytes_as_are 4).read bytes) (rule_of magic_rule (length bytes)) e → (fault 2 0 ≡ e) ⊎ Letters bytes e
  by (inl first) = inl (short (list natural) (bytes_as_are 4) 4 (s.of_bytes 4) bytes e first).1
  by (inr r) =
      let c = came 4 (λ b. b) bytes r.x r.was in
      let w = wrong_is (magic_rule r.x.0) (length bytes) r.x e r.then_is in
      let u = unless_is (pointwise nat_eq r.x.0 (codes "RTEU")) 1 w.0 w.1 in
      let magic : take 4 bytes ≡ r.x.0 = ap (λ (z : List ℕ × List ℕ). z.0) c.1 in
      inr (record { there = c.0; other = λ same. are_other r.x.0 u.0 (sym magic ∙ same); fault_is = ap (λ n. fault n (length bytes)) u.1 ∙ w.2 })

pub letters_told : (bytes : List ℕ) → 4 ≤ length bytes → (take 4 bytes ≡ codes "RTEU" → ⊥) → f.magic_format.read bytes ≡ Err (fault 1 (length bytes))
letters_told bytes there other =
    goes_on ((bytes_as_are 4).read bytes) (rule_of magic_rule (length bytes)) (take 4 bytes, drop 4 bytes) (fault 1 (length bytes)) (field_long 4 (λ b. b) bytes there)
    (ap (λ w. passed w (length bytes) (take 4 bytes, drop 4 bytes)) (are_not (take 4 bytes) other))

-- ---- the version

pub record Other (rest : List ℕ) (e : ByteFault) : Type 0 where
  pub there : 2 ≤ length rest
  pub not_first : take 2 rest ≡ 0 ∷ 1 ∷ [] → ⊥
  pub not_second : take 2 rest ≡ 0 ∷ 2 ∷ [] → ⊥
  pub fault_is : fault 1 (length rest) ≡ e

abbrev value : List ℕ → ℕ
value bytes = from_be_bytes w16 bytes

abbrev is_known : ℕ → Bool
is_known n = n == 1 || n == 2

known : (bytes : List ℕ) → is_known (value bytes) ≡ false → (same : List ℕ) → is_known (value same) ≡ true → bytes ≡ same → ⊥
known bytes h same is e = let test : is_known (value bytes) ≡ is_known (value same) = ap (λ (b : List ℕ). is_known (value b)) e in cc

pub version_fails : (rest : List ℕ) (e : ByteFault) → f.version_format.read rest ≡ Err e → (fault 2 0 ≡ e) ⊎ Other rest e
version_fails rest e h = by (failed (u16.read rest) (rule_of version_rule (length rest)) e (failed_only ((checked u16 version_rule).read rest) (λ x. (f.version_of x.0, x.1)) e h)) where
  by : Failed (u16.read rest) (rule_of version_rule (length rest)) e → (fault 2 0 ≡ e) ⊎ Other rest e
  by (inl first) = inl (short natural u16 2 s.of_two rest e first).1
  by (inr r) =
      let c = came 2 value rest r.x r.was in
      let w = wrong_is (version_rule r.x.0) (length rest) r.x e r.then_is in
      let u = unless_is (is_known r.x.0) 1 w.0 w.1 in
      let is : value (take 2 rest) ≡ r.x.0 = ap (λ (z : ℕ × List ℕ). z.0) c.1 in
      let no : is_known (value (take 2 rest)) ≡ false = ap is_known is ∙ u.0 in
      inr (record { there = c.0; not_first = known (take 2 rest) no (0 ∷ 1 ∷ []) refl; not_second = known (take 2 rest) no (0 ∷ 2 ∷ []) refl; fault_is = ap (λ n. fault n (length rest)) u.1 ∙ w.2 })

pub version_told : (rest : List ℕ) → AreBytes rest → 2 ≤ length rest → (take 2 rest ≡ 0 ∷ 1 ∷ [] → ⊥) → (take 2 rest ≡ 0 ∷ 2 ∷ [] → ⊥) → f.version_format.read rest ≡ Err (fault 1 (length rest))
version_told rest are there not_first not_second =
    stops ((checked u16 version_rule).read rest) (λ x. Ok (f.version_of x.0, x.1)) (fault 1 (length rest))
    (goes_on (u16.read rest) (rule_of version_rule (length rest)) (value (take 2 rest), drop 2 rest) (fault 1 (length rest)) (field_long 2 value rest there)
    (ap (λ w. passed w (length rest) (value (take 2 rest), drop 2 rest)) (by (value (take 2 rest) == 1) (value (take 2 rest) == 2) refl refl)))
  where
    number : (n : ℕ) → value (take 2 rest) == n ≡ true → take 2 rest ≡ take 2 (written.u16 n ++ drop 2 rest)
    number n is =
        let all = (u16_sound.back rest (value (take 2 rest), drop 2 rest) are (field_long 2 value rest there)).0 in
        ap (λ (b : List ℕ). take 2 b) (all ∙ ap (λ m. written.u16 m ++ drop 2 rest) (eqb-true (value (take 2 rest)) n is))

    by : (a b : Bool) → value (take 2 rest) == 1 ≡ a → value (take 2 rest) == 2 ≡ b → version_rule (value (take 2 rest)) ≡ Some 1
    by true b first second = absurd (not_first (number 1 first))
    by false true first second = absurd (not_second (number 2 second))
    by false false first second = rw (first, second) refl
