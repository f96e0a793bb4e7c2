-- Parts of a kind, one after the other.
use Rattle.std.proofs.Common.{◌≡◌, ◌≤◌, ◌+◌, ◌++◌, ℕ, zero, suc, Bool, true, List, [], ◌∷◌, length, refl, sym, subst, arith}
use Rattle.std.specs.List.{flat_map}
use Rattle.image_format.specs.Format.{Format, each_is}
use Rattle.text_fields.specs.Front.{Front, Read}
use Rattle.assembler.specs.Sections.{no_more, rows_read}
use Rattle.asm_law.proofs.Took.{Start, Takes, along, recount, nothing, Holds, went, failed, next, choice, mapped}
use Rattle.asm_law.proofs.SoundNumbers.{both_true}

-- this holds of each, after those before it
abbrev pub EachHeld : {A : Type 0} → (Held : List A → A → Type 0) → (earlier xs : List A) → Type 0
EachHeld Held earlier [] = Unit {0}
EachHeld Held earlier (x ∷ xs) = Held earlier x × EachHeld Held (earlier ++ x ∷ []) xs

pub each_held : {A : Type 0} (format : List A → Format A) (Held : List A → A → Type 0) → ((earlier : List A) (x : A) → Held earlier x → (format earlier).is x ≡ true)
    → (earlier xs : List A) → EachHeld Held earlier xs → each_is format earlier (length xs) xs ≡ true
each_held format Held is earlier [] held = refl
each_held format Held is earlier (x ∷ xs) held = both_true (is earlier x held.0) (each_held format Held is (earlier ++ x ∷ []) xs held.1)

-- the same number of each
abbrev tally : {A : Type 0} → ℕ → List A → ℕ
tally k [] = 0
tally k (x ∷ xs) = k + tally k xs

no_tally : {A : Type 0} (xs : List A) → tally 0 xs ≡ 0
no_tally [] = refl
no_tally (x ∷ xs) = let more = no_tally xs in omega (arith, more)

each_tally : {A : Type 0} (xs : List A) → tally 1 xs ≡ length xs
each_tally [] = refl
each_tally (x ∷ xs) = let more = each_tally xs in omega (arith, more)

module _ {A B : Type 0} (is_next : List ℕ → Bool) (one : List A → Front → Read A) (line : List A → Front → Read B) (write : A → List ℕ) (Held : List A → A → Type 0) (k : ℕ) where
  abbrev OneTook : Type 0
  OneTook = (earlier : List A) (s : Front) → Holds (λ z. Takes Start Start k s z.1 (write z.0) (Held earlier z.0)) (one earlier s)

  abbrev Rows : (earlier : List A) → (most : ℕ) → Front → List A × Front → Type 0
  Rows earlier most s z = (length z.0 ≤ most) × Takes Start Start (tally k z.0) s z.1 (flat_map write z.0) (EachHeld Held earlier z.0)

  none_took : (earlier : List A) (most : ℕ) (s : Front) → Rows earlier most s ([], s)
  none_took earlier most s = ((let e : 0 ≤ most = omega arith in e), nothing s)

  stays : (earlier : List A) (s : Front) → Holds (λ t. t ≡ s) (no_more is_next (line earlier) s)
  stays earlier s = choice (is_next s.rest) (λ h. failed) (λ h. went refl)

  rows_took : OneTook → (earlier : List A) (most : ℕ) (s : Front) → Holds (Rows earlier most s) (rows_read is_next one line earlier most s)
  unfolding rows_read
  rows_took one_took earlier zero s = next (stays earlier s) (λ t same. went (subst (λ (u : Front). Rows earlier zero s ([], u)) (sym same) (none_took earlier zero s)))
  rows_took one_took earlier (suc n) s =
      choice (is_next s.rest)
      (λ h. next (one_took earlier s) (λ x a. next (rows_took one_took (earlier ++ x.0 ∷ []) n x.1) (λ xs b. went ((let low = b.0 in let e : length (x.0 ∷ xs.0) ≤ suc n = omega (arith, low) in e), along a b.1))))
      (λ h. went (none_took earlier (suc n) s))

-- no line of a process is among them
pub plain_rows : {A B : Type 0} (is_next : List ℕ → Bool) (one : List A → Front → Read A) (line : List A → Front → Read B) (write : A → List ℕ) (Held : List A → A → Type 0)
    → OneTook is_next one line write Held 0 → (most : ℕ) (s : Front)
    → Holds (λ z. (length z.0 ≤ most) × Takes Start Start 0 s z.1 (flat_map write z.0) (EachHeld Held [] z.0)) (rows_read is_next one line [] most s)
plain_rows is_next one line write Held one_took most s = mapped (λ z a. (a.0, recount (no_tally z.0) a.1)) (rows_took is_next one line write Held 0 one_took [] most s)

-- each begins with one
pub owner_rows : {A B : Type 0} (is_next : List ℕ → Bool) (one : List A → Front → Read A) (line : List A → Front → Read B) (write : A → List ℕ) (Held : List A → A → Type 0)
    → OneTook is_next one line write Held 1 → (most : ℕ) (s : Front)
    → Holds (λ z. (length z.0 ≤ most) × Takes Start Start (length z.0) s z.1 (flat_map write z.0) (EachHeld Held [] z.0)) (rows_read is_next one line [] most s)
owner_rows is_next one line write Held one_took most s = mapped (λ z a. (a.0, recount (each_tally z.0) a.1)) (rows_took is_next one line write Held 1 one_took [] most s)
