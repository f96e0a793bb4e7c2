-- What is asked of a line is what is asked of the fields of an image.
use Rattle.std.proofs.Common.{◌≡◌, ◌≤◌, ◌<◌, ◌⊎◌, inl, inr, ℕ, zero, suc, List, [], ◌∷◌, length, arith, refl, false}
use Rattle.std.proofs.lemmas.Bool.{ltb-false, le-ltb}
use Rattle.image_reader.specs.Grammar.{is_above, is_taken}
use Rattle.image_reader_law.specs.Fields as fields
use Rattle.asm_law.specs.Notes.{Wrong, handled}
use Rattle.asm_law.specs.ImagesLaw.{last_of, NotesAreThoseOfImages}

none_is_taken : (n : ℕ) → n ≤ 0 → is_taken n ≡ false
none_is_taken zero low = refl
none_is_taken (suc n) low = absurd (omega (arith, low))

not_above : (earlier : List ℕ) (n : ℕ) → n ≤ last_of earlier → (is_above earlier n ≡ false) ⊎ (is_taken n ≡ false)
not_above [] n low = inr (none_is_taken n low)
not_above (x ∷ []) n low = inl (le-ltb x n low)
not_above (x ∷ y ∷ ys) n low = not_above (y ∷ ys) n low

is_low : (earlier : List ℕ) (n : ℕ) → is_above earlier n ≡ false → n ≤ last_of earlier
is_low [] n is = absurd cc
is_low (x ∷ []) n is = ltb-false x n is
is_low (x ∷ y ∷ ys) n is = is_low (y ∷ ys) n is

there : (earlier : List ℕ) (bytes : List ℕ) (fault : ℕ) → Wrong (handled (last_of earlier) (fields.number 2 bytes)) fault → fields.Wrong (fields.handled earlier) bytes fault
there earlier bytes fault w = (w.0, elim w.1 [ inl low ↦ not_above earlier (fields.number 2 bytes) low | inr other ↦ inr other ])

back : (earlier : List ℕ) (bytes : List ℕ) (fault : ℕ) → fields.Wrong (fields.handled earlier) bytes fault → Wrong (handled (last_of earlier) (fields.number 2 bytes)) fault
back earlier bytes fault w = (w.0, elim w.1 [ inl low ↦ inl (is_low earlier (fields.number 2 bytes) low) | inr other ↦ inr other ])

name_there : (n : ℕ) (A B : Type 0) → (n ≡ 4 → ⊥) → ((n ≡ 4) × A) ⊎ ((n ≡ 5) × B) → (n ≡ 5) × B
name_there n A B other (inl w) = absurd (other w.0)
name_there n A B other (inr w) = w

long_there : (n long : ℕ) (B : Type 0) (bytes : List ℕ) → (n ≡ 5 → ⊥) → fields.number 1 bytes ≡ long → ((n ≡ 4) × (63 < long)) ⊎ ((n ≡ 5) × B) → fields.Wrong (fields.ranged 1 0 63) bytes n
long_there n long B bytes other same (inl w) = (w.0, inr (let over = w.1 in omega (arith, over, same)))
long_there n long B bytes other same (inr w) = absurd (other w.0)

long_back : (long : ℕ) (bytes : List ℕ) → fields.number 1 bytes ≡ long → fields.Wrong (fields.ranged 1 0 63) bytes 4 → 63 < long
long_back long bytes same w = elim w.1 [ inl under ↦ omega (arith, under) | inr over ↦ omega (arith, over, same) ]

pub notes_are_those_of_images : NotesAreThoseOfImages
notes_are_those_of_images = record {
  numbers = λ size low high bytes fault. (λ w. w, λ w. w);
  things = λ count bytes fault. (λ w. w, λ w. w);
  events = λ events used bytes fault. (λ w. w, λ w. w);
  names = λ taken name. (λ w. name_there 5 _ _ (λ e. omega (arith, e)) w, λ w. inr w);
  long_names = λ taken name bytes same. (λ w. long_there 4 (length name) _ bytes (λ e. omega (arith, e)) same w, λ w. inl (refl, long_back (length name) bytes same w));
  conditions = λ earlier condition fault. (λ w. w, λ w. w);
  numbers_handled = λ earlier bytes fault. (there earlier bytes fault, back earlier bytes fault);
}
