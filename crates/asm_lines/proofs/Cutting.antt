-- The parts of bytes, when they are cut at the first byte of a value.
use Rattle.std.proofs.Common.{◌≡◌, ◌==◌, ◌++◌, ℕ, List, [], ◌∷◌, Bool, true, false, fold, refl, sym, ap, ◌∙◌, arith}
use Rattle.std.proofs.lemmas.Bool.{eqb-true}
use Rattle.text_fields.specs.Fields.{IsCutAt, Lacks}
use Rattle.asm_lines.specs.TreeForm.{Shape, cuts, longer, step}

other_byte : (b stop : ℕ) → ((b ≡ stop) → ⊥) → (b == stop) ≡ false
other_byte b stop other = by (b == stop) refl where
  by : (t : Bool) → (b == stop) ≡ t → t ≡ false
  by true h = absurd (other (eqb-true b stop h))
  by false h = refl

pub cuts_at : (stop : ℕ) (a b : List ℕ) → Lacks stop a → cuts stop (a ++ stop ∷ b) ≡ a ∷ cuts stop b
cuts_at stop [] b lacks = rw (same stop) refl where
  same : (n : ℕ) → (n == n) ≡ true
  same n = grind arith
cuts_at stop (x ∷ a) b lacks = rw (other_byte x stop lacks.0, cuts_at stop a b lacks.1) refl

pub cuts_none : (stop : ℕ) (bytes : List ℕ) → Lacks stop bytes → cuts stop bytes ≡ bytes ∷ []
cuts_none stop [] lacks = refl
cuts_none stop (x ∷ bytes) lacks = rw (other_byte x stop lacks.0, cuts_none stop bytes lacks.1) refl

-- one more word was read
pub goes_on : (shape next total : Shape) (rest before after : List ℕ) → IsCutAt 32 rest before after → next ≡ step shape before → fold step shape (cuts 32 rest) ≡ total → fold step next (cuts 32 after) ≡ total
goes_on shape next total rest before after cut is so_far =
    let e : cuts 32 rest ≡ before ∷ cuts 32 after = ap (cuts 32) cut.whole ∙ cuts_at 32 before after cut.first in
    ap (λ s. fold step s (cuts 32 after)) is ∙ sym (ap (fold step shape) e) ∙ so_far

-- the last word was read
pub ends : (shape next total : Shape) (rest : List ℕ) → Lacks 32 rest → next ≡ step shape rest → fold step shape (cuts 32 rest) ≡ total → next ≡ total
ends shape next total rest lacks is so_far = is ∙ sym (ap (fold step shape) (cuts_none 32 rest lacks)) ∙ so_far
