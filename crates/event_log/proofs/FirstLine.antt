-- The first LF of a text, found by `memchr`.
use Rattle.std.proofs.Common.{◌≡◌, ◌+◌, ◌<◌, ℕ, zero, suc, Bool, true, false, List, [], ◌∷◌, length, cond, refl, ap, sym, ◌∙◌, arith}
use Rattle.std.specs.Prelude.{◌==◌, not}
use Rattle.std.specs.List.{prefix_len}
use Rattle.memchr.specs.Find.{Nowhere, Passes, is_byte}
use Rattle.text_fields.specs.Fields.{is_other}

not_true : (b : Bool) → ¬ (b ≡ true) → b ≡ false
not_true true other = absurd (other refl)
not_true false other = refl

-- the bytes before a place where it stands first are those that others fill
pub before_first : (stop : ℕ) (bytes : List ℕ) (k : ℕ) → k < length bytes → Nowhere (Passes (is_byte stop) bytes) 0 k → Passes (is_byte stop) bytes k → k ≡ prefix_len (is_other stop) bytes
before_first stop [] k below none is = absurd (omega (arith, below))
before_first stop (b ∷ bytes) zero below none is = sym (ap (λ t. cond (not t) (1 + prefix_len (is_other stop) bytes) 0) is)
before_first stop (b ∷ bytes) (suc k) below none is =
    let other : (b == stop) ≡ false = not_true (b == stop) (none 0 (omega arith) (omega arith)) in
    let rest : k ≡ prefix_len (is_other stop) bytes = before_first stop bytes k (omega (arith, below)) (λ j low under. none (suc j) (omega arith) (omega (arith, under))) is in
    let more : suc k ≡ 1 + k = omega arith in
    more ∙ ap (λ n. 1 + n) rest ∙ sym (ap (λ t. cond (not t) (1 + prefix_len (is_other stop) bytes) 0) other)

-- where it stands nowhere others fill all
pub nowhere : (stop : ℕ) (bytes : List ℕ) → Nowhere (Passes (is_byte stop) bytes) 0 (length bytes) → length bytes ≡ prefix_len (is_other stop) bytes
nowhere stop [] none = refl
nowhere stop (b ∷ bytes) none =
    let other : (b == stop) ≡ false = not_true (b == stop) (none 0 (omega arith) (omega arith)) in
    let rest : length bytes ≡ prefix_len (is_other stop) bytes = nowhere stop bytes (λ j low under. none (suc j) (omega arith) (omega (arith, under))) in
    let more : suc (length bytes) ≡ 1 + length bytes = omega arith in
    more ∙ ap (λ n. 1 + n) rest ∙ sym (ap (λ t. cond (not t) (1 + prefix_len (is_other stop) bytes) 0) other)
