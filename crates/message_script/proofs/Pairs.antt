-- The first two blanks that are side by side.
use Rattle.std.proofs.Common.{◌≡◌, ◌<◌, ◌≤◌, ◌+◌, ◌-◌, ℕ, Bool, true, false, List, [], ◌∷◌, Some, None, length, drop, get_or, refl, ap, sym, ◌∙◌, arith}
use Rattle.std.proofs.lemmas.List.{drop_more}
use Rattle.std.specs.Prelude.{if◌then◌else◌}
use Rattle.message_script.specs.Forms.{are_blanks, behind_blanks}

-- two bytes of a list, and what stands behind them
pub two_more : (bytes : List ℕ) (at : ℕ) → 0 < at → at < length bytes
    → drop (at - 1) bytes ≡ get_or bytes (at - 1) 0 ∷ get_or bytes at 0 ∷ drop (at + 1) bytes
two_more bytes at some below =
    let e : at - 1 + 1 ≡ at = omega (arith, some) in
    drop_more bytes (at - 1) 0 (omega (arith, below))
    ∙ ap (λ (k : ℕ). get_or bytes (at - 1) 0 ∷ drop k bytes) e
    ∙ ap (λ (ds : List ℕ). get_or bytes (at - 1) 0 ∷ ds) (drop_more bytes at 0 below)

-- whether they are two blanks
pub pair_is : (bytes : List ℕ) (at : ℕ) → 0 < at → at < length bytes
    → behind_blanks (drop (at - 1) bytes) ≡ (if are_blanks (get_or bytes (at - 1) 0) (get_or bytes at 0) then Some (drop (at + 1) bytes) else behind_blanks (drop at bytes))
unfolding behind_blanks
pair_is bytes at some below =
    ap behind_blanks (two_more bytes at some below)
    ∙ ap (λ (ds : List ℕ). if are_blanks (get_or bytes (at - 1) 0) (get_or bytes at 0) then Some (drop (at + 1) bytes) else behind_blanks ds) (sym (drop_more bytes at 0 below))

pub pair_found : (bytes : List ℕ) (at : ℕ) (found : Bool) → 0 < at → at < length bytes → found ≡ are_blanks (get_or bytes (at - 1) 0) (get_or bytes at 0) → found ≡ true
    → behind_blanks (drop (at - 1) bytes) ≡ Some (drop (at + 1) bytes)
pair_found bytes at found some below is so =
    pair_is bytes at some below ∙ ap (λ (b : Bool). if b then Some (drop (at + 1) bytes) else behind_blanks (drop at bytes)) (sym is ∙ so)

pub no_pair : (bytes : List ℕ) (at : ℕ) (found : Bool) → 0 < at → at < length bytes → found ≡ are_blanks (get_or bytes (at - 1) 0) (get_or bytes at 0) → found ≡ false
    → behind_blanks (drop (at - 1) bytes) ≡ behind_blanks (drop at bytes)
no_pair bytes at found some below is other =
    pair_is bytes at some below ∙ ap (λ (b : Bool). if b then Some (drop (at + 1) bytes) else behind_blanks (drop at bytes)) (sym is ∙ other)

pub few_bytes : (bytes : List ℕ) → length bytes ≤ 1 → behind_blanks bytes ≡ None
unfolding behind_blanks
few_bytes [] few = refl
few_bytes (b ∷ []) few = refl
few_bytes (b ∷ c ∷ more) few = absurd (omega (arith, few))
