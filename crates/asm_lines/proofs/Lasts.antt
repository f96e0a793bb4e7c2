-- The last of a list.
use Rattle.std.proofs.Common.{◌≡◌, ◌++◌, ℕ, Bool, List, [], ◌∷◌, Option, None, Some, length, refl, sym, ap, ◌∙◌, arith}
use Rattle.std.specs.Prelude.{option_map, option_to_list}
use Rattle.asm_lines.specs.TreeForm.{last}

pub last_pushed : (xs : List Bool) (b : Bool) → last (xs ++ b ∷ []) ≡ Some (xs, b)
last_pushed [] b = refl
last_pushed (x ∷ []) b = refl
last_pushed (x ∷ y ∷ ys) b = ap (option_map (λ z. (x ∷ z.0, z.1))) (last_pushed (y ∷ ys) b)

last_none : (xs : List Bool) → length xs ≡ 0 → last xs ≡ None
last_none [] h = refl
last_none (x ∷ xs) h = absurd (omega (arith, h))

pub last_taken : (old new : List Bool) (r : Option Bool) → old ≡ new ++ option_to_list r → (r ≡ None → length old ≡ 0) → last old ≡ option_map (λ b. (new, b)) r
last_taken old new None same none = last_none old (none refl)
last_taken old new (Some b) same none = ap last same ∙ last_pushed new b
