-- Whether a row has a sign.
use Rattle.std.proofs.Common.{◌≡◌, ◌||◌, ℕ, Bool, List, [], ◌∷◌, map, refl, ap, sym, ◌∙◌}
use Rattle.std.specs.Prelude.{bytes_eq, if◌then◌else◌}
use Rattle.std.specs.List.{list_any}
use Rattle.message_words.specs.declared.rows.Row.{Row}
use Rattle.message_words.specs.Seen.{row_of}
use Rattle.message_words.specs.Usage.{explained}

any_map : {X Y : Type 0} (f : X → Y) (p : Y → Bool) (xs : List X) → list_any p (map f xs) ≡ list_any (λ x. p (f x)) xs
any_map f p [] = refl
any_map f p (x ∷ xs) = ap (λ (b : Bool). p (f x) || b) (any_map f p xs)

pub explained_is : (rows : List Row) (sign told : List ℕ) (is_told : Bool) → is_told ≡ list_any (λ row. bytes_eq row.sign.now sign) rows
    → (if is_told then told else []) ≡ explained (map row_of rows) sign told
explained_is rows sign told is_told is =
    ap (λ (b : Bool). if b then told else []) (is ∙ sym (any_map row_of (λ r. bytes_eq r.sign sign) rows))
