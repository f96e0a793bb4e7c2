-- The numbers that no fault has.
use Rattle.std.proofs.Common.{◌≡◌, ◌≢◌, ◌≤◌, ◌<◌, ℕ, zero, suc, List, ◌∷◌, length, get_or, refl, arith}
use Rattle.std.proofs.lemmas.List.{get_or_past}
use Rattle.message_log.specs.Image.{image_sentence, image_sentences, no_image, no_text, text_sentence, text_sentences}

-- a number that no row of a table has but the first
other_row : (row : List ℕ) (rows : List (List ℕ)) (n : ℕ) → (n ≢ 0 → length rows < n) → get_or (row ∷ rows) n row ≡ row
other_row row rows zero above = refl
other_row row rows (suc n) above =
    let past : length rows ≤ n = grind (arith, above) in
    get_or_past rows n row past

pub no_image_number : (n : ℕ) → n ≢ 1 → n ≢ 2 → n ≢ 3 → n ≢ 4 → n ≢ 5 → n ≢ 6 → n ≢ 7 → n ≢ 8 → n ≢ 9 → image_sentence n ≡ no_image
no_image_number n a b c d e f g h i =
    let above : n ≢ 0 → 9 < n = λ some. omega (arith, some, a, b, c, d, e, f, g, h, i) in
    other_row no_image image_sentences n above

pub no_text_number : (n : ℕ) → n ≢ 1 → n ≢ 2 → text_sentence n ≡ no_text
no_text_number n a b =
    let above : n ≢ 0 → 2 < n = λ some. omega (arith, some, a, b) in
    other_row no_text text_sentences n above
