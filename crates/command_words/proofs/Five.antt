-- Five words, the first of which is `make`.
use Rattle.std.proofs.Common.{◌≡◌, ℕ, ◌<◌, ◌≤◌, Bool, false, not, List, [], ◌∷◌, map, length, get_or, String, string_bytes, bytes_eq, codes, arith}
use Rattle.std.specs.Global.{Global}
use Rattle.std.proofs.lemmas.Slice.Eq.{bytes_eq-Decides}

-- five words have these bytes
pub five_words : (ws : List (String Global)) (a b c d e : String Global) → 5 ≤ length ws → length ws < 6 → a ≡ get_or ws 0 a → b ≡ get_or ws 1 b → c ≡ get_or ws 2 c → d ≡ get_or ws 3 d → e ≡ get_or ws 4 e → map string_bytes ws ≡ string_bytes a ∷ string_bytes b ∷ string_bytes c ∷ string_bytes d ∷ string_bytes e ∷ []
five_words [] a b c d e some few is_a is_b is_c is_d is_e = absurd (omega (arith, some))
five_words (_ ∷ []) a b c d e some few is_a is_b is_c is_d is_e = absurd (omega (arith, some))
five_words (_ ∷ _ ∷ []) a b c d e some few is_a is_b is_c is_d is_e = absurd (omega (arith, some))
five_words (_ ∷ _ ∷ _ ∷ []) a b c d e some few is_a is_b is_c is_d is_e = absurd (omega (arith, some))
five_words (_ ∷ _ ∷ _ ∷ _ ∷ []) a b c d e some few is_a is_b is_c is_d is_e = absurd (omega (arith, some))
five_words (v ∷ w ∷ x ∷ y ∷ z ∷ []) a b c d e some few is_a is_b is_c is_d is_e = cc (is_a, is_b, is_c, is_d, is_e)
five_words (v ∷ w ∷ x ∷ y ∷ z ∷ more ∷ rest) a b c d e some few is_a is_b is_c is_d is_e = absurd (omega (arith, few))

-- a word that is not another one than `make`
pub make_word : (word : List ℕ) (other : Bool) → other ≡ not (bytes_eq word (codes "make")) → other ≡ false → word ≡ codes "make"
make_word word other is same = grind (arith, bytes_eq-Decides word (codes "make"))
