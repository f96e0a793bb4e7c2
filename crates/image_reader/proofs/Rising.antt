-- Numbers that rise.
use Rattle.std.proofs.Common.{◌≡◌, ◌&&◌, ◌++◌, ℕ, List, [], ◌∷◌, Option, Ok, Err, refl, ap}
use Rattle.std.specs.Prelude.{nat_lt}
use Rattle.image_format.specs.Format.{◌>>=◌, Read, checked, u16, unless, passed}
use Rattle.image_reader.specs.Grammar.{is_above, is_taken, wrong_number}

-- a number is above the last of them where it is above that
pub above_last : (earlier : List ℕ) (last n : ℕ) → is_above (earlier ++ last ∷ []) n ≡ nat_lt last n
above_last [] last n = refl
above_last (x ∷ []) last n = refl
above_last (x ∷ y ∷ ys) last n = above_last (y ∷ ys) last n

same_rule : (r : Read ℕ) (left : ℕ) (a b : ℕ → Option ℕ) → ((n : ℕ) → a n ≡ b n) → (r >>= λ x. passed (a x.0) left x) ≡ (r >>= λ x. passed (b x.0) left x)
same_rule (Ok x) left a b same = ap (λ w. passed w left x) (same x.0)
same_rule (Err f) left a b same = refl

-- what is read after these numbers is what is read after the last
pub after_last : (earlier : List ℕ) (last : ℕ) (bytes : List ℕ) → ((n : ℕ) → (is_above earlier n && is_taken n) ≡ (nat_lt last n && is_taken n))
    → (checked u16 (wrong_number earlier)).read bytes ≡ (checked u16 (λ n. unless (nat_lt last n && is_taken n) 8)).read bytes
after_last earlier last bytes same = same_rule (u16.read bytes) _ _ _ (λ n. ap (λ b. unless b 8) (same n))
