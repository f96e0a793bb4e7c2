-- What a buffer holds after one piece, and then another.
use Rattle.std.proofs.Common.{◌≡◌, ◌++◌, ℕ, List, ap, ◌∙◌, append_assoc}

pub after : (a b : List ℕ) (s t u : List ℕ) → t ≡ s ++ a → u ≡ t ++ b → u ≡ s ++ (a ++ b)
after a b s t u first second = second ∙ ap (λ (xs : List ℕ). xs ++ b) first ∙ append_assoc s a b
