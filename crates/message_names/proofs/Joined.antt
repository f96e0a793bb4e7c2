-- Parts that are put one behind another.
use Rattle.std.proofs.Common.{◌≡◌, ◌++◌, ℕ, List, ap, ◌∙◌, append_assoc}

pub three : (old a b c one two : List ℕ) → one ≡ old ++ a → two ≡ one ++ b → two ++ c ≡ old ++ (a ++ (b ++ c))
three old a b c one two one_is two_is =
    ap (λ (t : List ℕ). t ++ c) (two_is ∙ ap (λ (t : List ℕ). t ++ b) one_is)
    ∙ append_assoc (old ++ a) b c ∙ append_assoc old a (b ++ c)

pub four : (old a b c d one two more : List ℕ) → one ≡ old ++ a → two ≡ one ++ b → more ≡ two ++ c → more ++ d ≡ old ++ (a ++ (b ++ (c ++ d)))
four old a b c d one two more one_is two_is more_is =
    three one b c d two more two_is more_is ∙ ap (λ (t : List ℕ). t ++ (b ++ (c ++ d))) one_is ∙ append_assoc old a (b ++ (c ++ d))
