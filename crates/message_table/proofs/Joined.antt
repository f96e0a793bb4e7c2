-- Parts of a sentence, one behind another.
use Rattle.std.proofs.Common.{◌≡◌, ◌++◌, ℕ, List, ap, ◌∙◌, append_assoc}

-- one part is put behind another
pub joined : (old part more text : List ℕ) → text ≡ old ++ part → text ++ more ≡ old ++ (part ++ more)
joined old part more text is = ap (λ (t : List ℕ). t ++ more) is ∙ append_assoc old part more
