-- One more kind is looked at.
use Rattle.std.proofs.Common.{inl, inr, List, [], ◌∷◌, ◌++◌, refl, ap}
use Rattle.message_expected.specs.Expected.{Picks}
use Rattle.message_expected.specs.declared.kinds.Kind.{Kind}

pub picked : (Passes : Kind → Type 0) (all found : List Kind) (kind : Kind) → Picks Passes all found → Passes kind → Picks Passes (all ++ kind ∷ []) (found ++ kind ∷ [])
unfolding Picks
picked Passes [] found kind none passes = inl (passes, ([], ap (λ l. l ++ kind ∷ []) none, refl))
picked Passes (one ∷ all) found kind (inl (first, (rest, is, more))) passes =
    inl (first, (rest ++ kind ∷ [], ap (λ l. l ++ kind ∷ []) is, picked Passes all rest kind more passes))
picked Passes (one ∷ all) found kind (inr (first, more)) passes = inr (first, picked Passes all found kind more passes)

pub left : (Passes : Kind → Type 0) (all found : List Kind) (kind : Kind) → Picks Passes all found → ¬ Passes kind → Picks Passes (all ++ kind ∷ []) found
unfolding Picks
left Passes [] found kind none fails = inr (fails, none)
left Passes (one ∷ all) found kind (inl (first, (rest, is, more))) fails = inl (first, (rest, is, left Passes all rest kind more fails))
left Passes (one ∷ all) found kind (inr (first, more)) fails = inr (first, left Passes all found kind more fails)
