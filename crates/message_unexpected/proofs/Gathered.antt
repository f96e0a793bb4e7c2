-- One turn, and the end, of gathering the words of letters.
use Rattle.std.proofs.Common.{◌≡◌, ℕ, ◌+◌, ◌<◌, ◌≤◌, List, [], ◌∷◌, ◌++◌, length, drop, get_or, refl, ap, sym, ◌∙◌, append_assoc, append-nil}
use Rattle.std.proofs.lemmas.List.{drop_all, drop_more}
use Rattle.message_expected.specs.declared.kinds.Kind.{Kind}
use Rattle.message_expected.specs.declared.kinds.Kind.TheVariants.{End, Name, Number, Deadline, Keyword, Sign}
use Rattle.message_unexpected.specs.Remarks.{candidates}

one_more : (kind : Kind) (rest : List Kind) → candidates (kind ∷ rest) ≡ candidates (kind ∷ []) ++ candidates rest
one_more End rest = refl
one_more Name rest = refl
one_more Number rest = refl
one_more Deadline rest = refl
one_more (Keyword at) rest = refl
one_more (Sign at) rest = refl

pub gathered : (found : List Kind) (i : ℕ) (d : Kind) (old new whole : List (List ℕ)) → i < length found → old ++ candidates (drop i found) ≡ whole
    → new ≡ old ++ candidates (get_or found i d ∷ []) → new ++ candidates (drop (i + 1) found) ≡ whole
gathered found i d old new whole below so_far step =
    let rest = drop (i + 1) found in
    ap (λ l. l ++ candidates rest) step ∙ append_assoc old (candidates (get_or found i d ∷ [])) (candidates rest)
    ∙ ap (λ l. old ++ l) (sym (one_more (get_or found i d) rest)) ∙ ap (λ l. old ++ candidates l) (sym (drop_more found i d below)) ∙ so_far

pub all_gathered : (found : List Kind) (i : ℕ) (old whole : List (List ℕ)) → length found ≤ i → old ++ candidates (drop i found) ≡ whole → old ≡ whole
all_gathered found i old whole all so_far = sym (append-nil old) ∙ ap (λ l. old ++ candidates l) (sym (drop_all i found all)) ∙ so_far
