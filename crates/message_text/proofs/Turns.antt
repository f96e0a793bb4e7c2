-- One turn, and the end, of a loop that puts a part for each element of a list at the end.
use Rattle.std.proofs.Common.{◌≡◌, ◌<◌, ◌≤◌, ◌+◌, ℕ, List, [], ◌∷◌, ◌++◌, length, drop, get_or, map, ap, sym, ◌∙◌, append_assoc, append-nil}
use Rattle.std.specs.Borrow.{Bor}
use Rattle.std.proofs.lemmas.List.{drop_more, drop_all}

-- what stands behind each reference
abbrev pub seen : {A : Type 0} → List (Bor A) → List A
seen xs = map (λ x. x.now) xs

pub drop_item : {X : Type 0} (xs : List X) (i : ℕ) (x : X) → i < length xs → x ≡ get_or xs i x → drop i xs ≡ x ∷ drop (i + 1) xs
drop_item xs i x below is = drop_more xs i x below ∙ ap (λ y. y ∷ drop (i + 1) xs) (sym is)

-- the part of the element at i is put
pub turned : {A B : Type 0} (parts : List A → List B) (xs : List A) (i : ℕ) (x : A) (one old new whole : List B)
    → parts (x ∷ drop (i + 1) xs) ≡ one ++ parts (drop (i + 1) xs)
    → i < length xs → x ≡ get_or xs i x → old ++ parts (drop i xs) ≡ whole → new ≡ old ++ one → new ++ parts (drop (i + 1) xs) ≡ whole
turned {A} {B} parts xs i x one old new whole first below is so_far put =
    let rest = parts (drop (i + 1) xs) in
    ap (λ (t : List B). t ++ rest) put ∙ append_assoc old one rest
    ∙ ap (λ (t : List B). old ++ t) (sym first ∙ sym (ap parts (drop_item xs i x below is))) ∙ so_far

-- all parts are put
pub ended : {A B : Type 0} (parts : List A → List B) (xs : List A) (i : ℕ) (old whole : List B)
    → parts [] ≡ [] → length xs ≤ i → old ++ parts (drop i xs) ≡ whole → old ≡ whole
ended {A} {B} parts xs i old whole none all so_far =
    sym (append-nil old) ∙ ap (λ (t : List B). old ++ t) (sym none ∙ sym (ap parts (drop_all i xs all))) ∙ so_far
