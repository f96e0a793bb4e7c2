-- One turn, and the end, of a loop that puts a part for each element of a list behind what is there.
use Rattle.std.proofs.Common.{◌≡◌, ◌<◌, ◌≤◌, ◌+◌, ℕ, List, [], ◌∷◌, ◌++◌, length, drop, get_or, map, refl, ap, sym, ◌∙◌, append_assoc, append-nil}
use Rattle.std.specs.Prelude.{Result, Ok, Err, IfOk}
use Rattle.std.specs.Borrow.{Bor}
use Rattle.std.proofs.lemmas.List.{drop_more, drop_all, map-append}
use Rattle.table_format.specs.Parts.{seen}

pub drop_item : {X : Type 0} (xs : List X) (i : ℕ) (x : X) → i < length xs → x ≡ get_or xs i x → drop i xs ≡ x ∷ drop (i + 1) xs
drop_item xs i x below is = drop_more xs i x below ∙ ap (λ y. y ∷ drop (i + 1) xs) (sym is)

-- the part of the element at i is put
pub turned : {A B : Type 0} (parts : List A → List B) (xs : List A) (i : ℕ) (x : A) (one old new whole : List B)
    → parts (x ∷ drop (i + 1) xs) ≡ one ++ parts (drop (i + 1) xs)
    → i < length xs → x ≡ get_or xs i x → old ++ parts (drop i xs) ≡ whole → new ≡ old ++ one → new ++ parts (drop (i + 1) xs) ≡ whole
turned {A} {B} parts xs i x one old new whole first below is so_far put =
    let rest = parts (drop (i + 1) xs) in
    ap (λ (t : List B). t ++ rest) put ∙ append_assoc old one rest
    ∙ ap (λ (t : List B). old ++ t) (sym first ∙ sym (ap parts (drop_item xs i x below is))) ∙ so_far

-- all parts are put
pub ended : {A B : Type 0} (parts : List A → List B) (xs : List A) (i : ℕ) (old whole : List B)
    → parts [] ≡ [] → length xs ≤ i → old ++ parts (drop i xs) ≡ whole → old ≡ whole
ended {A} {B} parts xs i old whole none all so_far =
    sym (append-nil old) ∙ ap (λ (t : List B). old ++ t) (sym none ∙ sym (ap parts (drop_all i xs all))) ∙ so_far

-- what is seen behind one more reference
pub seen_more : {A : Type 0} (old new : List (Bor A)) (x : Bor A) → new ≡ old ++ x ∷ [] → seen new ≡ seen old ++ x.now ∷ []
seen_more {A} old new x is = ap seen is ∙ map-append (λ (r : Bor A). r.now) old (x ∷ [])

-- what was made is this too
pub made_is : {E : Type 0} {A : Type 0} (made : Result A E) (it other : A) → IfOk made (λ x. x ≡ it) → it ≡ other → IfOk made (λ x. x ≡ other)
made_is (Ok x) it other is same = is ∙ same
made_is (Err e) it other is same = tt
