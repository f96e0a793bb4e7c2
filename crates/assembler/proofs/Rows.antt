-- Names and things side by side, of which the things are told by a view.
use Rattle.std.proofs.Common.{◌≡◌, ◌++◌, ◌∷◌, [], ℕ, List, length, map, sym, ap, ◌∙◌}
use Rattle.std.proofs.lemmas.List.{map_push, length-map}
use Rattle.std.specs.List.{zip}
use Rattle.image_reader.proofs.Zips.{firsts, zip_push}

same_length : {A B : Type 0} (view : A → B) (names : List (List ℕ)) (things : List A) → length names ≡ length things → length names ≡ length (map view things)
same_length view names things each = each ∙ sym (length-map things view)

-- the names that are taken are those of the rows
pub names_taken : {A B : Type 0} (view : A → B) (before taken names : List (List ℕ)) (things : List A) → length names ≡ length things → taken ≡ before ++ names → taken ≡ before ++ map (λ row. row.0) (zip names (map view things))
names_taken view before taken names things each is = is ∙ ap (λ (ns : List (List ℕ)). before ++ ns) (sym (firsts names (map view things) (same_length view names things each)))

-- one more name and its thing are one more row
pub one_more : {A B : Type 0} (view : A → B) (names : List (List ℕ)) (things : List A) (n : List ℕ) (x : A) → length names ≡ length things
    → zip (names ++ n ∷ []) (map view (things ++ x ∷ [])) ≡ zip names (map view things) ++ (n, view x) ∷ []
one_more view names things n x each = ap (zip (names ++ n ∷ [])) (map_push view things x) ∙ zip_push names (map view things) n (view x) (same_length view names things each)

-- there are as many rows as names
pub as_many : {A B : Type 0} (view : A → B) (names : List (List ℕ)) (things : List A) → length names ≡ length things → length names ≡ length (zip names (map view things))
as_many view names things each =
    let rows = zip names (map view things) in
    ap length (sym (firsts names (map view things) (same_length view names things each))) ∙ length-map rows (λ row. row.0)
