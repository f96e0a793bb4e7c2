-- A loop over a list, where the meaning is over the list that a function makes of it.
use Rattle.std.proofs.Common.{◌≡◌, ◌<◌, ◌+◌, ◌++◌, ℕ, List, [], ◌∷◌, All, length, map, take, drop, get_or, sym, ◌∙◌, ap, subst, append_assoc}
use Rattle.std.specs.List.{flat_map}
use Rattle.std.proofs.lemmas.List.{get_or-map, drop_more, take_more, map-append, flat_map_more, length-map}
use Rattle.image.specs.declared.raw.RawProcess.{RawProcess}
use Rattle.image.specs.Bytes.{Second, process_bytes, processes_bytes}
use Rattle.image.specs.Raw.{process_of}

-- what holds of each of the new list holds of what an element becomes
pub all_mapped : {A B : Type 0} (f : A → B) (P : B → Type 0) (xs : List A) (i : ℕ) (x : A) → i < length xs → x ≡ get_or xs i x → All P (map f xs) → P (f x)
all_mapped f P xs i x within is all =
    let at : P (get_or (map f xs) i (f x)) = all i (f x) (subst (λ n. i < n) (sym (length-map xs f)) within) in
    subst P (get_or-map f xs i x (f x) within ∙ ap f (sym is)) at

-- the bytes of one more
pub one_more : {A B : Type 0} (f : A → B) (bytes : B → List ℕ) (xs : List A) (i : ℕ) (x : A) (start out new : List ℕ) → i < length xs → x ≡ get_or xs i x
    → out ≡ start ++ flat_map bytes (map f (take i xs)) → new ≡ out ++ bytes (f x) → new ≡ start ++ flat_map bytes (map f (take (i + 1) xs))
one_more f bytes xs i x start out new within is so_far put =
    let longer : take (i + 1) xs ≡ take i xs ++ x ∷ [] = take_more xs i x within ∙ ap (λ y. take i xs ++ y ∷ []) (sym is) in
    let mapped : map f (take (i + 1) xs) ≡ map f (take i xs) ++ f x ∷ [] = ap (map f) longer ∙ map-append f (take i xs) (x ∷ []) in
    put ∙ ap (λ (ys : List ℕ). ys ++ bytes (f x)) so_far ∙ flat_map_more bytes start (map f (take i xs)) (f x) ∙ ap (λ ys. start ++ flat_map bytes ys) (sym mapped)

-- the bytes of one more process, where the rest is still to be put
pub one_process_more : (names : List (List ℕ)) (ps : List RawProcess) (i : ℕ) (name : List ℕ) (p : RawProcess) (all out new : List ℕ) → i < length names → i < length ps
    → name ≡ get_or names i name → p ≡ get_or ps i p → out ++ processes_bytes Second (drop i names) (map process_of (drop i ps)) ≡ all → new ≡ out ++ process_bytes Second name (process_of p)
    → new ++ processes_bytes Second (drop (i + 1) names) (map process_of (drop (i + 1) ps)) ≡ all
one_process_more names ps i name p all out new named within name-is p-is so_far put =
    let rest : List ℕ = processes_bytes Second (drop (i + 1) names) (map process_of (drop (i + 1) ps)) in
    let first : drop i names ≡ name ∷ drop (i + 1) names = drop_more names i name named ∙ ap (λ n. n ∷ drop (i + 1) names) (sym name-is) in
    let second : drop i ps ≡ p ∷ drop (i + 1) ps = drop_more ps i p within ∙ ap (λ q. q ∷ drop (i + 1) ps) (sym p-is) in
    let left : processes_bytes Second (drop i names) (map process_of (drop i ps)) ≡ process_bytes Second name (process_of p) ++ rest =
    ap (λ ns. processes_bytes Second ns (map process_of (drop i ps))) first ∙ ap (λ qs. processes_bytes Second (name ∷ drop (i + 1) names) (map process_of qs)) second in
    ap (λ (ys : List ℕ). ys ++ rest) put ∙ append_assoc out (process_bytes Second name (process_of p)) rest ∙ ap (λ (ys : List ℕ). out ++ ys) (sym left) ∙ so_far
