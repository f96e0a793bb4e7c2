-- Rows and columns, one more at a time.
use Rattle.std.specs.Prelude.{◌≡◌, ◌<◌, ◌≤◌, ◌+◌, ◌++◌, ℕ, List, [], ◌∷◌, Option, length, map}
use Rattle.std.proofs.Common.{refl, sym, ap, ◌∙◌, take, drop, get_or, append-nil, append_assoc}
use Rattle.std.proofs.lemmas.List.{drop_all, drop_more, take_all}
use Rattle.image.specs.declared.raw.RawProcess.{RawProcess}
use Rattle.image.specs.Raw.{process_of}
use Rattle.sched_table.specs.declared.table.Row.{Row}
use Rattle.built_image.specs.Shown.{row_of, rows_of}
use Rattle.built_image_law.proofs.Lists.{through}

pub one_row : (ps : List RawProcess) (bs : List (Option ℕ)) (i : ℕ) (p : RawProcess) (b : Option ℕ) (r : Row) (old new all : List Row) → i < length ps → i < length bs
    → p ≡ get_or ps i p → b ≡ get_or bs i b → old ++ rows_of (map process_of (drop i ps)) (drop i bs) ≡ all → new ≡ old ++ r ∷ [] → r ≡ row_of (process_of p) b
    → new ++ rows_of (map process_of (drop (i + 1) ps)) (drop (i + 1) bs) ≡ all
one_row ps bs i p b r old new all low_p low_b at_p at_b so_far grown is =
    let rest : List Row = rows_of (map process_of (drop (i + 1) ps)) (drop (i + 1) bs) in
    let first : drop i ps ≡ p ∷ drop (i + 1) ps = drop_more ps i p low_p ∙ ap (λ q. q ∷ drop (i + 1) ps) (sym at_p) in
    let second : drop i bs ≡ b ∷ drop (i + 1) bs = drop_more bs i b low_b ∙ ap (λ q. q ∷ drop (i + 1) bs) (sym at_b) in
    let left : rows_of (map process_of (drop i ps)) (drop i bs) ≡ row_of (process_of p) b ∷ rest =
    ap (λ qs. rows_of (map process_of qs) (drop i bs)) first ∙ ap (λ cs. rows_of (map process_of (p ∷ drop (i + 1) ps)) cs) second in
    ap (λ (rs : List Row). rs ++ rest) grown
    ∙ (append_assoc old (r ∷ []) rest ∙ (ap (λ (x : Row). old ++ (x ∷ rest)) is ∙ (ap (λ (rs : List Row). old ++ rs) (sym left) ∙ so_far)))

pub none_rows : (ps : List RawProcess) (bs : List (Option ℕ)) (rows : List Row) → rows ≡ [] → rows ++ rows_of (map process_of (drop 0 ps)) (drop 0 bs) ≡ rows_of (map process_of ps) bs
none_rows ps bs rows none = ap (λ (rs : List Row). rs ++ rows_of (map process_of ps) bs) none

pub all_rows : (ps : List RawProcess) (bs : List (Option ℕ)) (i : ℕ) (rows all : List Row) → length ps ≤ i → rows ++ rows_of (map process_of (drop i ps)) (drop i bs) ≡ all → rows ≡ all
all_rows ps bs i rows all past so_far =
    sym (append-nil rows) ∙ (ap (λ (qs : List RawProcess). rows ++ rows_of (map process_of qs) (drop i bs)) (sym (drop_all i ps past)) ∙ so_far)

-- all of what a function makes of a list
pub all_made : {A B C : Type 0} (f : A → B) (h : B → C) (xs : List A) (made : List C) (i : ℕ) → length xs ≤ i → made ≡ map (λ x. h (f x)) (take i xs) → made ≡ map h (map f xs)
all_made f h xs made i past so_far = so_far ∙ (ap (λ ys. map (λ x. h (f x)) ys) (take_all i xs past) ∙ sym (through f h (λ x. h (f x)) (λ x. refl) xs))
