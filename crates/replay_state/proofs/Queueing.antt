-- Taking a process out of a queue.
use Rattle.std.specs.Prelude.{◌≡◌, ◌<◌, ◌+◌, ℕ, suc, Bool, true, false, cond, not, List, [], ◌∷◌, Some, None, length, nat_eq, nat_lt, position}
use Rattle.std.specs.List.{prefix_len, remove}
use Rattle.std.proofs.Common.{refl, sym, ◌∙◌, ap, arith}
use Rattle.std.proofs.lemmas.Bool.Decides.{nat_tests}
use Rattle.source_semantics.specs.Source.{without}

-- the place of the process in the queue, or the queue's length
abbrev place : ℕ → List ℕ → ℕ
place k q = prefix_len (λ x. not (nat_eq x k)) q

place_here : (k x : ℕ) (xs : List ℕ) → nat_eq x k ≡ true → place k (x ∷ xs) ≡ 0
place_here k x xs e = ap (λ b. cond (not b) (1 + place k xs) 0) e

place_next : (k x : ℕ) (xs : List ℕ) → nat_eq x k ≡ false → place k (x ∷ xs) ≡ suc (place k xs)
place_next k x xs e = let one : 1 + place k xs ≡ suc (place k xs) = omega arith in ap (λ b. cond (not b) (1 + place k xs) 0) e ∙ one

removed_at : (k : ℕ) (q : List ℕ) → place k q < length q → remove q (place k q) ≡ without k q
removed_at k [] lt = absurd (omega (arith, lt))
removed_at k (x ∷ xs) lt = by_case (nat_eq x k) refl (removed_at k xs)
  where
    by_case : (b : Bool) → nat_eq x k ≡ b → (place k xs < length xs → remove xs (place k xs) ≡ without k xs) → remove (x ∷ xs) (place k (x ∷ xs)) ≡ without k (x ∷ xs)
    by_case true e rest = ap (remove (x ∷ xs)) (place_here k x xs e) ∙ sym (ap (λ b. cond b xs (x ∷ without k xs)) e)
    by_case false e rest =
        ap (remove (x ∷ xs)) (place_next k x xs e)
        ∙ (ap (λ l. x ∷ l) (rest (omega (arith, lt, place_next k x xs e)))
        ∙ sym (ap (λ b. cond b xs (x ∷ without k xs)) e))

kept_past : (k : ℕ) (q : List ℕ) → (place k q < length q → ⊥) → q ≡ without k q
kept_past k [] past = refl
kept_past k (x ∷ xs) past = by_case (nat_eq x k) refl (kept_past k xs)
  where
    by_case : (b : Bool) → nat_eq x k ≡ b → ((place k xs < length xs → ⊥) → xs ≡ without k xs) → x ∷ xs ≡ without k (x ∷ xs)
    by_case true e rest = absurd (past (omega (arith, place_here k x xs e)))
    by_case false e rest =
        ap (λ l. x ∷ l) (rest (λ lt. past (omega (arith, lt, place_next k x xs e))))
        ∙ sym (ap (λ b. cond b xs (x ∷ without k xs)) e)

pub taken_out : (k at : ℕ) (q : List ℕ) → position (λ x. nat_eq x k) q ≡ Some at → remove q at ≡ without k q
taken_out k at q e = by_case (nat_lt (place k q) (length q)) refl
  where
    by_case : (b : Bool) → nat_lt (place k q) (length q) ≡ b → remove q at ≡ without k q
    by_case true h =
        let is : Some at ≡ Some (place k q) = sym e ∙ ap (λ b. cond b (Some (place k q)) None) h in
        let same : at ≡ place k q = cc in
        let below : place k q < length q = grind (arith, nat_tests) in
        ap (remove q) same ∙ removed_at k q below
    by_case false h = let is : Some at ≡ None = sym e ∙ ap (λ b. cond b (Some (place k q)) None) h in absurd cc

pub not_there : (k : ℕ) (q : List ℕ) → position (λ x. nat_eq x k) q ≡ None → q ≡ without k q
not_there k q e = by_case (nat_lt (place k q) (length q)) refl
  where
    by_case : (b : Bool) → nat_lt (place k q) (length q) ≡ b → q ≡ without k q
    by_case true h = let is : None ≡ Some (place k q) = sym e ∙ ap (λ b. cond b (Some (place k q)) None) h in absurd cc
    by_case false h = kept_past k q (λ lt. grind (arith, nat_tests))
