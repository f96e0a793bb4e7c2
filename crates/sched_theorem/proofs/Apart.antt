-- Processes inside monitors stay apart.
use Rattle.std.proofs.Common.{◌≡◌, ℕ, ◌⊎◌, inl, inr, refl, arith, ap, sym, ◌∙◌}
use Rattle.std.specs.Prelude.{Option, Some, None}
use Rattle.std.proofs.lemmas.Bool.{cases_eq}
use Rattle.sched_theorem.specs.Dispatched.{Stay, TakesOne, KeepsStays, AreApart, RunsAbove}

-- who runs and is inside after it was outside before, or inside with the same ceiling
pub was_inside : (o r : Option Stay) (s : Stay) → TakesOne o r → r ≡ Some s → (o ≡ None) ⊎ ((t : Stay) × (o ≡ Some t) × (t.ceiling ≡ s.ceiling))
was_inside None r s takes is = inl refl
was_inside (Some t) None s takes is = absurd (cc)
was_inside (Some t) (Some u) s takes is = inr (t, refl, sym takes.0 ∙ ap ceiling_of is)
  where
    ceiling_of : Option Stay → ℕ
    ceiling_of None = 0
    ceiling_of (Some v) = v.ceiling

pub apart_kept : (n p : ℕ) (inside inside_after : ℕ → Option Stay) → AreApart n inside → KeepsStays n (Some p) inside inside_after → RunsAbove n inside p → AreApart n inside_after
apart_kept n p inside inside_after apart keeps above i j s t less below is_i is_j = elim (cases_eq i p) [
  | inl i_runs ↦
      let e = keeps.others j below (λ is. omega (arith, i_runs, same_number p j is)) in
      let was_j : inside j ≡ Some t = sym e ∙ is_j in
      elim (was_inside (inside i) (inside_after i) s (keeps.takes i (omega arith) (ap Some (sym i_runs))) is_i) [
        | inl outside ↦ inl (let h = above (ap inside (sym i_runs) ∙ outside) j t below was_j in omega (arith, i_runs))
        | inr w ↦ elim (apart i j w.0 t less below w.1 was_j) [
          | inl h ↦ inl h
          | inr h ↦ inr (omega (arith, w.2))
        ]
      ]
  | inr i_rests ↦
      let e = keeps.others i (omega arith) (λ is. i_rests (sym (same_number p i is))) in
      let was_i : inside i ≡ Some s = sym e ∙ is_i in
      elim (cases_eq j p) [
        | inl j_runs ↦ elim (was_inside (inside j) (inside_after j) t (keeps.takes j below (ap Some (sym j_runs))) is_j) [
          | inl outside ↦ inr (let h = above (ap inside (sym j_runs) ∙ outside) i s (omega arith) was_i in omega (arith, j_runs))
          | inr w ↦ elim (apart i j s w.0 less below was_i w.1) [
            | inl h ↦ inl (omega (arith, w.2))
            | inr h ↦ inr h
          ]
        ]
        | inr j_rests ↦
            let f = keeps.others j below (λ is. j_rests (sym (same_number p j is))) in
            apart i j s t less below was_i (sym f ∙ is_j)
      ]
]
  where
    same_number : (a b : ℕ) → Some a ≡ Some b → a ≡ b
    same_number a b is = cc
