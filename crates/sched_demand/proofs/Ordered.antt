-- Neighbours in order put a whole list of tasks in order.
use Rattle.std.proofs.Common.{◌≡◌, ◌≤◌, ◌<◌, ◌+◌, ◌-◌, ◌⊎◌, inl, inr, ◌↔◌, ℕ, zero, suc, List, length, Bool, true, false, IsTrue, refl, arith, sym, subst, ◌∙◌}
use Rattle.std.specs.Prelude.{nat_lt, nat_eq, ◌&&◌, ◌||◌}
use Rattle.std.proofs.lemmas.Bool.Decides.{nat_tests}
use Rattle.std.specs.List.{IsAllAdjacentAnswer}
use Rattle.std.proofs.lemmas.List.Sorted.{IsNonDecreasingBy-from_default}
use Rattle.sched_demand.specs.declared.tasks.DemandTask.{DemandTask}
use Rattle.sched_demand.specs.Demand.{task_at, AreOrdered}

abbrev pub in_order : DemandTask → DemandTask → Bool
in_order x y = nat_lt x.deadline y.deadline || (nat_eq x.deadline y.deadline && nat_eq x.block y.block)

-- two in order
pub record InOrder (x y : DemandTask) : Type 0 where
  pub le : x.deadline ≤ y.deadline
  pub same : x.deadline ≡ y.deadline → x.block ≡ y.block

ordered_two : (x y : DemandTask) → true ≡ in_order x y → InOrder x y
ordered_two x y e = record { le = grind (arith, nat_tests, e); same = λ s. grind (arith, nat_tests, e, s) }

chain : (ts : List DemandTask) → ((k : ℕ) → k + 1 < length ts → InOrder (task_at ts k) (task_at ts (k + 1))) → (i d : ℕ) → i + d < length ts → InOrder (task_at ts i) (task_at ts (i + d))
chain ts near i zero below =
    let e : i ≡ i + 0 = omega arith in
    let P : ℕ → Type 0 = λ k. InOrder (task_at ts i) (task_at ts k) in
    subst P e (record { le = omega arith; same = λ s. refl })
chain ts near i (suc d) below =
    let was = chain ts near i d (omega arith) in
    let next = near (i + d) (omega arith) in
    let e : i + d + 1 ≡ i + suc d = omega arith in
    let P : ℕ → Type 0 = λ k. InOrder (task_at ts i) (task_at ts k) in
    subst P e (record {
      le = omega (arith, was.le, next.le);
      same = λ s. was.same (omega (arith, was.le, next.le, s)) ∙ next.same (omega (arith, was.le, next.le, s));
    })

pub ordered_from : (ts : List DemandTask) → ((k : ℕ) → k + 1 < length ts → InOrder (task_at ts k) (task_at ts (k + 1))) → AreOrdered ts
ordered_from ts near = record {
  ascending = IsNonDecreasingBy-from_default (λ t. t.deadline) ts (record { frame = 0; deadline = 0; cost = 0; block = 0 }) (λ i j le below. (pair i j le below).le);
  one_block = λ i j i_below j_below same. or_other i j i_below j_below same;
}
  where
    pair : (i j : ℕ) → i ≤ j → j < length ts → InOrder (task_at ts i) (task_at ts j)
    pair i j le below =
        let e : i + (j - i) ≡ j = omega arith in
        let P : ℕ → Type 0 = λ k. InOrder (task_at ts i) (task_at ts k) in
        subst P e (chain ts near i (j - i) (omega arith))

    or_other : (i j : ℕ) → i < length ts → j < length ts → (task_at ts i).deadline ≡ (task_at ts j).deadline → (task_at ts i).block ≡ (task_at ts j).block
    or_other i j i_below j_below same = elim (two i j) [
      | inl le ↦ (pair i j le j_below).same same
      | inr ge ↦ sym ((pair j i ge i_below).same (sym same))
    ]
      where
        two : (a b : ℕ) → (a ≤ b) ⊎ (b ≤ a)
        two zero b = inl (omega arith)
        two (suc a) zero = inr (omega arith)
        two (suc a) (suc b) = elim (two a b) [
          | inl h ↦ inl (omega arith)
          | inr h ↦ inr (omega arith)
        ]

pub ordered_decides : (ts : List DemandTask) (r : Bool) → IsAllAdjacentAnswer (λ x y b. b ≡ in_order x y) ts r → IsTrue r ↔ AreOrdered ts
ordered_decides ts true h = (λ _. ordered_from ts (λ k below. ordered_two _ _ (h k (record { frame = 0; deadline = 0; cost = 0; block = 0 }) below)), λ _. refl)
ordered_decides ts false (k, below, broken) = (
  λ h. cc,
  λ are.
      let e = broken (record { frame = 0; deadline = 0; cost = 0; block = 0 }) in
      let le = are.ascending k (k + 1) (record { frame = 0; deadline = 0; cost = 0; block = 0 }) (omega arith) below in
      let one = are.one_block k (k + 1) (omega arith) below in
      absurd (never (task_at ts k) (task_at ts (k + 1)) e le one),
)
  where
    never : (x y : DemandTask) → false ≡ in_order x y → x.deadline ≤ y.deadline → (x.deadline ≡ y.deadline → x.block ≡ y.block) → ⊥
    never x y e le one = grind (arith, nat_tests, e, le, one)
