-- There is a least number of ticks that covers, or none up to the longest run.
use Rattle.std.proofs.Common.{◌≡◌, ◌≤◌, ◌<◌, ◌+◌, ◌⊎◌, inl, inr, ℕ, zero, suc, List, length, arith, subst}
use Rattle.std.proofs.lemmas.Bool.{cases_lt}
use Rattle.sched_demand.specs.declared.tasks.DemandTask.{DemandTask}
use Rattle.sched_demand.specs.Demand.{task_at, AreTasks, asked, Covers, IsReach, NoneCovers}

-- the ticks cover the first tasks, or some task they don't
covers_or : (ts : List DemandTask) (r n : ℕ) → ((j : ℕ) → j < n → (task_at ts j).block + asked ts r ≤ r) ⊎ ((j : ℕ) × (j < n) × (r < (task_at ts j).block + asked ts r))
covers_or ts r zero = inl (λ j below. absurd (omega arith))
covers_or ts r (suc n) = elim (covers_or ts r n) [
  | inr f ↦ inr (f.0, omega (arith, f.1), f.2)
  | inl all ↦ elim (cases_lt r ((task_at ts n).block + asked ts r)) [
    | inl more ↦ inr (n, omega arith, more)
    | inr met ↦ inl (λ j below. elim (cases_lt j n) [
      | inl less ↦ all j less
      | inr same ↦ let e : n ≡ j = omega arith in subst (λ (i : ℕ). (task_at ts i).block + asked ts r ≤ r) e met
    ])
  ]
]

-- the least that covers among the first numbers from 1 on, or none of them does
least_or : (ts : List DemandTask) (n : ℕ) → ((r : ℕ) × (1 ≤ r) × (r ≤ n) × Covers ts r × NoneCovers ts r) ⊎ NoneCovers ts (suc n)
least_or ts zero = inr (λ r above below covers. absurd (omega arith))
least_or ts (suc n) = elim (least_or ts n) [
  | inl f ↦ inl (f.0, f.1, omega (arith, f.2), f.3, f.4)
  | inr none ↦ elim (covers_or ts (suc n) (length ts)) [
    | inl covers ↦ inl (suc n, omega arith, omega arith, covers, none)
    | inr f ↦ inr (λ r above below covers. elim (cases_lt r (suc n)) [
      | inl less ↦ none r above less covers
      | inr more ↦
          let e : r ≡ suc n = omega arith in
          let h : (task_at ts f.0).block + asked ts (suc n) ≤ suc n = subst (λ (i : ℕ). (task_at ts f.0).block + asked ts i ≤ i) e (covers f.0 f.1) in
          absurd (omega (arith, f.2))
    ])
  ]
]

-- up to any number of ticks
reached_by : (ts : List DemandTask) (top : ℕ) → 1 ≤ top → (reach : ℕ) × (1 ≤ reach) × (reach ≤ top) × (reach < top → Covers ts reach) × NoneCovers ts reach
reached_by ts top some = elim (least_or ts top) [
  | inl f ↦ (f.0, f.1, f.2, (λ below. f.3), f.4)
  | inr none ↦ (top, some, omega arith, (λ below. absurd (omega arith)), (λ r above below covers. none r above (omega arith) covers))
]

pub reached : (ts : List DemandTask) → AreTasks ts → (reach : ℕ) × IsReach ts reach
reached ts are = let f = reached_by ts 1000000000 (omega arith) in (f.0, record { above = f.1; within = f.2; covers = f.3; least = f.4 })
