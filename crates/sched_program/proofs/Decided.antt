-- Each program is in time or not.
use Rattle.std.proofs.Common.{◌≡◌, ◌≤◌, ◌<◌, ◌⊎◌, inl, inr, ℕ, zero, suc, List, length, arith, subst}
use Rattle.std.proofs.lemmas.Bool.{cases_lt}
use Rattle.sched_response.specs.declared.tasks.Task.{Task}
use Rattle.sched_response.specs.Demand.{deadline_at, demand_at, Solves}
use Rattle.sched_program.specs.Once.{TasksAreThere, InTimeOrNot}

module _ (ts : List Task) where
  -- a solution of at most so many ticks, or none
  solved_by : (level n : ℕ) → ((r : ℕ) × Solves ts level r) ⊎ ((r : ℕ) → r ≤ n → ¬ Solves ts level r)
  solved_by level zero = inr (λ r low s. omega (arith, low, s.above))
  solved_by level (suc n) = elim (solved_by level n) [
    | inl some ↦ inl some
    | inr none ↦ elim (cases_lt (deadline_at ts level) (suc n)) [
      | inl late ↦ inr (λ r low s. elim (cases_lt n r) [ inl last ↦ omega (arith, last, late, s.within) | inr before ↦ none r before s ])
      | inr within ↦ elim (cases_lt (suc n) (demand_at ts level (suc n))) [
        | inl more ↦ inr (λ r low s. elim (cases_lt n r) [
          | inl last ↦ (let e : r ≡ suc n = omega (arith, last, low) in let met : demand_at ts level (suc n) ≤ suc n = subst (λ x. demand_at ts level x ≤ x) e s.met in omega (arith, met, more))
          | inr before ↦ none r before s
        ])
        | inr met ↦ inl (suc n, record { above = omega arith; within = within; met = met })
      ]
    ]
  ]

  solved : (level : ℕ) → ((r : ℕ) × Solves ts level r) ⊎ ((r : ℕ) → ¬ Solves ts level r)
  solved level = elim (solved_by level (deadline_at ts level)) [ inl some ↦ inl some | inr none ↦ inr (λ r s. none r s.within s) ]

  -- each of the first n levels has one, or some level has none
  all_solved : (n : ℕ) → ((level : ℕ) → level < n → (r : ℕ) × Solves ts level r) ⊎ ((level : ℕ) × (level < n) × ((r : ℕ) → ¬ Solves ts level r))
  all_solved zero = inl (λ level low. absurd (omega (arith, low)))
  all_solved (suc n) = elim (all_solved n) [
    | inr one ↦ inr (one.0, omega (arith, one.1), one.2)
    | inl each ↦ elim (solved n) [
      | inr none ↦ inr (n, omega arith, none)
      | inl some ↦ inl (λ level low. elim (cases_lt level n) [
        | inl before ↦ each level before
        | inr last ↦ (let e : n ≡ level = omega (arith, last, low) in (some.0, subst (λ l. Solves ts l some.0) e some.1))
      ])
    ]
  ]

pub in_time_or_not : TasksAreThere → InTimeOrNot
in_time_or_not there g over =
    let t = there g over in
    elim (all_solved t.0 (length t.0)) [
      | inl each ↦ inl (record { tasks = t.0; are = t.1; each = each })
      | inr one ↦ inr (record { tasks = t.0; are = t.1; level = one.0; there = one.1; unsolved = one.2 })
    ]
