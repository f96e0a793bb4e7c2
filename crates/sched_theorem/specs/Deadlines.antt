-- The demand by a deadline, for earliest deadline first. The run is then that of the activations
-- with deadlines by the due tick alone, and lower processes are those with later ones.
use Rattle.std.specs.Prelude.{◌≡◌, ◌≤◌, ◌<◌, ◌+◌, ◌-◌, ◌/◌, ℕ, true, cond, nat_lt}
use Rattle.sched_theorem.specs.Charges.{ChargedCost, claims}
use Rattle.sched_theorem.specs.Stretches.{Trace, Spaced, IsStretch}

-- how many releases a frame apart, from a start on, have their deadlines within so many ticks of it
abbrev pub due_in : ℕ → ℕ → ℕ → ℕ
due_in ticks frame deadline = cond (nat_lt ticks deadline) 0 ((ticks - deadline) / frame + 1)

-- releases stand a frame apart, and each has its deadline by the due tick
pub record IsDueBy (n : ℕ) (frame deadline : ℕ → ℕ) (end due : ℕ) (t : Trace) : Type 0 where
  pub framed : (j : ℕ) → j < n → 0 < frame j
  pub spaced : (j : ℕ) → j < n → Spaced (frame j) end (λ k. t.released k j)
  pub dated : (k j : ℕ) → j < n → t.released k j ≡ true → k + deadline j ≤ due

-- a stretch lasts until the due tick, and one stay with what the activations due by then ask for is
-- more than its length
pub record AsksMore (n : ℕ) (cost : ℕ → ChargedCost) (frame deadline : ℕ → ℕ) (most due : ℕ) (t : Trace) : Type 0 where
  pub start : ℕ
  pub ticks : ℕ
  pub here : start + ticks ≡ due
  pub stretch : IsStretch n t start ticks
  pub more : ticks < most + claims n (λ j. due_in ticks (frame j) (deadline j)) cost most
