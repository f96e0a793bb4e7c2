-- Where a run stops at the first effect of an instruction.
use Rattle.std.proofs.Common.{◌≡◌, ◌≤◌, ◌<◌, ◌+◌, ℕ, zero, suc, Option, None, inl, inr, ◌⊎◌, arith, refl, subst}
use Rattle.std.specs.Prelude.{IsSomeAnd}
use Rattle.std.proofs.lemmas.Bool.{cases_lt}
use Rattle.machine_semantics.specs.Image.{Image, Script}
use Rattle.vm_runner.specs.Completing.{NoneBetween}
use Rattle.vm_runner.specs.Ends.{IsTurnEnd}
use Rattle.command_due.specs.Stops.{HasEffect, IsStop}
use Rattle.vm_stretch.specs.declared.completed.Completed.{Completed}
use Rattle.vm_stretch.specs.Completed.{completed_at, last_completed}
use Rattle.command_words.specs.declared.stop.Breakpoint.TheVariants.{Effect}

-- what was completed, if anything, stands at the address
abbrev pub IsAt : (address : ℕ) → Option Completed → Type 0
IsAt address completed = IsSomeAnd completed (λ c. c.at ≡ address)

no_effect : (address : ℕ) (completed : Option Completed) → completed ≡ None → ¬ IsAt address completed
no_effect address completed none at = subst (λ (o : Option Completed). IsAt address o) none at

module _ (image : Image) (script : Script) (address : ℕ) where
  -- no tick before tick t has the effect
  abbrev pub HasNoneBefore : ℕ → Type 0
  HasNoneBefore t = (e : ℕ) → e < t → ¬ HasEffect image script address e

  -- after a turn, in the ticks but its last
  pub none_but_last : (t u : ℕ) → NoneBetween image script t u → HasNoneBefore t → (e : ℕ) → e + 1 < u → ¬ HasEffect image script address e
  none_but_last t u sole none e low = by (split e t) where
    split : (a b : ℕ) → (a < b) ⊎ (b ≤ a)
    split a b = cases_lt a b

    by : (e < t) ⊎ (t ≤ e) → ¬ HasEffect image script address e
    by (inl before) = none e before
    by (inr later) = no_effect address (completed_at image script e) (sole (suc e) (omega (arith, later)) (omega (arith, low)))

  -- where the last tick has it
  pub stops : (u : ℕ) → u ≤ script.end_tick → IsAt address (last_completed image script u) → ((e : ℕ) → e + 1 < u → ¬ HasEffect image script address e) → IsStop image script (Effect address) u
  stops zero within at none = absurd at
  stops (suc e) within at none = inl (
    e,
    record { is = at; before = omega (arith, within); first = λ earlier below. none earlier (omega (arith, below)) },
    omega arith,
  )

  -- where it has not
  pub goes_on : (u : ℕ) → ¬ IsAt address (last_completed image script u) → ((e : ℕ) → e + 1 < u → ¬ HasEffect image script address e) → HasNoneBefore u
  goes_on zero other none = λ e below. absurd (omega (arith, below))
  goes_on (suc v) other none = λ e below. by e (split e v (omega (arith, below))) where
    split : (a b : ℕ) → a < suc b → (a ≡ b) ⊎ (a + 1 < suc b)
    split a b low = elim (cases_lt a b) [
      | inl less ↦ inr (omega (arith, less))
      | inr more ↦ inl (omega (arith, low, more))
    ]

    by : (e : ℕ) → (e ≡ v) ⊎ (e + 1 < suc v) → ¬ HasEffect image script address e
    by e (inl same) = λ has. other (subst (λ (x : ℕ). HasEffect image script address x) same has)
    by e (inr low) = none e low

-- a turn ends at its limit at the latest
pub turn_within : (image : Image) (script : Script) (limit t u : ℕ) → t < limit → IsTurnEnd image script limit t u → u ≤ limit
turn_within image script limit t u low turn = elim (cases_lt limit u) [
  | inl over ↦ absurd (turn.least limit low over (inl refl))
  | inr within ↦ within
]
