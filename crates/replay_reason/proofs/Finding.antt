-- The tick of the start event that is due next.
use Rattle.std.specs.Prelude.{◌≡◌, ◌↔◌, ◌≤◌, ◌<◌, ◌+◌, ℕ, suc, IsTrue, Bool, true, false, List, [], ◌∷◌, Option, Some, None, cond, nat_le, option_map}
use Rattle.std.proofs.Common.{refl, sym, ◌∙◌, ap, inl, inr, subst, arith}
use Rattle.std.proofs.lemmas.Bool.{cases_lt}
use Rattle.std.proofs.lemmas.Bool.Decides.{nat_tests}
use Rattle.base.specs.declared.event.Event.{Event}
use Rattle.syntax_tree.specs.Plain.{Program}
use Rattle.source_semantics.specs.Config.{Config, Doing, Job, active, idle, waiting}
use Rattle.source_semantics.specs.Starts.{NoneMissing, Script, due}
use Rattle.replay_due_events.specs.Next.{AreWaitsAfter}
use Rattle.replay_due_events.specs.NextDue.{doing_due, is_after}
use Rattle.replay_due_events.specs.Timings.{IsClockFree, event_of, first_in}
use Rattle.replay_due_events.specs.declared.due_starts.Start.{Start}
use Rattle.replay_due_events.specs.declared.due_starts.Start.TheVariants as start_is
use Rattle.replay_due_events.specs.declared.timetable.Timing.{Timing}
use Rattle.replay_reason_spec.proofs.Next.{none_less, none_more, none_yet}
use Rattle.replay_reason_spec.specs.Missing.{IsNextStart}
use Rattle.replay_reason.specs.Following.{IsBetween, IsNextTick}

-- before tick 0 nothing starts
after_0 : (o : Option ℕ) → is_after 0 o ≡ true
after_0 None = refl
after_0 (Some n) = grind (arith, nat_tests)

pub waits_at_once : (js : List Job) → AreWaitsAfter 0 js
waits_at_once js k j at_k = after_0 (doing_due 0 j.doing)

pub clock_at_once : (ts : List Timing) (from : ℕ) → IsClockFree ts from 0
clock_at_once ts from u k x low high at_k = absurd (omega (arith, high))

-- scripts that leave the same due leave the same missing
pub missing_alike : (g : Program) (c : Config) (s s' : Script) (t : ℕ) (P : Type 0) → ((u : ℕ) → c.tick ≤ u → u < t → due g s c u ≡ due g s' c u) → NoneMissing g s c t ↔ P → NoneMissing g s' c t ↔ P
missing_alike g c s s' t P alike either = (
  λ empty. either.0 (λ u low high. alike u low high ∙ empty u low high),
  λ p u low high. sym (alike u low high) ∙ either.1 p u low high,
)

module _ (g : Program) (s : Script) (c : Config) where
  -- at first
  pub between_all : (until : ℕ) → (NoneMissing g s c until → ⊥) → IsBetween g s c until c.tick until
  between_all until some = record { reached = omega arith; within = omega arith; free = none_yet g s c; missing = some }

  pub between_above : (until low high middle : ℕ) → IsBetween g s c until low high → low ≤ middle → NoneMissing g s c middle → IsBetween g s c until middle high
  between_above until low high middle b over free = record { reached = omega (arith, b.reached, over); within = b.within; free = free; missing = b.missing }

  pub between_below : (until low high middle : ℕ) → IsBetween g s c until low high → middle ≤ high → (NoneMissing g s c middle → ⊥) → IsBetween g s c until low middle
  between_below until low high middle b under missing = record { reached = b.reached; within = omega (arith, b.within, under); free = b.free; missing = missing }

  -- the first tick is before the second
  pub between_some : (until low high : ℕ) → IsBetween g s c until low high → low < high
  between_some until low high b = elim (cases_lt low high) [
    | inl lt ↦ lt
    | inr ge ↦ absurd (b.missing (none_less g s c low high ge b.free))
  ]

  -- at last, where nothing lies between
  pub between_none : (until low high : ℕ) → IsBetween g s c until low high → high ≤ low + 1 → IsNextTick g s c until low
  between_none until low high b close = record {
    reached = b.reached;
    before = (let lt : low < high = between_some until low high b in omega (arith, lt, b.within));
    none_before = b.free;
    some = λ none. b.missing (none_less g s c (suc low) high (omega (arith, close)) (none_more g s c low b.free none));
  }

  -- a start event that is the first due at that tick
  pub next_at : (until t : ℕ) (x : Event) → IsNextTick g s c until t → x.tick ≡ t → Some x ≡ first_in (due g s c t) → IsNextStart g s c until x
  next_at until t x at_t same first = by_case (due g s c x.tick) refl (first ∙ ap (λ u. first_in (due g s c u)) (sym same))
    where
      by_case : (l : List Event) → due g s c x.tick ≡ l → Some x ≡ first_in l → IsNextStart g s c until x
      by_case [] e is = absurd cc
      by_case (y ∷ ys) e is =
          let which : y ≡ x = cc in
          record {
            reached = omega (arith, at_t.reached, same);
            before = omega (arith, at_t.before, same);
            none_before = subst (NoneMissing g s c) (sym same) at_t.none_before;
            later = ys;
            first = e ∙ ap (λ z. z ∷ ys) which;
          }

  pub none_at : (until t : ℕ) → IsNextTick g s c until t → None ≡ first_in (due g s c t) → ⊥
  none_at until t at_t is = at_t.some (by_case (due g s c t) is)
    where
      by_case : (l : List Event) → None ≡ first_in l → l ≡ []
      by_case [] none = refl
      by_case (y ∷ ys) none = absurd cc

pub tick_of_start : (t : ℕ) (x : Start) → (event_of t x).tick ≡ t
tick_of_start t (start_is.Release k) = refl
tick_of_start t (start_is.TimeOut k x n) = refl
