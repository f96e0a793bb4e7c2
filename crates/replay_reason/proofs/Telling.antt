-- What a person is told of an event that is not allowed.
use Rattle.std.specs.Prelude.{◌≡◌, ◌≤◌, ◌<◌, IfOk, Result, slice_index_or, ◌⊎◌, ℕ, zero, suc, List, [], ◌∷◌, Option, Some, None, length, slice_get}
use Rattle.std.proofs.Common.{refl, sym, ◌∙◌, ap, subst, arith, inl, inr}
use Rattle.std.proofs.lemmas.Option.{none-some, same_Some, slice_get_within}
use Rattle.base.proofs.Lists.{some_at}
use Rattle.base.specs.declared.event.Event.{Event}
use Rattle.syntax_tree.specs.Plain.{Process, Program}
use Rattle.source_semantics.specs.Names.{processes}
use Rattle.source_semantics.specs.Config.{Config}
use Rattle.source_semantics.specs.Next.{Next}
use Rattle.source_semantics.specs.Starts.{Script}
use Rattle.source_semantics.specs.Source.{Step, acts, after_start, job_next}
use Rattle.source_semantics.specs.Verdicts.{Stops}
use Rattle.replay_state.specs.Tables.{Fits}
use Rattle.replay_accept.specs.Judged.{IsNextOf}
use Rattle.replay_reason_spec.proofs.Listing.{BeginsWith, begins}
use Rattle.replay_reason_spec.proofs.Next.{next_steps}
use Rattle.replay_reason_spec.specs.Missing.{AreMissing, IsNextStart, MayCome}
use Rattle.replay_reason_spec.specs.Reasons.{ActsNext, ComesLate, IsEndReason, IsEventReason, IsHeld, IsInReach, IsNextAct, IsReason, most}
use Rattle.replay_reason_spec.specs.declared.reason.Reason.{Reason}

-- a process that is ready has a text
pub has_text : (g : Program) (c : Config) (k : ℕ) → Fits g c → ActsNext g c k → IsNextOf g c k None → ⊥
has_text g c k fits next either = elim either [
  | inl no_text ↦
      let within : k < length (processes g) = omega (arith, fits.jobs, slice_get_within c.jobs k next.job next.state) in
      let got : (p : Process) × (slice_get (processes g) k ≡ Some p) = some_at (processes g) k within in
      none-some got.0 (sym no_text ∙ got.1)
  | inr no_job ↦ none-some next.job (sym no_job ∙ next.state)
]

-- what its next action tells is what is allowed
pub next_told : (g : Program) (s : Script) (c : Config) (t : ℕ) (e : Event) (n : Next) → e.tick ≡ t → ActsNext g c e.proc → IsNextOf g c e.proc (Some n) → e.act ≡ (acts g s c t e.proc n).act → IsNextAct g s c t e
next_told g s c t e n at_t next is told =
    let same : is.1 ≡ next.job = same_Some is.1 next.job (sym is.3 ∙ next.state) in
    record {
      tick_is = at_t;
      to_act = next;
      process = is.0;
      text = is.2;
      told = told ∙ ap (λ m. (acts g s c t e.proc m).act) (is.4 ∙ ap (λ j. job_next c e.proc is.0 j g) same);
    }

-- the first of events that stop, and the reason of it
pub stops_first : (g : Program) (s : Script) (c : Config) (es : List Event) (d : Event) → 1 ≤ length es → Stops g s c es → (new : Config) → Step g s c (slice_index_or es 0 d) new → ⊥
stops_first g s c [] d some stops = absurd (omega (arith, some))
stops_first g s c (e ∷ es) d some stops = stops

pub first_reason : {E : Type 0} (g : Program) (s : Script) (c : Config) (es : List Event) (d : Event) (r : Result Reason E) → 1 ≤ length es → IfOk r (IsEventReason g s c (slice_index_or es 0 d)) → IfOk r (IsReason g s c es)
first_reason g s c [] d r some why = absurd (omega (arith, some))
first_reason g s c (e ∷ es) d r some why = why

pub end_reason : {E : Type 0} (g : Program) (s : Script) (c : Config) (es : List Event) (r : Result Reason E) → length es ≡ 0 → IfOk r (IsEndReason g s c) → IfOk r (IsReason g s c es)
end_reason g s c [] r none why = why
end_reason g s c (e ∷ es) r none why = absurd (omega (arith, none))

module _ (g : Program) (s : Script) (c : Config) (e : Event) (reach : IsInReach s c e) (stops : (new : Config) → Step g s c e new → ⊥) where
  -- the next start event, which is not allowed
  pub is_held : IsNextStart g s c (suc e.tick) e → IsHeld g s c e
  is_held next = record { in_reach = reach; next = next; held = λ may. stops (after_start g c e) (next_steps g s c e reach next may) }

  -- another one is
  pub comes_late : (x : Event) (missing : List Event) → IsNextStart g s c (suc e.tick) x → (e ≡ x → MayCome c e) → AreMissing g s (suc e.tick) most c missing → ComesLate g s c e missing
  comes_late x missing next may are =
      let front : BeginsWith x missing = begins g s (suc e.tick) 8 c missing x are next in
      record {
        in_reach = reach;
        missing_are = are;
        first = x;
        later = front.later;
        some = front.is;
        other = λ same. stops (after_start g c e) (next_steps g s c e reach (subst (IsNextStart g s c (suc e.tick)) (sym same) next) (may same));
      }
