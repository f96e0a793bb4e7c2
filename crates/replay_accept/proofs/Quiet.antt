-- An event leaves the waits of all processes but its own as they are, or ends them.
use Rattle.std.specs.Prelude.{◌≡◌, ◌≢◌, IfOk, OnErr, Result, Ok, Err, ℕ, zero, suc, Bool, true, false, List, [], ◌∷◌, Option, Some, None, slice_get}
use Rattle.std.proofs.Common.{refl, sym, ◌∙◌, ap, inl, inr, subst}
use Rattle.std.proofs.lemmas.Option.{same_Some}
use Rattle.base.specs.declared.event.Event.{Event}
use Rattle.base.specs.declared.event.Act.{Act}
use Rattle.base.specs.declared.event.Act.TheVariants as act
use Rattle.syntax_tree.specs.Plain.{Process, Program}
use Rattle.source_semantics.specs.Names.{processes}
use Rattle.source_semantics.specs.Config.{Config, Job, at_tick, changed, inside, leave, vacate, with_queues, woken}
use Rattle.source_semantics.specs.Source.{Stays, Step, acts, after_start, job_after_raise, job_next, on_text, released, start_effect, without}
use Rattle.source_semantics.specs.Starts.{Script}
use Rattle.source_semantics_law.proofs.Others.{others_stay}
use Rattle.replay_due_events.specs.Accepts.{Accepts}
use Rattle.replay_due_events.specs.NextDue.{doing_due, is_after}
use Rattle.replay_due_events.specs.Next.{AreOthersAfter, AreWaitsAfter}

other_place : {A : Type 0} (f : A → A) (k j : ℕ) (xs : List A) → (j ≡ k → ⊥) → slice_get (changed f k xs) j ≡ slice_get xs j
other_place f k j [] apart = refl
other_place f zero zero (x ∷ xs) apart = absurd (apart refl)
other_place f zero (suc j) (x ∷ xs) apart = refl
other_place f (suc k) zero (x ∷ xs) apart = refl
other_place f (suc k) (suc j) (x ∷ xs) apart = other_place f k j xs (λ e. apart (ap suc e))

on_other : (f : Process → Job → Job) (p : Option Process) (k j : ℕ) (c : Config) → (j ≡ k → ⊥) → slice_get (on_text f p k c).jobs j ≡ slice_get c.jobs j
on_other f None k j c apart = refl
on_other f (Some p) k j c apart = other_place (f p) k j c.jobs apart

left_jobs : (o : Option ℕ) (c : Config) → (vacate o c).jobs ≡ c.jobs
left_jobs None c = refl
left_jobs (Some m) c = refl

-- a start event is of one process
started_alone : (g : Program) (t k : ℕ) (a : Act) (c : Config) (j : ℕ) → (j ≡ k → ⊥) → slice_get (start_effect g t k a c).jobs j ≡ slice_get c.jobs j
started_alone g t k act.Release c j apart = on_other (λ p i. released t p i) (slice_get (processes g) k) k j c apart
started_alone g t k (act.TimeOut x n) c j apart =
    let d : Config = with_queues c (changed (without k) x c.queues) in
    on_other (λ p i. job_after_raise g n p.handler i) (slice_get (processes g) k) k j (leave d k) apart ∙ ap (λ js. slice_get js j) (left_jobs (inside d k) d)
started_alone g t k (act.Get d v) c j apart = refl
started_alone g t k (act.Put d v) c j apart = refl
started_alone g t k (act.Enter m) c j apart = refl
started_alone g t k (act.Leave m) c j apart = refl
started_alone g t k (act.Wait x) c j apart = refl
started_alone g t k (act.Signal x w) c j apart = refl
started_alone g t k (act.Broadcast x n) c j apart = refl
started_alone g t k (act.Empty x b) c j apart = refl
started_alone g t k (act.Raise n) c j apart = refl
started_alone g t k act.End c j apart = refl

-- other processes stay as they are, or are woken
steps_stay : (g : Program) (s : Script) (c : Config) (e : Event) (new : Config) → Step g s c e new → (j : ℕ) → (j ≡ e.proc → ⊥) → Stays j c.jobs new.jobs
steps_stay g s c e new step j apart = elim step.comes [
  | inl starts ↦ inl (ap (λ (d : Config). slice_get d.jobs j) starts.after ∙ started_alone g e.tick e.proc e.act (at_tick c e.tick false) j apart)
  | inr does ↦
      subst (λ (d : Config). Stays j c.jobs d.jobs) (sym does.after) (others_stay g s c e.tick e.proc (job_next c e.proc does.process does.job g) j apart)
]

after_staying : (t j : ℕ) (before after : List Job) → Stays j before after → ((i : Job) → slice_get before j ≡ Some i → is_after t (doing_due 0 i.doing) ≡ true)
    → (i : Job) → slice_get after j ≡ Some i → is_after t (doing_due 0 i.doing) ≡ true
after_staying t j before after stays was i at = elim stays [
  | inl same ↦ was i (sym same ∙ at)
  | inr w ↦ let is : woken w.0 ≡ i = same_Some (woken w.0) i (sym w.2 ∙ at) in subst (λ (x : Job). is_after t (doing_due 0 x.doing) ≡ true) is refl
]

-- also where memory was wanting
pub others_after : {E : Type 0} (g : Program) (s : Script) (c : Config) (e : Event) (r : Result Bool E) (new : Config) (t : ℕ) → IfOk r (λ b. Accepts g s c e b new) → OnErr r (new ≡ c)
    → AreWaitsAfter t c.jobs → AreOthersAfter e.proc t new.jobs
others_after g s c e (Ok true) new t step same waits = λ j i apart at. after_staying t j c.jobs new.jobs (steps_stay g s c e new step j apart) (waits j) i at
others_after g s c e (Ok false) new t refused same waits = λ j i apart at. waits j i (ap (λ (d : Config). slice_get d.jobs j) (sym refused.1) ∙ at)
others_after g s c e (Err x) new t accepts same waits = λ j i apart at. waits j i (ap (λ (d : Config). slice_get d.jobs j) (sym same) ∙ at)
