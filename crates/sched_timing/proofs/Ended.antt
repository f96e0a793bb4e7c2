-- No release finds its process unfinished, and each activation ends within its bound.
use Rattle.std.proofs.Common.{◌≡◌, ◌≤◌, ◌<◌, ◌+◌, ◌⊎◌, inl, inr, ℕ, suc, List, [], ◌∷◌, Option, Some, length, arith, refl, ap, sym, subst, ◌∙◌, true, false}
use Rattle.std.specs.Prelude.{slice_get, Contains}
use Rattle.std.proofs.lemmas.Bool.{cases_Bool}
use Rattle.std.proofs.lemmas.Option.{slice_get_within}
use Rattle.std.proofs.lemmas.List.Elements.{Contains-append_left, Contains-append_right}
use Rattle.base.specs.declared.event.Event.{Event}
use Rattle.base.specs.declared.event.Act.TheVariants as act
use Rattle.machine_semantics.specs.Image.{Process, Script}
use Rattle.machine_semantics.specs.State.{Job, Thread, Idle, Ready, State}
use Rattle.machine_semantics.specs.Starts.{starts}
use Rattle.machine_semantics.specs.Run.{state_at}
use Rattle.machine_semantics.specs.Walk.{Where}
use Rattle.machine_semantics.specs.Safe.{Parts, ImageFits}
use Rattle.machine_semantics.specs.Work.{IsBusy}
use Rattle.sched_theorem.specs.Stretches.{Life}
use Rattle.sched_theorem.specs.Ranked.{EndsAt}
use Rattle.sched_theorem.specs.Ranked as ranked
use Rattle.valid_image.specs.Tasks.{process_at, tasks_of}
use Rattle.sched_timing.specs.Views.{opened, nothing_left, life_before, life_after, is_due, is_some_due, trace_of, rank_at, rank_of_some, bound_at, bound_of_some}
use Rattle.sched_timing.specs.Timed.{RespectsFrames, ReleasedAndEnds}
use Rattle.sched_timing.proofs.Ranks.{IsTimedThriftily, exact, back, length_is}
use Rattle.sched_timing.proofs.Spacing.{once}
use Rattle.sched_timing.proofs.Overruns.{starts_in_time}
use Rattle.sched_timing.proofs.Turns.{Turn}
use Rattle.sched_timing.proofs.Threads.{ran, Threads, threads, takes_turn, is_left, acted}
use Rattle.sched_timing.proofs.Lives.{some_left, after_is}
use Rattle.sched_timing.proofs.Facts.{busy_or_idle, woken_busy}
use Rattle.sched_timing.proofs.Placed.{in_time}
use Rattle.sched_timing.proofs.Logs.{EndsSoon}
use Rattle.sched_timing.proofs.Told.{released_at, release_is_told, told_is}

module _ (e : Where) (ps : ℕ → Parts) (image_fits : ImageFits e ps) (thrifty : IsTimedThriftily e ps) (script : Script) (respects : RespectsFrames e.image script) where
  abbrev at : ℕ → State
  at t = state_at e.image script t

  X : ℕ → ℕ → Process → Type 0
  X t k p = Threads e ps image_fits script t k p

  -- an idle process is idle
  idle_is : (t k : ℕ) (p : Process) → slice_get e.image.processes k ≡ Some p → (life_before e.image script t k).run_left ≡ 0 → (th : Thread) → slice_get (at t).threads k ≡ Some th → th ≡ Idle
  idle_is t k p process none th at_t = elim (busy_or_idle th) [
    | inl idle ↦ idle
    | inr busy ↦ absurd (omega (arith, none, some_left e ps image_fits thrifty script t k p th process at_t busy))
  ]

  -- a release finds its process idle
  pub finds_idle : (t k : ℕ) (p : Process) → slice_get e.image.processes k ≡ Some p → t < script.end_tick → is_due script t p ≡ true → slice_get (at t).threads k ≡ Some Idle
  unfolding X
  finds_idle t k p process within due =
      let x : X t k p = threads e ps image_fits script t k p process in
      let below : k < length (tasks_of e.image) = omega (arith, slice_get_within e.image.processes k p process, length_is e ps thrifty) in
      let none : (life_before e.image script t k).run_left ≡ 0 =
      (in_time e ps image_fits thrifty script respects).idle t k below within (ap (λ (o : Option Process). is_some_due script t o) process ∙ due) in
      x.at_old ∙ ap (λ (th : Thread). Some th) (idle_is t k p process none x.old x.at_old)

  pub no_overrun : (t : ℕ) → t < script.end_tick → (starts e.image script t (at t)).overrun ≡ false
  no_overrun t within =
      starts_in_time e.image script t (at t) (once e.image script t respects (λ k p process. (exact e ps thrifty k p process).frame)) (λ k p process due. finds_idle t k p process within due)

  -- the end of an activation is told in the last tick of it
  pub end_is_told : (t k : ℕ) (p : Process) → slice_get e.image.processes k ≡ Some p → EndsAt (trace_of e.image script) k t → acted e ps image_fits script t ≡ record { tick = t; proc = k; act = act.End } ∷ []
  unfolding X
  end_is_told t k p process ends = by (cases_Bool (ran e ps image_fits script t k)) where
    x : X t k p
    x = threads e ps image_fits script t k p process

    new_idle : x.new ≡ Idle
    new_idle = idle_is (suc t) k p process ends.idle x.new x.at_new

    mid_busy : IsBusy x.mid
    mid_busy = elim (busy_or_idle x.mid) [
      | inl idle ↦ absurd (let none : life_after e.image script t k ≡ nothing_left = after_is e ps image_fits thrifty script t k p process x ∙ ap (λ (th : Thread). opened (Some p) (Some x.old) (Some th) (life_before e.image script t k)) idle in
          omega (arith, ends.active, ap (λ (l : Life). l.run_left) none))
      | inr busy ↦ busy
    ]

    by : (ran e ps image_fits script t k ≡ true) ⊎ (ran e ps image_fits script t k ≡ false) → acted e ps image_fits script t ≡ record { tick = t; proc = k; act = act.End } ∷ []
    by (inl is) =
        let turn : (job : Job) × (x.mid ≡ Ready job) × Turn t k job (Some x.new) (acted e ps image_fits script t) = takes_turn e ps image_fits script t k p x is in
        subst (λ (th : Thread). Turn t k turn.0 (Some th) (acted e ps image_fits script t)) new_idle turn.2
    by (inr is_not) = absurd (subst IsBusy new_idle (woken_busy e.image x.mid x.new (is_left e ps image_fits script t k p x is_not) mid_busy))

  pub own_bound : (k : ℕ) (p : Process) → slice_get e.image.processes k ≡ Some p → bound_at e.image (rank_at e.image k) ≡ p.bound
  own_bound k p process =
      let place : process_at e.image (rank_at e.image k) ≡ k = ap (λ (o : Option Process). process_at e.image (rank_of_some o)) process ∙ back e ps thrifty k p process in
      ap (λ (o : Option Process). bound_of_some o) (ap (λ (j : ℕ). slice_get e.image.processes j) place ∙ process)

  lives_end : (k : ℕ) (p : Process) (t : ℕ) → slice_get e.image.processes k ≡ Some p → is_due script t p ≡ true → t + p.bound ≤ script.end_tick → ranked.EndsWithin (trace_of e.image script) k t (bound_at e.image (rank_at e.image k))
  lives_end k p t process due within =
      let below : k < length (tasks_of e.image) = omega (arith, slice_get_within e.image.processes k p process, length_is e ps thrifty) in
      (in_time e ps image_fits thrifty script respects).ends t k below (omega (arith, own_bound k p process, within)) (ap (λ (o : Option Process). is_some_due script t o) process ∙ due)

  pub ends_within : (k : ℕ) (p : Process) (t : ℕ) → slice_get e.image.processes k ≡ Some p → is_due script t p ≡ true → t + p.bound ≤ script.end_tick → ReleasedAndEnds e.image script k t p.bound
  ends_within k p t process due within =
      let some : 1 ≤ p.bound = (thrifty.timed.solved k p process).above in
      let ends : ranked.EndsWithin (trace_of e.image script) k t (bound_at e.image (rank_at e.image k)) = lives_end k p t process due within in
      record {
        begins = subst (λ (es : List Event). Contains es (released_at t k)) (sym (told_is e.image script t))
            (Contains-append_left (starts e.image script t (at t)).events (acted e ps image_fits script t) (released_at t k)
            (release_is_told e.image script t k p (at t) process due (finds_idle t k p process (omega (arith, within, some)) due)));
        tick = ends.tick;
        since = ends.since;
        soon = omega (arith, ends.soon, own_bound k p process);
        ends = subst (λ (es : List Event). Contains es (record { tick = ends.tick; proc = k; act = act.End })) (sym (told_is e.image script ends.tick))
            (Contains-append_right (starts e.image script ends.tick (at ends.tick)).events (acted e ps image_fits script ends.tick) (record { tick = ends.tick; proc = k; act = act.End })
            (subst (λ (es : List Event). Contains es (record { tick = ends.tick; proc = k; act = act.End })) (sym (end_is_told ends.tick k p process ends.ends)) (0, omega arith, refl)));
      }

  -- with the events of the last tick as they are
  pub ends_soon : (k : ℕ) (p : Process) → slice_get e.image.processes k ≡ Some p → (t : ℕ) → is_due script t p ≡ true → t + p.bound ≤ script.end_tick → EndsSoon e.image script k p.bound t
  ends_soon k p process t due within =
      let ends : ranked.EndsWithin (trace_of e.image script) k t (bound_at e.image (rank_at e.image k)) = lives_end k p t process due within in
      (ends.tick, ends.since, omega (arith, ends.soon, own_bound k p process), end_is_told ends.tick k p process ends.ends)
