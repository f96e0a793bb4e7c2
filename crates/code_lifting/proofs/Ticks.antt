-- The tick of the process that is picked, in a run of the source meaning.
use Rattle.std.proofs.Common.{◌≡◌, ◌≤◌, ◌<◌, ◌+◌, ◌++◌, inl, inr, ℕ, zero, suc, List, Option, Some, None, arith, refl, ap, sym, subst, ◌∙◌, true, false, Bool}
use Rattle.std.specs.Prelude.{ℤ, slice_get, cond, nat_eq, nat_lt, ◌&&◌}
use Rattle.std.proofs.lemmas.Bool.Decides.{nat_tests}
use Rattle.base.specs.declared.event.Event.{Event}
use Rattle.machine_isa.specs.declared.instr.Instr.{Instr}
use Rattle.machine_isa.specs.Ticks.{ticks}
use Rattle.source_semantics.specs.Store.{Vars}
use Rattle.source_semantics.specs.Next.{Next, next_from}
use Rattle.source_semantics.specs.Config.{Doing, active, is_ready, Job, Config, changed, inside, vars_of, at_tick, with_jobs}
use Rattle.source_semantics.specs.Starts.{Script, device_value, due, NoneMissing}
use Rattle.source_semantics.specs.Source.{Step, RunFrom, IsFirst, Effect, effect, acts, saved, save_job, save_hold, job_next, may_act}
use Rattle.machine_semantics.specs.Image.{Process}
use Rattle.machine_semantics.specs.State.{Thread, Idle, Ready, Waiting, State}
use Rattle.machine_semantics.specs.State as target
use Rattle.machine_semantics.specs.Effect.{Own, Outcome, Goes}
use Rattle.machine_semantics.specs.Effect as effects
use Rattle.machine_semantics.specs.Tick.{Candidate, Ticked, owned_of, settle, at_next, outcome, outcome_at, least, pick, run_picked, run_thread}
use Rattle.machine_semantics.specs.Queues.{AreQueued}
use Rattle.code_spec.specs.Boundary.{Compiled, View, next_of, Agrees}
use Rattle.code_lifting.specs.Related.{Whole, Relations, own, inside_of, monitor_vars, view_of, Same, IsSame}
use Rattle.code_lifting.specs.Compiled.{IsCompiled}
use Rattle.code_lifting.proofs.Touch.{Text, text_of, inside_is}
use Rattle.code_lifting.proofs.Picks.{Least, LeastOf, least_is, first_is}
use Rattle.code_lifting.proofs.Moves.{saved_holds}
use Rattle.code_lifting.proofs.Acts.{Passes, silent, ran}

-- both sides are the same in tick t, nobody has acted in it, and no start event is missing before the limit
pub record At (w : Whole) (r : Relations) (script : Script) (t limit : ℕ) (s : State) (c : Config) : Type 0 where
  pub same : IsSame w r s c
  pub reached : c.tick ≤ t
  pub fresh : c.acted && nat_eq c.tick t ≡ false
  pub none : NoneMissing w.program script c limit

pub vars_same : (c : Config) (o : Option ℕ) → vars_of c o ≡ monitor_vars c.holds o
vars_same c None = refl
vars_same c (Some m) = refl

pub saved_same : (c : Config) (t k : ℕ) (n : Next) (o : Option ℕ) → save_hold o n.monitor (with_jobs (at_tick c t true) (changed (save_job n) k c.jobs))
    ≡ record { tick = t; acted = true; jobs = changed (save_job n) k c.jobs; holds = saved_holds o n.monitor c.holds; queues = c.queues }
saved_same c t k n None = refl
saved_same c t k n (Some m) = refl

pub not_yet : (acted : Bool) (a t : ℕ) → a ≤ t → acted && nat_eq a (t + 1) ≡ false
not_yet acted a t low = by acted (let differ : nat_eq a (t + 1) ≡ false = grind (arith, nat_tests, low) in differ) where
  by : (b : Bool) → nat_eq a (t + 1) ≡ false → b && nat_eq a (t + 1) ≡ false
  by true h = h
  by false h = refl

-- once somebody has acted in a tick no start event of it is missing
nothing_due : (w : Whole) (script : Script) (c : Config) (t : ℕ) → c.tick ≡ t → c.acted ≡ true → NoneMissing w.program script c (t + 1)
unfolding due
nothing_due w script c t tick_is acted u low below =
    let same : c.tick ≡ u = omega (arith, tick_is) in
    let is : nat_eq c.tick u ≡ true = grind (arith, nat_tests, same) in
    rw (acted, is) refl

module _ (w : Whole) (r : Relations) (compiled : IsCompiled w r) (script : Script) (t k : ℕ) (p : Process) (text : Text w r k p)
    (at_process : slice_get w.image.processes k ≡ Some p)
    (s : State) (c : Config) (is_same : IsSame w r s c) (queued : AreQueued s) (devices : (e : ℕ) (x : ℤ) → slice_get s.devices e ≡ Some x → device_value script t e ≡ x)
    (job : target.Job) (at_thread : slice_get s.threads k ≡ Some (Ready job)) (j : Job) (at_job : slice_get c.jobs k ≡ Some j) (released : ℕ) (doing : j.doing ≡ active released) where
  abbrev v : View
  v = view_of c.holds j job.inside

  abbrev n : Next
  n = next_of w.program text.text v

  abbrev of_process : Compiled
  of_process = record { image = w.image; program = w.program; number = k; process = p; text = text.text }

  abbrev words : List ℤ
  words = owned_of (slice_get s.owned k)

  abbrev Passing : Ticked → Type 0
  Passing x = Passes w r compiled script t k p text.text at_process text.there s c is_same queued devices job at_thread j at_job released doing n n.action x

  silently : (q : target.Job) → q.inside ≡ job.inside → r.stands k (own q words s.shared) v → Passing (settle w.image t k p job s (Goes (own q words s.shared)))
  silently q inside stands =
      silent w r compiled script t k p text.text at_process text.there s c is_same queued devices job at_thread j at_job released doing n n.action (own q words s.shared)
      (record { stands = stands; inside = inside; words = λ i same. refl })

  pub tick_passes : r.stands k (own job words s.shared) v → (b : ℕ) → (settle w.image t k p job s (outcome w.image s job words b)).stuck ≡ false → Passing (settle w.image t k p job s (outcome w.image s job words b))
  tick_passes stands (suc b) free =
      silently (record job { dispatch_ticks = b }) refl (text.is.faithful.stable (own job words s.shared) v job.done b s.shared stands (λ i same. refl))
  tick_passes stands zero free = by_instr (text.is.faithful.ticks s (own job words s.shared) v refl stands) where
    by_last : (instr : Instr) (b : Bool) → Agrees of_process (r.stands k) r.free (r.rests k) s (own job words s.shared) v n n.action (effects.effect w.image s instr (own (at_next job) words s.shared))
        → (settle w.image t k p job s (cond b (Goes (own (record job { done = job.done + 1 }) words s.shared)) (effects.effect w.image s instr (own (at_next job) words s.shared)))).stuck ≡ false
        → Passing (settle w.image t k p job s (cond b (Goes (own (record job { done = job.done + 1 }) words s.shared)) (effects.effect w.image s instr (own (at_next job) words s.shared))))
    by_last instr true agrees free_now = silently (record job { done = job.done + 1 }) refl (text.is.faithful.stable (own job words s.shared) v (job.done + 1) job.dispatch_ticks s.shared stands (λ i same. refl))
    by_last instr false agrees free_now =
        ran w r compiled script t k p text.text at_process text.there s c is_same queued devices job at_thread j at_job released doing n n.action
        (effects.effect w.image s instr (own (at_next job) words s.shared)) agrees free_now

    by_instr : (instr : Instr) × (slice_get w.image.code job.place ≡ Some instr) × Agrees of_process (r.stands k) r.free (r.rests k) s (own job words s.shared) v n n.action (effects.effect w.image s instr (own (at_next job) words s.shared))
        → Passing (settle w.image t k p job s (outcome_at w.image s job words (slice_get w.image.code job.place)))
    by_instr (instr, at, agrees) =
        subst (λ (o : Option Instr). (settle w.image t k p job s (outcome_at w.image s job words o)).stuck ≡ false → Passing (settle w.image t k p job s (outcome_at w.image s job words o))) (sym at)
        (λ free_now. by_last instr (nat_lt (job.done + 1) (ticks instr)) agrees free_now) free

  abbrev Continues : (es : List Event) → State → Type 0
  Continues es s' = (c' : Config) → IsSame w r s' c' → c'.tick ≤ t → c'.acted && nat_eq c'.tick (t + 1) ≡ false → NoneMissing w.program script c' (t + 1) → RunFrom w.program script c' es

  -- the tick of process k, which is picked, and what comes after it
  pub thread_runs : (x : Candidate) → x.place ≡ k → Least w.image 0 w.image.processes s.threads x → t < script.end_tick → At w r script t (t + 1) s c
      → (y : Ticked) → Passing y → (es : List Event) → Continues es y.state → RunFrom w.program script c (y.events ++ es)
  thread_runs x place l below now y (inl silent_so) es then =
      subst (λ (xs : List Event). RunFrom w.program script c (xs ++ es)) (sym silent_so.0) (then c silent_so.1 now.reached (not_yet c.acted c.tick t now.reached) now.none)
  thread_runs x place l below now y (inr tells) es then =
      subst (λ (xs : List Event). RunFrom w.program script c (xs ++ es)) (sym tells.event)
      (new, step, then new tells.after.same (omega (arith, tells.after.tick_is)) (not_yet new.acted new.tick t (omega (arith, tells.after.tick_is))) (nothing_due w script new t tells.after.tick_is tells.after.acted))
    where
      acting : Config
      acting = record { tick = t; acted = true; jobs = changed (save_job n) k c.jobs; holds = saved_holds job.inside n.monitor c.holds; queues = c.queues }

      new : Config
      new = (effect w.program script t k n.action acting).config

      in_is : inside c k ≡ job.inside
      in_is = inside_is w r compiled s.threads s.owned s.shared c.jobs c.holds k is_same.related ∙ ap (λ (o : Option Thread). inside_of o) at_thread

      next_is : job_next c k text.text j w.program ≡ n
      next_is = ap (λ (vs : Vars). next_from w.program text.text j.calls None j.vars vs) (vars_same c (inside c k) ∙ ap (λ (o : Option ℕ). monitor_vars c.holds o) in_is)

      saved_is : saved (at_tick c t true) k n ≡ acting
      saved_is = ap (λ (o : Option ℕ). save_hold o n.monitor (with_jobs (at_tick c t true) (changed (save_job n) k c.jobs))) in_is ∙ saved_same c t k n job.inside

      acts_is : acts w.program script c t k (job_next c k text.text j w.program) ≡ effect w.program script t k n.action acting
      acts_is = ap (λ (m : Next). acts w.program script c t k m) next_is ∙ ap (λ (e : Config). effect w.program script t k n.action e) saved_is

      event : Event
      event = record { tick = t; proc = k; act = (effect w.program script t k n.action acting).act }

      step : Step w.program script c event new
      step = record {
        before_end = below;
        reached = now.reached;
        none_missing = λ u low lt. now.none u low (omega (arith, lt));
        comes = inr (record {
          none_due = now.none t now.reached (omega arith);
          nobody_acted = now.fresh;
          process = text.text;
          text = text.there;
          job = j;
          state = at_job;
          ready = ap (λ (x : Doing). is_ready x) doing;
          first = subst (λ (i : ℕ). IsFirst w.program c i) place (first_is w r compiled c s.threads s.owned s.shared x is_same.related l);
          free = ap (λ (m : Next). may_act c m.action) next_is ∙ tells.may;
          told = ap (λ (e : Effect). e.act) (sym acts_is);
          after = ap (λ (e : Effect). e.config) (sym acts_is);
        });
      }

-- the tick of the process that is picked, if any, and what comes after it
pub picked_runs : (w : Whole) (r : Relations) → IsCompiled w r → (script : Script) (t : ℕ) (s : State) (c : Config) → AreQueued s → ((e : ℕ) (x : ℤ) → slice_get s.devices e ≡ Some x → device_value script t e ≡ x)
    → t < script.end_tick → At w r script t (t + 1) s c → (run_picked w.image t s (pick w.image s.threads)).stuck ≡ false → (es : List Event)
    → ((c' : Config) → IsSame w r (run_picked w.image t s (pick w.image s.threads)).state c' → c'.tick ≤ t → c'.acted && nat_eq c'.tick (t + 1) ≡ false → NoneMissing w.program script c' (t + 1) → RunFrom w.program script c' es)
    → RunFrom w.program script c ((run_picked w.image t s (pick w.image s.threads)).events ++ es)
unfolding pick
picked_runs w r compiled script t s c queued devices below now free es then = by (least w.image 0 w.image.processes s.threads) (least_is w.image 0 w.image.processes s.threads) free then where
  Continuing : State → Type 0
  Continuing s' = (c' : Config) → IsSame w r s' c' → c'.tick ≤ t → c'.acted && nat_eq c'.tick (t + 1) ≡ false → NoneMissing w.program script c' (t + 1) → RunFrom w.program script c' es

  by : (o : Option Candidate) → LeastOf w.image 0 w.image.processes s.threads o → (run_picked w.image t s o).stuck ≡ false → ((c' : Config) → IsSame w r (run_picked w.image t s o).state c' → c'.tick ≤ t → c'.acted && nat_eq c'.tick (t + 1) ≡ false → NoneMissing w.program script c' (t + 1) → RunFrom w.program script c' es)
      → RunFrom w.program script c ((run_picked w.image t s o).events ++ es)
  by None none free_now go = go c now.same now.reached (not_yet c.acted c.tick t now.reached) now.none
  by (Some x) l free_now go = by_job (slice_get c.jobs x.place) refl (subst (λ (o : Option Thread). Same w r x.place c.holds (owned_of (slice_get s.owned x.place)) s.shared o (slice_get c.jobs x.place)) ready (now.same.related.same x.place)) where
    place : l.index ≡ x.place
    place = omega (arith, l.place)

    process : slice_get w.image.processes x.place ≡ Some l.p
    process = ap (λ (i : ℕ). slice_get w.image.processes i) (sym place) ∙ l.process

    ready : slice_get s.threads x.place ≡ Some (Ready l.job)
    ready = ap (λ (i : ℕ). slice_get s.threads i) (sym place) ∙ l.ready

    text : Text w r x.place l.p
    text = text_of w r compiled x.place l.p process

    runs_is : run_thread w.image t x.place s (slice_get w.image.processes x.place) (slice_get s.threads x.place)
        ≡ settle w.image t x.place l.p l.job s (outcome w.image s l.job (owned_of (slice_get s.owned x.place)) l.job.dispatch_ticks)
    runs_is = ap (λ (o : Option Process). run_thread w.image t x.place s o (slice_get s.threads x.place)) process ∙ ap (λ (o : Option Thread). run_thread w.image t x.place s (Some l.p) o) ready

    by_job : (j : Option Job) → slice_get c.jobs x.place ≡ j → Same w r x.place c.holds (owned_of (slice_get s.owned x.place)) s.shared (Some (Ready l.job)) j
        → RunFrom w.program script c ((run_thread w.image t x.place s (slice_get w.image.processes x.place) (slice_get s.threads x.place)).events ++ es)
    by_job None at_job same = absurd same
    by_job (Some j) at_job same =
        thread_runs w r compiled script t x.place l.p text process s c now.same queued devices l.job ready j at_job same.0 same.1 x refl l below now
        (run_thread w.image t x.place s (slice_get w.image.processes x.place) (slice_get s.threads x.place))
        (subst (λ (y : Ticked). Passes w r compiled script t x.place l.p text.text process text.there s c now.same queued devices l.job ready j at_job same.0 same.1 (next_of w.program text.text (view_of c.holds j l.job.inside)) (next_of w.program text.text (view_of c.holds j l.job.inside)).action y) (sym runs_is)
        (tick_passes w r compiled script t x.place l.p text process s c now.same queued devices l.job ready j at_job same.0 same.1 same.2 l.job.dispatch_ticks (subst (λ (y : Ticked). y.stuck ≡ false) runs_is free_now))) es go
