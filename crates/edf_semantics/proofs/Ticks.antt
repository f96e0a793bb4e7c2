-- The tick of whoever is picked, in a run in which any ready process may act.
use Rattle.std.proofs.Common.{◌≡◌, ◌≤◌, ◌<◌, ◌+◌, ◌++◌, inl, inr, ℕ, List, [], Option, Some, None, arith, refl, ap, sym, subst, ◌∙◌, true, false}
use Rattle.std.specs.Prelude.{ℤ, slice_get, nat_eq, ◌&&◌}
use Rattle.std.proofs.lemmas.Bool.Decides.{nat_tests}
use Rattle.base.specs.declared.event.Event.{Event}
use Rattle.source_semantics.specs.Store.{Vars}
use Rattle.source_semantics.specs.Next.{Next, next_from}
use Rattle.source_semantics.specs.Config.{Doing, active, is_ready, Job, Config, changed, inside, at_tick, with_jobs}
use Rattle.source_semantics.specs.Starts.{Script, device_value, due, NoneMissing}
use Rattle.source_semantics.specs.Source.{Effect, effect, acts, saved, save_job, save_hold, job_next, may_act}
use Rattle.machine_semantics.specs.Image.{Process}
use Rattle.machine_semantics.specs.State.{Thread, Idle, Ready, Waiting, State}
use Rattle.machine_semantics.specs.State as target
use Rattle.machine_semantics.specs.Tick.{Candidate, Ticked, owned_of, run_picked, run_thread}
use Rattle.machine_semantics.specs.Queues.{AreQueued}
use Rattle.code_spec.specs.Boundary.{next_of}
use Rattle.source_semantics.specs.Any.{StepAny, RunAnyFrom}
use Rattle.code_lifting.specs.Related.{Whole, Relations, inside_of, monitor_vars, view_of, Same, IsSame}
use Rattle.code_lifting.specs.Compiled.{IsCompiled}
use Rattle.code_lifting.proofs.Touch.{Text, text_of, inside_is}
use Rattle.code_lifting.proofs.Moves.{saved_holds}
use Rattle.code_lifting.proofs.Acts.{Passes, Tells}
use Rattle.code_lifting.proofs.Ticks.{At, tick_passes, saved_same, not_yet, vars_same}

module _ (w : Whole) (r : Relations) (compiled : IsCompiled w r) (script : Script) (t : ℕ) (below : t < script.end_tick)
    (s : State) (c : Config) (queued : AreQueued s) (devices : (d : ℕ) (x : ℤ) → slice_get s.devices d ≡ Some x → device_value script t d ≡ x)
    (now : At w r script t (t + 1) s c) (es : List Event) where
  -- what comes after the tick is a run
  abbrev Continues : State → Type 0
  Continues s' = (c' : Config) → IsSame w r s' c' → c'.tick ≤ t → c'.acted && nat_eq c'.tick (t + 1) ≡ false → NoneMissing w.program script c' (t + 1) → RunAnyFrom w.program script c' es

  -- so the tick and what comes after it are one
  abbrev Leads : Ticked → Type 0
  Leads y = y.stuck ≡ false → Continues y.state → RunAnyFrom w.program script c (y.events ++ es)

  rests : Leads (record { state = s; events = []; stuck = false })
  rests free then = then c now.same now.reached (not_yet c.acted c.tick t now.reached) now.none

  module _ (k : ℕ) (p : Process) (at_process : slice_get w.image.processes k ≡ Some p) (job : target.Job) (at_thread : slice_get s.threads k ≡ Some (Ready job))
      (j : Job) (at_job : slice_get c.jobs k ≡ Some j) (released : ℕ) (doing : j.doing ≡ active released) where
    text : Text w r k p
    text = text_of w r compiled k p at_process

    abbrev n : Text w r k p → Next
    n x = next_of w.program x.text (view_of c.holds j job.inside)

    abbrev TellsAt : Text w r k p → Ticked → Type 0
    TellsAt x y = Tells w r compiled script t k p x.text at_process x.there s c now.same queued devices job at_thread j at_job released doing (n x) (n x).action y

    abbrev PassesAt : Text w r k p → Ticked → Type 0
    PassesAt x y = Passes w r compiled script t k p x.text at_process x.there s c now.same queued devices job at_thread j at_job released doing (n x) (n x).action y

    in_is : inside c k ≡ job.inside
    in_is = inside_is w r compiled s.threads s.owned s.shared c.jobs c.holds k now.same.related ∙ ap (λ (o : Option Thread). inside_of o) at_thread

    abbrev acting : Next → Config
    acting m = record { tick = t; acted = true; jobs = changed (save_job m) k c.jobs; holds = saved_holds job.inside m.monitor c.holds; queues = c.queues }

    next_is : (x : Text w r k p) → job_next c k x.text j w.program ≡ n x
    next_is x = ap (λ (vs : Vars). next_from w.program x.text j.calls None j.vars vs) (vars_same c (inside c k) ∙ ap (λ (o : Option ℕ). monitor_vars c.holds o) in_is)

    saved_is : (m : Next) → saved (at_tick c t true) k m ≡ acting m
    saved_is m = ap (λ (o : Option ℕ). save_hold o m.monitor (with_jobs (at_tick c t true) (changed (save_job m) k c.jobs))) in_is ∙ saved_same c t k m job.inside

    acts_is : (x : Text w r k p) → acts w.program script c t k (job_next c k x.text j w.program) ≡ effect w.program script t k (n x).action (acting (n x))
    acts_is x = ap (λ (m : Next). acts w.program script c t k m) (next_is x) ∙ ap (λ (e : Config). effect w.program script t k (n x).action e) (saved_is (n x))

    abbrev new : Text w r k p → Config
    new x = (effect w.program script t k (n x).action (acting (n x))).config

    abbrev event : Text w r k p → Event
    event x = record { tick = t; proc = k; act = (effect w.program script t k (n x).action (acting (n x))).act }

    step : (x : Text w r k p) (y : Ticked) → TellsAt x y → StepAny w.program script c (event x) (new x)
    step x y tells = record {
      before_end = below;
      reached = now.reached;
      none_missing = λ u low lt. now.none u low (omega (arith, lt));
      comes = inr (record {
        none_due = now.none t now.reached (omega arith);
        nobody_acted = now.fresh;
        process = x.text;
        text = x.there;
        job = j;
        state = at_job;
        ready = ap (λ (d : Doing). is_ready d) doing;
        free = ap (λ (m : Next). may_act c m.action) (next_is x) ∙ tells.may;
        told = ap (λ (e : Effect). e.act) (sym (acts_is x));
        after = ap (λ (e : Effect). e.config) (sym (acts_is x));
      });
    }

    -- once somebody has acted in a tick no start event of it is missing
    nothing_due : (d : Config) → d.tick ≡ t → d.acted ≡ true → NoneMissing w.program script d (t + 1)
    unfolding due
    nothing_due d tick_is acted u low lt =
        let same : d.tick ≡ u = omega (arith, tick_is, low, lt) in
        let is : nat_eq d.tick u ≡ true = grind (arith, nat_tests, same) in
        rw (acted, is) refl

    leads : (x : Text w r k p) (y : Ticked) → PassesAt x y → Continues y.state → RunAnyFrom w.program script c (y.events ++ es)
    leads x y (inl silent) then =
        subst (λ (xs : List Event). RunAnyFrom w.program script c (xs ++ es)) (sym silent.0) (then c silent.1 now.reached (not_yet c.acted c.tick t now.reached) now.none)
    leads x y (inr tells) then =
        subst (λ (xs : List Event). RunAnyFrom w.program script c (xs ++ es)) (sym tells.event)
        (new x, step x y tells, then (new x) tells.after.same (omega (arith, tells.after.tick_is)) (not_yet (new x).acted (new x).tick t (omega (arith, tells.after.tick_is))) (nothing_due (new x) tells.after.tick_is tells.after.acted))

  by_job : (k : ℕ) (p : Process) (job : target.Job) (o : Option Job) → slice_get w.image.processes k ≡ Some p → slice_get s.threads k ≡ Some (Ready job) → slice_get c.jobs k ≡ o
      → Same w r k c.holds (owned_of (slice_get s.owned k)) s.shared (Some (Ready job)) o → Leads (run_thread w.image t k s (Some p) (Some (Ready job)))
  by_job k p job None at_process at_thread at_job same = absurd same
  by_job k p job (Some j) at_process at_thread at_job same = λ free then.
      leads k p at_process job at_thread j at_job same.0 same.1 (text_of w r compiled k p at_process) (run_thread w.image t k s (Some p) (Some (Ready job)))
      (tick_passes w r compiled script t k p (text_of w r compiled k p at_process) at_process s c now.same queued devices job at_thread j at_job same.0 same.1 same.2 job.dispatch_ticks free) then

  by_thread : (k : ℕ) (p : Option Process) (th : Option Thread) → slice_get w.image.processes k ≡ p → slice_get s.threads k ≡ th → Leads (run_thread w.image t k s p th)
  by_thread k None None at_process at_thread = rests
  by_thread k None (Some th) at_process at_thread = rests
  by_thread k (Some p) None at_process at_thread = rests
  by_thread k (Some p) (Some Idle) at_process at_thread = rests
  by_thread k (Some p) (Some (Waiting condition due number job)) at_process at_thread = rests
  by_thread k (Some p) (Some (Ready job)) at_process at_thread =
      by_job k p job (slice_get c.jobs k) at_process at_thread refl
      (subst (λ (o : Option Thread). Same w r k c.holds (owned_of (slice_get s.owned k)) s.shared o (slice_get c.jobs k)) at_thread (now.same.related.same k))

  -- the tick of whoever is picked, if anybody is, and what comes after it
  pub picked_runs : (o : Option Candidate) → (run_picked w.image t s o).stuck ≡ false
      → ((c' : Config) → IsSame w r (run_picked w.image t s o).state c' → c'.tick ≤ t → c'.acted && nat_eq c'.tick (t + 1) ≡ false → NoneMissing w.program script c' (t + 1) → RunAnyFrom w.program script c' es)
      → RunAnyFrom w.program script c ((run_picked w.image t s o).events ++ es)
  picked_runs None = rests
  picked_runs (Some x) = by_thread x.place (slice_get w.image.processes x.place) (slice_get s.threads x.place) refl refl
