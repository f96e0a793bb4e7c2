-- What a run keeps in which nobody waits.
use Rattle.std.proofs.Common.{◌≡◌, ◌+◌, ◌*◌, ℕ, zero, suc, List, [], ◌∷◌, Option, Some, None, map, arith, refl, ap, sym, subst, ◌∙◌, true, false, Bool}
use Rattle.std.specs.Prelude.{slice_get, slice_set, cond, nat_eq}
use Rattle.std.proofs.lemmas.Option.{slice_get_within}
use Rattle.base.proofs.Lists.{get_set, some_at}
use Rattle.base.specs.declared.event.Act.TheVariants as act
use Rattle.machine_semantics.specs.Image.{Process, Script}
use Rattle.machine_semantics.specs.State.{Job, Thread, Idle, Ready, Waiting, State}
use Rattle.machine_semantics.specs.Effect.{Outcome, Goes, Does, Signals, Broadcasts, Waits, Raises, Ends, Stuck}
use Rattle.machine_semantics.specs.Starts.{unchanged, told, release, release_thread, raised, without, time_out, queue_of, starts}
use Rattle.machine_semantics.specs.Tick.{Candidate, rest, settle, outcome, owned_of, run_thread, run_picked}
use Rattle.machine_semantics.specs.Run.{at_start}
use Rattle.machine_semantics.specs.Walk.{Where}
use Rattle.machine_semantics.specs.Safe.{Parts, ImageFits}
use Rattle.machine_semantics.specs.Queues.{times, waits_on, AreQueued}
use Rattle.machine_safety.proofs.Starting.{starts_pass}
use Rattle.machine_safety.proofs.Queueing.{tick_keeps_queues}
use Rattle.edf_semantics.specs.Run.{candidate, chosen_at, tick, state_at}
use Rattle.edf_semantics.specs.Safe.{IsWaitless}
use Rattle.edf_semantics.proofs.Marking.{IsNotWaiting as IsCalm, opened_calm}
use Rattle.edf_semantics.proofs.Keeping.{Calm, Kept, fits_during, about, kept, every_run_is_safe}
use Rattle.edf_semantics.specs.Runs.{IsNotWaiting, NobodyWaits, WaitlessRunsAreAwake, WaitlessRunsAreKept}

-- ---- queues in which nobody stands

abbrev AreEmpty : List (List ℕ) → Type 0
AreEmpty qs = (c : ℕ) → queue_of qs c ≡ []

set_empty : (qs : List (List ℕ)) (c : ℕ) → AreEmpty qs → AreEmpty (slice_set qs c [])
set_empty [] c empty d = refl
set_empty (q ∷ qs) zero empty zero = refl
set_empty (q ∷ qs) zero empty (suc d) = empty (suc d)
set_empty (q ∷ qs) (suc c) empty zero = empty 0
set_empty (q ∷ qs) (suc c) empty (suc d) = set_empty qs c (λ i. empty (suc i)) d

-- so the queues hold those who wait
queued : (s : State) → NobodyWaits s → AreEmpty s.queues → AreQueued s
queued s calm empty c k = ap (λ (q : List ℕ). times k q) (empty c) ∙ sym (none (slice_get s.threads k) (calm k)) where
  none : (o : Option Thread) → IsNotWaiting o → waits_on c o ≡ 0
  none None not_so = refl
  none (Some Idle) not_so = refl
  none (Some (Ready job)) not_so = refl
  none (Some (Waiting d due number job)) not_so = absurd not_so

-- ---- the tick of whoever is picked

-- it leaves them empty, where nobody waits after it
settle_empty : (e : Where) (t k : ℕ) (p : Process) (job : Job) (s : State) (out : Outcome) → slice_get s.threads k ≡ Some (Ready job) → AreEmpty s.queues → NobodyWaits (settle e.image t k p job s out).state → AreEmpty (settle e.image t k p job s out).state.queues
settle_empty e t k p job s (Goes q) at empty calm = empty
settle_empty e t k p job s (Does a q) at empty calm = empty
settle_empty e t k p job s (Signals c q) at empty calm = subst (λ (x : List ℕ). AreEmpty (slice_set s.queues c (rest x))) (sym (empty c)) (set_empty s.queues c empty)
settle_empty e t k p job s (Broadcasts c q) at empty calm = set_empty s.queues c empty
settle_empty e t k p job s (Waits c limit number q) at empty calm = absurd (subst IsNotWaiting (get_set s.threads k (Waiting c (t + limit + 1) number q.job) (Ready job) at) (calm k))
settle_empty e t k p job s (Raises number) at empty calm = empty
settle_empty e t k p job s Ends at empty calm = empty
settle_empty e t k p job s Stuck at empty calm = empty

thread_empty : (e : Where) (t k : ℕ) (s : State) (p : Option Process) (th : Option Thread) → slice_get s.threads k ≡ th → AreEmpty s.queues → NobodyWaits (run_thread e.image t k s p th).state → AreEmpty (run_thread e.image t k s p th).state.queues
thread_empty e t k s None None at empty calm = empty
thread_empty e t k s None (Some th) at empty calm = empty
thread_empty e t k s (Some p) None at empty calm = empty
thread_empty e t k s (Some p) (Some Idle) at empty calm = empty
thread_empty e t k s (Some p) (Some (Waiting c due number job)) at empty calm = empty
thread_empty e t k s (Some p) (Some (Ready job)) at empty calm = settle_empty e t k p job s (outcome e.image s job (owned_of (slice_get s.owned k)) job.dispatch_ticks) at empty calm

picked_empty : (e : Where) (t : ℕ) (s : State) (o : Option Candidate) → AreEmpty s.queues → NobodyWaits (run_picked e.image t s o).state → AreEmpty (run_picked e.image t s o).state.queues
picked_empty e t s None empty calm = empty
picked_empty e t s (Some x) empty calm = thread_empty e t x.place s (slice_get e.image.processes x.place) (slice_get s.threads x.place) refl empty calm

-- ---- the run

module _ (e : Where) (ps : ℕ → Parts) (fits : ImageFits e ps) (waitless : IsWaitless e ps) (script : Script) where
  abbrev kept_at : (t : ℕ) → Kept e ps fits waitless t (state_at e.image script t)
  kept_at t = kept e ps fits waitless script t

  calm_of : (th : Thread) → IsCalm th → IsNotWaiting (Some th)
  calm_of Idle calm = tt
  calm_of (Ready job) calm = tt
  calm_of (Waiting c due number job) calm = calm

  nobody_waits : (t : ℕ) → NobodyWaits (state_at e.image script t).state
  unfolding Calm
  nobody_waits t k = by (slice_get (state_at e.image script t).state.threads k) refl where
    by : (o : Option Thread) → slice_get (state_at e.image script t).state.threads k ≡ o → IsNotWaiting o
    by None at = tt
    by (Some th) at =
        let below = slice_get_within (state_at e.image script t).state.threads k th at in
        let p : (p : Process) × (slice_get e.image.processes k ≡ Some p) = some_at e.image.processes k (omega (arith, below, (kept_at t).fits.many)) in
        let c = (kept_at t).calm k p.0 p.1 in
        subst (λ (o : Option Thread). IsNotWaiting o) (sym c.1 ∙ at) (calm_of c.0 c.2)

  release_empty : (u k : ℕ) (p : Process) (s : State) → AreEmpty s.queues → slice_get e.image.processes k ≡ Some p → AreEmpty (release e.image u k p s).state.queues
  release_empty u k p s empty process = by (slice_get s.threads k) where
    by : (o : Option Thread) → AreEmpty (release_thread e.image u k p s o).state.queues
    by None = empty
    by (Some Idle) = empty
    by (Some (Ready job)) = empty
    by (Some (Waiting c due number job)) = empty

  time_out_empty : (u k : ℕ) (p : Process) (s : State) → AreEmpty s.queues → slice_get e.image.processes k ≡ Some p → AreEmpty (time_out e.image u k p s (slice_get s.threads k)).state.queues
  time_out_empty u k p s empty process = by (slice_get s.threads k) where
    by : (o : Option Thread) → AreEmpty (time_out e.image u k p s o).state.queues
    by None = empty
    by (Some Idle) = empty
    by (Some (Ready job)) = empty
    by (Some (Waiting c due number job)) = by_due (nat_eq due u) where
      taken : List (List ℕ)
      taken = slice_set s.queues c (without k (queue_of s.queues c))

      by_due : (b : Bool) → AreEmpty (cond b (told u k (act.TimeOut c number) (record s { queues = taken }) (Ready (record (raised p number job) { dispatch_ticks = 2 * e.image.over }))) (unchanged s)).state.queues
      by_due true = subst (λ (x : List ℕ). AreEmpty (slice_set s.queues c (without k x))) (sym (empty c)) (set_empty s.queues c empty)
      by_due false = empty

  starts_empty : (t : ℕ) (s : State) → AreEmpty s.queues → AreEmpty (starts e.image script t s).state.queues
  starts_empty t s empty = starts_pass e (λ (x : State). AreEmpty x.queues) release_empty time_out_empty (λ d v u now. now) script t s empty

  no_queue : (cs : List ℕ) → AreEmpty (map (λ (d : ℕ). []) cs)
  no_queue [] c = refl
  no_queue (d ∷ ds) zero = refl
  no_queue (d ∷ ds) (suc c) = no_queue ds c

  empty_at : (t : ℕ) → AreEmpty (state_at e.image script t).state.queues
  unfolding state_at at_start tick
  empty_at zero = no_queue e.image.conditions
  empty_at (suc t) =
      let s = state_at e.image script t in
      picked_empty e t (starts e.image script t s.state).state (candidate (chosen_at e.image script t s)) (starts_empty t s.state (empty_at t)) (nobody_waits (suc t))

  calm_started : (t : ℕ) → NobodyWaits (starts e.image script t (state_at e.image script t).state).state
  calm_started t k = by (slice_get (starts e.image script t (state_at e.image script t).state).state.threads k) refl where
    by : (o : Option Thread) → slice_get (starts e.image script t (state_at e.image script t).state).state.threads k ≡ o → IsNotWaiting o
    by None at = tt
    by (Some th) at =
        let below = slice_get_within (starts e.image script t (state_at e.image script t).state).state.threads k th at in
        let p : (p : Process) × (slice_get e.image.processes k ≡ Some p) = some_at e.image.processes k (omega (arith, below, (fits_during e ps fits waitless script t (state_at e.image script t) (kept_at t)).many)) in
        let x = about e ps fits waitless script t (state_at e.image script t) (kept_at t) k p.0 p.1 in
        subst (λ (o : Option Thread). IsNotWaiting o) (sym x.at_mid ∙ at) (calm_of x.mid (opened_calm e.image p.0 x.old x.mid x.opens))

pub waitless_runs_are_awake : WaitlessRunsAreAwake
waitless_runs_are_awake e ps script t fits waitless =
    let calm = nobody_waits e ps fits waitless script t in
    let before = queued (state_at e.image script t).state calm (empty_at e ps fits waitless script t) in
    record {
      calm = calm;
      calm_started = calm_started e ps fits waitless script t;
      queued = before;
      queued_started = (tick_keeps_queues e ps script t (state_at e.image script t).state fits (kept_at e ps fits waitless script t).fits before).0;
    }

pub waitless_runs_are_kept : WaitlessRunsAreKept
waitless_runs_are_kept e ps script fits waitless no_overrun = record {
  never_stuck = λ t below. (every_run_is_safe e ps script t fits waitless).0;
  no_overrun = no_overrun;
  calm = λ t below. (waitless_runs_are_awake e ps script t fits waitless).calm;
  queued_started = λ t below. (waitless_runs_are_awake e ps script t fits waitless).queued_started;
}
