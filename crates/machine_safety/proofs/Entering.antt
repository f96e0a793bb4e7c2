-- A stay begins within what its part tells, in a monitor that is free.
use Rattle.std.proofs.Common.{◌≡◌, ◌+◌, inl, inr, ℕ, zero, suc, List, Option, Some, None, length, arith, refl, ap, sym, subst, ◌∙◌}
use Rattle.std.specs.Prelude.{ℤ, slice_get, slice_set}
use Rattle.std.proofs.lemmas.Bool.{cases_eq}
use Rattle.base.proofs.Lists.{get_set}
use Rattle.machine_isa.specs.declared.instr.Instr.TheVariants as i
use Rattle.machine_semantics.specs.Image.{Process, Script}
use Rattle.machine_semantics.specs.State.{Job, Thread, Idle, Ready, Waiting, State}
use Rattle.machine_semantics.specs.Effect.{Own, Outcome, Goes, Does, Signals, Broadcasts, Waits, Raises, Ends, Stuck}
use Rattle.machine_semantics.specs.Starts.{raised, queue_of, starts}
use Rattle.machine_semantics.specs.Tick.{Candidate, least, pick, first, settle, outcome, owned_of, run_thread, run_picked, tick}
use Rattle.machine_semantics.specs.Part.{Part}
use Rattle.machine_semantics.specs.Walk.{Where, WalkCost, Reaches, within}
use Rattle.machine_semantics.specs.Safe.{Parts, ImageFits, Ticks, TickFits, part_of}
use Rattle.machine_semantics.specs.Whole.{ThreadFits, StateFits}
use Rattle.machine_semantics.specs.Stays.{StaysIn, StayBegins, EntersFree}
use Rattle.machine_safety.proofs.Ticking.{tick_is_safe}
use Rattle.machine_safety.proofs.Whole.{ready_elsewhere, length_owned}
use Rattle.machine_safety.proofs.Picked.{Chosen, ChosenOf, chosen, finds_free}
use Rattle.machine_safety.proofs.Starting.{starts_keep}
use Rattle.machine_safety.proofs.Settling.{own_limit}
use Rattle.machine_safety.proofs.Staying.{wake_first_ready, wake_all_ready}
use Rattle.machine_safety.proofs.Suspending.{Left, run_left}

module _ (e : Where) (ps : ℕ → Parts) (image_fits : ImageFits e ps) where
  -- what is to be shown of a state after the tick, when process k was outside all monitors and has entered m
  unfoldable pub Entered : ℕ → ℕ → Part → State → Type 0
  Entered k m own u = (new : Job) → slice_get u.threads k ≡ Some (Ready new) → new.inside ≡ Some m → StaysIn e ps u k m (own.stays m) × Reaches (within e own) m

  -- who has the same place is outside still
  outside_still : (k m : ℕ) (n : Part) (u : State) (job : Job) → slice_get u.threads k ≡ Some (Ready job) → job.inside ≡ None → Entered k m n u
  unfolding Entered
  outside_still k m n u job at outside new now inside =
      absurd (let same : job ≡ new = (let both : Some (Ready job) ≡ Some (Ready new) = sym at ∙ now in cc) in let none : None ≡ Some m = sym outside ∙ ap (λ (x : Job). x.inside) same ∙ inside in cc)

  settle_enters : (t : ℕ) (s : State) (k m : ℕ) (p : Process) (job : Job) (left : WalkCost) (out : Outcome) → slice_get e.image.processes k ≡ Some p → slice_get s.threads k ≡ Some (Ready job)
      → TickFits e p (ps k) job (owned_of (slice_get s.owned k)) s.shared left out → job.dispatch_ticks ≡ 0 → job.inside ≡ None
      → Entered k m (part_of (ps k) job.handling) (settle e.image t k p job s out).state
  unfolding Entered
  settle_enters t s k m p job left out process at fits no_burn was = by out fits where
    own : List ℤ
    own = owned_of (slice_get s.owned k)

    n : Part
    n = part_of (ps k) job.handling

    put : (q : Own) (u : State) → Ticks e p (ps k) (part_of (ps k) job.handling) job.inside job.dispatch_ticks own s.shared left q → slice_get u.threads k ≡ Some (Ready q.job) → u.owned ≡ slice_set s.owned k q.owned → Entered k m n u
    put q u g there words new now inside =
        let same : q.job ≡ new = (let both : Some (Ready q.job) ≡ Some (Ready new) = sym there ∙ now in cc) in
        let entered : q.job.inside ≡ Some m = ap (λ (x : Job). x.inside) same ∙ inside in (
          record {
            p = p;
            job = q.job;
            left = g.after;
            process = process;
            there = there;
            inside = entered;
            no_burn = omega (arith, g.dispatch_ticks, no_burn);
            short = g.begins m was entered;
            has = ready_elsewhere e p (ps k) q.job q.owned (owned_of (slice_get u.owned k)) q.shared u.shared g.after
                (omega (arith, length_owned s.owned k k q.owned g.owned, g.owned, ap (λ (x : List (List ℤ)). length (owned_of (slice_get x k))) words)) g.fits;
          },
          g.reaches m was entered,
        )

    by : (out : Outcome) → TickFits e p (ps k) job own s.shared left out → Entered k m n (settle e.image t k p job s out).state
    by (Goes q) g = put q (settle e.image t k p job s (Goes q)).state g (get_set s.threads k (Ready q.job) (Ready job) at) refl
    by (Does a q) g = put q (settle e.image t k p job s (Does a q)).state g (get_set s.threads k (Ready q.job) (Ready job) at) refl
    by (Signals c q) g = put q (settle e.image t k p job s (Signals c q)).state g
        (wake_first_ready e.image (first (queue_of s.queues c)) k (slice_set s.threads k (Ready q.job)) q.job (get_set s.threads k (Ready q.job) (Ready job) at)) refl
    by (Broadcasts c q) g = put q (settle e.image t k p job s (Broadcasts c q)).state g
        (wake_all_ready e.image (queue_of s.queues c) k (slice_set s.threads k (Ready q.job)) q.job (get_set s.threads k (Ready q.job) (Ready job) at)) refl
    by (Waits c limit number q) g = λ new now inside. absurd (let is : slice_get (slice_set s.threads k (Waiting c (t + limit + 1) number q.job)) k ≡ Some (Waiting c (t + limit + 1) number q.job) = get_set s.threads k (Waiting c (t + limit + 1) number q.job) (Ready job) at in cc)
    by (Raises number) g = outside_still k m n (settle e.image t k p job s (Raises number)).state (raised p number job) (get_set s.threads k (Ready (raised p number job)) (Ready job) at) refl
    by Ends g = λ new now inside. absurd (let is : slice_get (slice_set s.threads k Idle) k ≡ Some Idle = get_set s.threads k Idle (Ready job) at in cc)
    by Stuck g = absurd g

  pub tick_enters : (t : ℕ) (s : State) (k m : ℕ) (job : Job) → slice_get s.threads k ≡ Some (Ready job) → job.inside ≡ None → StateFits e ps s → (x : Option Candidate) → ChosenOf e.image 0 e.image.processes s.threads x
      → Entered k m (part_of (ps k) job.handling) (run_picked e.image t s x).state
  tick_enters t s k m job at was fits None none = outside_still k m (part_of (ps k) job.handling) s job at was
  tick_enters t s k m job at was fits (Some c) ch = elim (cases_eq c.place k) [
    | inl same ↦ it same
    | inr differ ↦
        let left : Left e.image s (run_picked e.image t s (Some c)).state k (Ready job) = run_left e.image t s c.place k (slice_get e.image.processes c.place) (slice_get s.threads c.place) (Ready job) differ at in
        outside_still k m n (run_picked e.image t s (Some c)).state job (elim left.thread.2 [ inl old ↦ left.thread.1 ∙ ap (λ (x : Thread). Some x) old | inr new ↦ left.thread.1 ∙ ap (λ (x : Thread). Some x) new ]) was
  ] where
    n : Part
    n = part_of (ps k) job.handling

    it : c.place ≡ k → Entered k m n (run_picked e.image t s (Some c)).state
    it same =
        let index : ch.index ≡ k = omega (arith, ch.place, same) in
        let process : slice_get e.image.processes k ≡ Some ch.p = ap (λ (x : ℕ). slice_get e.image.processes x) (sym index) ∙ ch.process in
        let now : slice_get s.threads k ≡ Some (Ready ch.job) = ap (λ (x : ℕ). slice_get s.threads x) (sym index) ∙ ch.ready in
        let same_job : job ≡ ch.job = (let both : Some (Ready job) ≡ Some (Ready ch.job) = sym at ∙ now in cc) in
        subst (λ (j : ℕ). Entered k m n (run_thread e.image t j s (slice_get e.image.processes j) (slice_get s.threads j)).state) (sym same)
        (subst (λ (x : Option Process). Entered k m n (run_thread e.image t k s x (slice_get s.threads k)).state) (sym process)
        (subst (λ (x : Option Thread). Entered k m n (run_thread e.image t k s (Some ch.p) x).state) (sym now)
        (subst (λ (j : Job). Entered k m (part_of (ps k) j.handling) (run_thread e.image t k s (Some ch.p) (Some (Ready ch.job))).state) (sym same_job)
        (by_burn process now (ap (λ (x : Job). x.inside) (sym same_job) ∙ was) ch.job.dispatch_ticks refl)))) where
          by_burn : slice_get e.image.processes k ≡ Some ch.p → slice_get s.threads k ≡ Some (Ready ch.job) → ch.job.inside ≡ None → (b : ℕ) → ch.job.dispatch_ticks ≡ b
              → Entered k m (part_of (ps k) ch.job.handling) (settle e.image t k ch.p ch.job s (outcome e.image s ch.job (owned_of (slice_get s.owned k)) b)).state
          by_burn process now outside zero is =
              let f : ThreadFits e ch.p (ps k) (Ready ch.job) (owned_of (slice_get s.owned k)) s.shared = fits.threads k ch.p (Ready ch.job) process now in
              settle_enters t s k m ch.p ch.job f.0 (outcome e.image s ch.job (owned_of (slice_get s.owned k)) zero) process now
              (tick_is_safe e (ps k) s ch.p ch.job (owned_of (slice_get s.owned k)) f.0 image_fits.routines (image_fits.processes k ch.p process) fits.sized f.1
              (finds_free e ps s c ch (part_of (ps k) ch.job.handling) (owned_of (slice_get s.owned k)) fits (own_limit e ps image_fits ch.p (ps k) ch.job.handling (image_fits.processes k ch.p process))))
              is outside
          by_burn process now outside (suc b) is =
              outside_still k m (part_of (ps k) ch.job.handling) (settle e.image t k ch.p ch.job s (outcome e.image s ch.job (owned_of (slice_get s.owned k)) (suc b))).state (record (ch.job) { dispatch_ticks = b })
              (get_set s.threads k (Ready (record (ch.job) { dispatch_ticks = b })) (Ready ch.job) now) outside

  begins : (script : Script) (t : ℕ) (s : State) (k m : ℕ) (job new : Job) → StateFits e ps s → slice_get (starts e.image script t s).state.threads k ≡ Some (Ready job) → job.inside ≡ None
      → slice_get (tick e.image script t s).state.threads k ≡ Some (Ready new) → new.inside ≡ Some m → StaysIn e ps (tick e.image script t s).state k m ((part_of (ps k) job.handling).stays m) × Reaches (within e (part_of (ps k) job.handling)) m
  unfolding tick pick Entered
  begins script t s k m job new fits at was now inside =
      let s1 : State = (starts e.image script t s).state in
      tick_enters t s1 k m job at was (starts_keep e ps image_fits script t s fits) (least e.image 0 e.image.processes s1.threads) (chosen e.image 0 e.image.processes s1.threads) new now inside

pub stay_begins : StayBegins
stay_begins e ps script t s k m job new image_fits fits at was now inside = begins e ps image_fits script t s k m job new fits at was now inside

pub enters_free : EntersFree
unfolding pick
enters_free e ps script t s c p job m monitor image_fits fits picked process ready outside there low =
    let s1 : State = (starts e.image script t s).state in
    let ch : Chosen e.image 0 e.image.processes s1.threads c = subst (λ (x : Option Candidate). ChosenOf e.image 0 e.image.processes s1.threads x) picked (chosen e.image 0 e.image.processes s1.threads) in
    let index : ch.index ≡ c.place = omega (arith, ch.place) in
    let same_p : ch.p ≡ p = (let both : Some ch.p ≡ Some p = sym ch.process ∙ (ap (λ (x : ℕ). slice_get e.image.processes x) index ∙ process) in cc) in
    let same_job : ch.job ≡ job = (let both : Some (Ready ch.job) ≡ Some (Ready job) = sym ch.ready ∙ (ap (λ (x : ℕ). slice_get s1.threads x) index ∙ ready) in cc) in
    let rank : ch.p.rank ≡ p.rank = ap (λ (x : Process). x.rank) same_p in
    let own : Part = record { locals = 0; owned = 0; monitor = None; depth = 0; last = i.End; results = 0; level = 0; limit = p.rank; stays = λ n. 0 } in
    finds_free e ps s1 c ch own (owned_of (slice_get s1.owned c.place)) (starts_keep e ps image_fits script t s fits) (omega (arith, rank)) m monitor there low (ap (λ (x : Job). x.inside) same_job ∙ outside)
