-- The tick of the process that runs keeps the state so, and is not stuck.
use Rattle.std.proofs.Common.{◌≡◌, ◌≤◌, ◌<◌, ◌+◌, ◌*◌, ◌⊎◌, ◌++◌, inl, inr, ℕ, zero, suc, List, [], ◌∷◌, Option, Some, None, length, arith, refl, ap, sym, subst, ◌∙◌, true, false, Bool, length-set}
use Rattle.std.specs.Prelude.{ℤ, slice_get, slice_set}
use Rattle.base.proofs.Lists.{set_same}
use Rattle.machine_semantics.specs.Image.{Process}
use Rattle.machine_semantics.specs.State.{Job, Thread, Idle, Ready, Waiting, State}
use Rattle.machine_semantics.specs.Effect.{Own, Outcome, Goes, Does, Signals, Broadcasts, Waits, Raises, Ends, Stuck}
use Rattle.machine_semantics.specs.Starts.{starts, raised, queue_of}
use Rattle.machine_semantics.specs.Tick.{Candidate, active_rank, outside, least, pick, woken, wake, wake_all, first, rest, wake_first, settle, outcome, owned_of, run_thread, run_picked, tick}
use Rattle.machine_semantics.specs.Walk.{Where, WalkCost}
use Rattle.machine_semantics.specs.Safe.{Parts, ProcessFits, ImageFits, ReadyFits, WaitingFits, Ticks, TickFits, part_of}
use Rattle.machine_semantics.specs.Whole.{ThreadFits, ceiling_of, StateFits, EveryTickIsSafe}
use Rattle.machine_safety.proofs.Ticking.{some_ticks, tick_is_safe, comes_at}
use Rattle.machine_safety.proofs.Whole.{IsClear, state_set, thread_set}
use Rattle.machine_safety.proofs.Picked.{Chosen, ChosenOf, chosen, finds_free, process_of}
use Rattle.machine_safety.proofs.Starting.{ready_burn, has_words, starts_keep}

-- ---- processes that are taken out of a queue

pub set_past : {X : Type 0} (xs : List X) (k : ℕ) (x : X) → slice_get xs k ≡ None → slice_set xs k x ≡ xs
set_past [] k x at = refl
set_past (y ∷ ys) zero x at = absurd cc
set_past (y ∷ ys) (suc k) x at = ap (λ (zs : List _). y ∷ zs) (set_past ys k x at)

-- a waiting process that is woken fits its trees
pub woken_fits : (e : Where) (p : Process) (ps : Parts) (job : Job) (b : ℕ) (owned shared : List ℤ) (left : WalkCost) → WaitingFits e p ps job owned shared left → ReadyFits e p ps (record job { dispatch_ticks = b }) owned shared left
woken_fits e p ps job b owned shared left w = record {
  cost = w.cost;
  fits = inr (comes_at e (part_of ps job.handling) job job.done b owned owned shared shared w.cost (omega arith) w.fits);
  early = λ instr at. omega (arith, w.fresh, some_ticks instr);
  leave = λ k now. absurd (let none : job.inside ≡ None = w.fits.outside in cc);
  ends = w.ends;
  run = omega (arith, w.run, w.fresh);
  susp = w.susp;
  waits = w.waits;
}

module _ (e : Where) (ps : ℕ → Parts) (image_fits : ImageFits e ps) where
  wake_keeps : (j : ℕ) (s : State) → StateFits e ps s → StateFits e ps (record s { threads = wake e.image j s.threads })
  wake_keeps j s fits = by_thread (slice_get s.threads j) refl where
    by_thread : (o : Option Thread) → slice_get s.threads j ≡ o → StateFits e ps (record s { threads = slice_set s.threads j (woken e.image o) })
    by_thread None at = subst (λ (ts : List Thread). StateFits e ps (record s { threads = ts })) (sym (set_past s.threads j Idle at)) fits
    by_thread (Some Idle) at = subst (λ (ts : List Thread). StateFits e ps (record s { threads = ts })) (sym (set_same s.threads j Idle at)) fits
    by_thread (Some (Ready job)) at = subst (λ (ts : List Thread). StateFits e ps (record s { threads = ts })) (sym (set_same s.threads j (Ready job) at)) fits
    by_thread (Some (Waiting c due n job)) at =
        let q : (p : Process) × (slice_get e.image.processes j ≡ Some p) = process_of e ps s j (Waiting c due n job) fits at in
        let f : ThreadFits e q.0 (ps j) (Waiting c due n job) (owned_of (slice_get s.owned j)) s.shared = fits.threads j q.0 (Waiting c due n job) q.1 at in
        thread_set e ps s j q.0 (Ready (record job { dispatch_ticks = 2 * e.image.over })) s.queues fits q.1 f.1.fits.outside
        (f.0, woken_fits e q.0 (ps j) job (2 * e.image.over) (owned_of (slice_get s.owned j)) s.shared f.0 f.1) refl

  wake_first_keeps : (o : Option ℕ) (s : State) → StateFits e ps s → StateFits e ps (record s { threads = wake_first e.image o s.threads })
  wake_first_keeps None s fits = fits
  wake_first_keeps (Some j) s fits = wake_keeps j s fits

  wake_all_keeps : (js : List ℕ) (s : State) → StateFits e ps s → StateFits e ps (record s { threads = wake_all e.image js s.threads })
  wake_all_keeps [] s fits = fits
  wake_all_keeps (j ∷ js) s fits = wake_all_keeps js (record s { threads = wake e.image j s.threads }) (wake_keeps j s fits)

  -- the process that is picked stays apart from the others
  stays_clear : (s : State) (c : Candidate) (ch : Chosen e.image 0 e.image.processes s.threads c) (k : ℕ) → c.place ≡ k → StateFits e ps s → (new : Job)
      → (new.inside ≡ ch.job.inside) ⊎ ((new.inside ≡ None) ⊎ (ch.job.inside ≡ None)) → IsClear e.image s.threads k ch.p (Ready new)
  stays_clear s c ch k place fits new moved job m same inside j n q differ other = by_case moved where
    same_job : new ≡ job
    same_job = cc

    now : new.inside ≡ Some m
    now = ap (λ (x : Job). x.inside) same_job ∙ inside

    at_k : ch.index ≡ k
    at_k = omega (arith, ch.place, place)

    by_case : (new.inside ≡ ch.job.inside) ⊎ ((new.inside ≡ None) ⊎ (ch.job.inside ≡ None)) → (ch.p.rank < ceiling_of e.image n) ⊎ (q.rank < ceiling_of e.image m)
    by_case (inl stays) =
        fits.apart ch.index j m n ch.p q (λ is. differ (sym is ∙ at_k)) (record { process = ch.process; job = ch.job; ready = ch.ready; inside = sym stays ∙ now }) other
    by_case (inr (inl leaves)) = absurd cc
    by_case (inr (inr was_none)) = inl (ch.free was_none j n q other.job other.process other.ready other.inside)

  -- the state after the outcome of the process that is picked
  pub settle_keeps : (t : ℕ) (s : State) (c : Candidate) (ch : Chosen e.image 0 e.image.processes s.threads c) (k : ℕ) → c.place ≡ k → slice_get e.image.processes k ≡ Some ch.p
      → slice_get s.threads k ≡ Some (Ready ch.job) → StateFits e ps s → (left : WalkCost) (out : Outcome)
      → TickFits e ch.p (ps k) ch.job (owned_of (slice_get s.owned k)) s.shared left out
      → ((settle e.image t k ch.p ch.job s out).stuck ≡ false) × StateFits e ps (settle e.image t k ch.p ch.job s out).state
  settle_keeps t s c ch k place process ready fits left out = by_case out where
    own : List ℤ
    own = owned_of (slice_get s.owned k)

    put : (q : Own) (queues : List (List ℕ)) → Ticks e ch.p (ps k) (part_of (ps k) ch.job.handling) ch.job.inside ch.job.dispatch_ticks own s.shared left q → length queues ≡ length s.queues
        → StateFits e ps (record { threads = slice_set s.threads k (Ready q.job); owned = slice_set s.owned k q.owned; shared = q.shared; queues = queues; devices = s.devices })
    put q queues g same =
        state_set e ps s k ch.p (Ready q.job) q.owned q.shared queues s.devices fits process (stays_clear s c ch k place fits q.job g.inside) g.owned (g.after, g.fits) g.shared same refl

    by_case : (out : Outcome) → TickFits e ch.p (ps k) ch.job own s.shared left out
        → ((settle e.image t k ch.p ch.job s out).stuck ≡ false) × StateFits e ps (settle e.image t k ch.p ch.job s out).state
    by_case (Goes q) g = (refl, put q s.queues g refl)
    by_case (Does a q) g = (refl, put q s.queues g refl)
    by_case (Signals d q) g =
        let queues : List (List ℕ) = slice_set s.queues d (rest (queue_of s.queues d)) in
        let after : State = record { threads = slice_set s.threads k (Ready q.job); owned = slice_set s.owned k q.owned; shared = q.shared; queues = queues; devices = s.devices } in
        (refl, wake_first_keeps (first (queue_of s.queues d)) after (put q queues g (length-set s.queues d (rest (queue_of s.queues d)))))
    by_case (Broadcasts d q) g =
        let queues : List (List ℕ) = slice_set s.queues d [] in
        let after : State = record { threads = slice_set s.threads k (Ready q.job); owned = slice_set s.owned k q.owned; shared = q.shared; queues = queues; devices = s.devices } in
        (refl, wake_all_keeps (queue_of s.queues d) after (put q queues g (length-set s.queues d [])))
    by_case (Waits d limit number q) g = (
      refl,
      state_set e ps s k ch.p (Waiting d (t + limit + 1) number q.job) q.owned q.shared (slice_set s.queues d (queue_of s.queues d ++ k ∷ [])) s.devices fits process
          (λ job m same inside j n r differ other. absurd cc) g.owned (g.after, g.fits) g.shared (length-set s.queues d (queue_of s.queues d ++ k ∷ [])) refl,
    )
    by_case (Raises number) g = (refl, thread_set e ps s k ch.p (Ready (raised ch.p number ch.job)) s.queues fits process refl (g.after, g.fits) refl)
    by_case Ends g = (refl, thread_set e ps s k ch.p Idle s.queues fits process tt (has_words e ch.p (ps k) (Ready ch.job) own s.shared (image_fits.processes k ch.p process) (fits.threads k ch.p (Ready ch.job) process ready)) refl)
    by_case Stuck g = absurd g

  pub own_limit : (p : Process) (qs : Parts) (h : Bool) → ProcessFits e p qs → (part_of qs h).limit ≤ p.rank
  own_limit p qs false f = f.body.limit
  own_limit p qs true f = f.handler.limit

  -- one tick of it: a burn tick, or one of its instruction
  pub outcome_fits : (s : State) (c : Candidate) (ch : Chosen e.image 0 e.image.processes s.threads c) (k : ℕ) → c.place ≡ k → slice_get e.image.processes k ≡ Some ch.p
      → StateFits e ps s → (left : WalkCost) → ReadyFits e ch.p (ps k) ch.job (owned_of (slice_get s.owned k)) s.shared left → (n : ℕ) → ch.job.dispatch_ticks ≡ n
      → (l : WalkCost) × TickFits e ch.p (ps k) ch.job (owned_of (slice_get s.owned k)) s.shared l (outcome e.image s ch.job (owned_of (slice_get s.owned k)) n)
  outcome_fits s c ch k place process fits left ready zero is = (
    left,
    tick_is_safe e (ps k) s ch.p ch.job (owned_of (slice_get s.owned k)) left image_fits.routines (image_fits.processes k ch.p process) fits.sized ready
        (finds_free e ps s c ch (part_of (ps k) ch.job.handling) (owned_of (slice_get s.owned k)) fits (own_limit ch.p (ps k) ch.job.handling (image_fits.processes k ch.p process))),
  )
  outcome_fits s c ch k place process fits left ready (suc n) is = (
    record { run = left.run + 1; susp = left.susp; waits = left.waits; leave = left.leave + 1 },
    record {
      after = left;
      fits = ready_burn e ch.p (ps k) ch.job n (owned_of (slice_get s.owned k)) s.shared left ready;
      less = record { run = omega arith; susp = omega arith; waits = omega arith; leave = omega arith };
      stays = λ m was now. omega arith;
      begins = λ m was now. absurd cc;
      reaches = λ m was now. absurd cc;
      dispatch_ticks = omega (arith, is);
      inside = inl refl;
      owned = refl;
      shared = refl;
    },
  )

  run_keeps : (t : ℕ) (s : State) → StateFits e ps s → ((run_picked e.image t s (pick e.image s.threads)).stuck ≡ false) × StateFits e ps (run_picked e.image t s (pick e.image s.threads)).state
  unfolding pick
  run_keeps t s fits = by_pick (least e.image 0 e.image.processes s.threads) (chosen e.image 0 e.image.processes s.threads) where
    by_pick : (o : Option Candidate) → ChosenOf e.image 0 e.image.processes s.threads o → ((run_picked e.image t s o).stuck ≡ false) × StateFits e ps (run_picked e.image t s o).state
    by_pick None none = (refl, fits)
    by_pick (Some c) ch =
        let at : ch.index ≡ c.place = omega (arith, ch.place) in
        let process : slice_get e.image.processes c.place ≡ Some ch.p = ap (λ (x : ℕ). slice_get e.image.processes x) (sym at) ∙ ch.process in
        let ready : slice_get s.threads c.place ≡ Some (Ready ch.job) = ap (λ (x : ℕ). slice_get s.threads x) (sym at) ∙ ch.ready in
        let f : ThreadFits e ch.p (ps c.place) (Ready ch.job) (owned_of (slice_get s.owned c.place)) s.shared = fits.threads c.place ch.p (Ready ch.job) process ready in
        let o : (l : WalkCost) × TickFits e ch.p (ps c.place) ch.job (owned_of (slice_get s.owned c.place)) s.shared l (outcome e.image s ch.job (owned_of (slice_get s.owned c.place)) ch.job.dispatch_ticks) =
        outcome_fits s c ch c.place refl process fits f.0 f.1 ch.job.dispatch_ticks refl in
        subst (λ (x : Option Process). ((run_thread e.image t c.place s x (slice_get s.threads c.place)).stuck ≡ false) × StateFits e ps (run_thread e.image t c.place s x (slice_get s.threads c.place)).state) (sym process)
        (subst (λ (x : Option Thread). ((run_thread e.image t c.place s (Some ch.p) x).stuck ≡ false) × StateFits e ps (run_thread e.image t c.place s (Some ch.p) x).state) (sym ready)
        (settle_keeps t s c ch c.place refl process ready fits o.0 (outcome e.image s ch.job (owned_of (slice_get s.owned c.place)) ch.job.dispatch_ticks) o.1))

pub every_tick_is_safe : EveryTickIsSafe
unfolding tick
every_tick_is_safe e ps script t s image_fits fits = run_keeps e ps image_fits t (starts e.image script t s).state (starts_keep e ps image_fits script t s fits)
