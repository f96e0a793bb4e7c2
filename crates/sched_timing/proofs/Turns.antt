-- What a tick does to the thread of one process, once the start events have come.
use Rattle.std.proofs.Common.{◌≡◌, ◌+◌, ◌⊎◌, inl, inr, ℕ, zero, suc, List, [], ◌∷◌, Option, Some, None, arith, refl, ap, sym, subst, ◌∙◌, true, false}
use Rattle.std.specs.Prelude.{slice_get, slice_set, ℤ}
use Rattle.std.proofs.lemmas.Bool.Decides.{nat_tests}
use Rattle.base.proofs.Lists.{get_set}
use Rattle.base.specs.declared.event.Event.{Event}
use Rattle.base.specs.declared.event.Act.TheVariants as act
use Rattle.machine_semantics.specs.Image.{Process, Script}
use Rattle.machine_semantics.specs.State.{Job, Thread, Idle, Ready, Waiting, State}
use Rattle.machine_semantics.specs.Effect.{Own, Outcome, Goes, Does, Signals, Broadcasts, Waits, Raises, Ends, Stuck}
use Rattle.machine_semantics.specs.Starts.{raised, queue_of, starts}
use Rattle.machine_semantics.specs.Tick.{Candidate, least, pick, first, settle, outcome, owned_of, run_thread, run_picked, tick}
use Rattle.machine_semantics.specs.Walk.{Where, WalkCost}
use Rattle.machine_semantics.specs.Safe.{Parts, ImageFits, ReadyFits, Ticks, TickFits, part_of}
use Rattle.machine_semantics.specs.Whole.{ThreadFits, StateFits}
use Rattle.machine_semantics.specs.Work.{is_chosen}
use Rattle.machine_safety.proofs.Ticking.{tick_is_safe}
use Rattle.machine_safety.proofs.Picked.{Chosen, ChosenOf, chosen, finds_free}
use Rattle.machine_safety.proofs.Starting.{starts_keep}
use Rattle.machine_safety.proofs.Settling.{own_limit}
use Rattle.machine_safety.proofs.Staying.{wake_first_ready, wake_all_ready}
use Rattle.machine_safety.proofs.Suspending.{IsWoken, run_left}

-- the thread of the process that runs, and the events, after its turn: it is ready in its monitor, outside, or has entered one; or it waits;
-- or it has ended, which is told
abbrev pub Turn : (t k : ℕ) → Job → Option Thread → List Event → Type 0
Turn t k job (Some (Ready new)) es = (new.inside ≡ job.inside) ⊎ ((new.inside ≡ None) ⊎ (job.inside ≡ None))
Turn t k job (Some (Waiting c due number new)) es = Unit {0}
Turn t k job (Some Idle) es = es ≡ record { tick = t; proc = k; act = act.End } ∷ []
Turn t k job None es = ⊥

module _ (e : Where) (ps : ℕ → Parts) (image_fits : ImageFits e ps) where
  settle_turn : (t : ℕ) (s : State) (k : ℕ) (p : Process) (job : Job) (left : WalkCost) (out : Outcome) → slice_get s.threads k ≡ Some (Ready job) → TickFits e p (ps k) job (owned_of (slice_get s.owned k)) s.shared left out
      → Turn t k job (slice_get (settle e.image t k p job s out).state.threads k) (settle e.image t k p job s out).events
  settle_turn t s k p job left out at fits = by out fits where
    own : List ℤ
    own = owned_of (slice_get s.owned k)

    put : (q : Own) (es : List Event) (ts : List Thread) → Ticks e p (ps k) (part_of (ps k) job.handling) job.inside job.dispatch_ticks own s.shared left q → slice_get ts k ≡ Some (Ready q.job) → Turn t k job (slice_get ts k) es
    put q es ts g now = subst (λ (x : Option Thread). Turn t k job x es) (sym now) g.inside

    here : (new : Thread) (es : List Event) → Turn t k job (Some new) es → Turn t k job (slice_get (slice_set s.threads k new) k) es
    here new es is = subst (λ (x : Option Thread). Turn t k job x es) (sym (get_set s.threads k new (Ready job) at)) is

    by : (out : Outcome) → TickFits e p (ps k) job own s.shared left out → Turn t k job (slice_get (settle e.image t k p job s out).state.threads k) (settle e.image t k p job s out).events
    by (Goes q) g = put q [] (slice_set s.threads k (Ready q.job)) g (get_set s.threads k (Ready q.job) (Ready job) at)
    by (Does a q) g = put q (settle e.image t k p job s (Does a q)).events (slice_set s.threads k (Ready q.job)) g (get_set s.threads k (Ready q.job) (Ready job) at)
    by (Signals c q) g = put q (settle e.image t k p job s (Signals c q)).events (settle e.image t k p job s (Signals c q)).state.threads g
        (wake_first_ready e.image (first (queue_of s.queues c)) k (slice_set s.threads k (Ready q.job)) q.job (get_set s.threads k (Ready q.job) (Ready job) at))
    by (Broadcasts c q) g = put q (settle e.image t k p job s (Broadcasts c q)).events (settle e.image t k p job s (Broadcasts c q)).state.threads g
        (wake_all_ready e.image (queue_of s.queues c) k (slice_set s.threads k (Ready q.job)) q.job (get_set s.threads k (Ready q.job) (Ready job) at))
    by (Waits c limit number q) g = here (Waiting c (t + limit + 1) number q.job) (settle e.image t k p job s (Waits c limit number q)).events tt
    by (Raises number) g = here (Ready (raised p number job)) (settle e.image t k p job s (Raises number)).events (inr (inl refl))
    by Ends g = here Idle (settle e.image t k p job s Ends).events refl
    by Stuck g = absurd g

  -- the process that is picked is ready, and takes its turn
  pub record Turned (t k : ℕ) (s u : State) (es : List Event) : Type 0 where
    pub p : Process
    pub job : Job
    pub process : slice_get e.image.processes k ≡ Some p
    pub ready : slice_get s.threads k ≡ Some (Ready job)
    pub turn : Turn t k job (slice_get u.threads k) es

  pub picked_turn : (t : ℕ) (s : State) (k : ℕ) (c : Candidate) → Chosen e.image 0 e.image.processes s.threads c → c.place ≡ k → StateFits e ps s
      → Turned t k s (run_picked e.image t s (Some c)).state (run_picked e.image t s (Some c)).events
  picked_turn t s k c ch same fits =
      let index : ch.index ≡ k = omega (arith, ch.place, same) in
      let process : slice_get e.image.processes k ≡ Some ch.p = ap (λ (x : ℕ). slice_get e.image.processes x) (sym index) ∙ ch.process in
      let at : slice_get s.threads k ≡ Some (Ready ch.job) = ap (λ (x : ℕ). slice_get s.threads x) (sym index) ∙ ch.ready in
      let f : ThreadFits e ch.p (ps k) (Ready ch.job) (owned_of (slice_get s.owned k)) s.shared = fits.threads k ch.p (Ready ch.job) process at in
      record {
        p = ch.p;
        job = ch.job;
        process = process;
        ready = at;
        turn =
            subst (λ (j : ℕ). Turn t k ch.job (slice_get (run_thread e.image t j s (slice_get e.image.processes j) (slice_get s.threads j)).state.threads k) (run_thread e.image t j s (slice_get e.image.processes j) (slice_get s.threads j)).events) (sym same)
            (subst (λ (x : Option Process). Turn t k ch.job (slice_get (run_thread e.image t k s x (slice_get s.threads k)).state.threads k) (run_thread e.image t k s x (slice_get s.threads k)).events) (sym process)
            (subst (λ (x : Option Thread). Turn t k ch.job (slice_get (run_thread e.image t k s (Some ch.p) x).state.threads k) (run_thread e.image t k s (Some ch.p) x).events) (sym at)
            (by_burn at f.0 f.1 ch.job.dispatch_ticks refl)));
      } where
        own : List ℤ
        own = owned_of (slice_get s.owned k)

        by_burn : slice_get s.threads k ≡ Some (Ready ch.job) → (left : WalkCost) → ReadyFits e ch.p (ps k) ch.job own s.shared left → (b : ℕ) → ch.job.dispatch_ticks ≡ b
            → Turn t k ch.job (slice_get (settle e.image t k ch.p ch.job s (outcome e.image s ch.job own b)).state.threads k) (settle e.image t k ch.p ch.job s (outcome e.image s ch.job own b)).events
        by_burn at left has zero is =
            let index : ch.index ≡ k = omega (arith, ch.place, same) in
            let process : slice_get e.image.processes k ≡ Some ch.p = ap (λ (x : ℕ). slice_get e.image.processes x) (sym index) ∙ ch.process in
            settle_turn t s k ch.p ch.job left (outcome e.image s ch.job own zero) at
            (tick_is_safe e (ps k) s ch.p ch.job own left image_fits.routines (image_fits.processes k ch.p process) fits.sized has
            (finds_free e ps s c ch (part_of (ps k) ch.job.handling) own fits (own_limit e ps image_fits ch.p (ps k) ch.job.handling (image_fits.processes k ch.p process))))
        by_burn at left has (suc b) is =
            subst (λ (x : Option Thread). Turn t k ch.job x (settle e.image t k ch.p ch.job s (outcome e.image s ch.job own (suc b))).events) (sym (get_set s.threads k (Ready (record (ch.job) { dispatch_ticks = b })) (Ready ch.job) at)) (inl refl)

  -- process k takes its turn where it runs, and is as it was, or taken out of a queue, where it does not
  pub record Passes (t k : ℕ) (s u : State) (es : List Event) (x : Option Candidate) : Type 0 where
    pub runs_it : is_chosen k x ≡ true → Turned t k s u es
    pub left : (th : Thread) → is_chosen k x ≡ false → slice_get s.threads k ≡ Some th → (new : Thread) × (slice_get u.threads k ≡ Some new) × IsWoken e.image th new

  pub passes_pick : (t k : ℕ) (s : State) → StateFits e ps s → (x : Option Candidate) → ChosenOf e.image 0 e.image.processes s.threads x → Passes t k s (run_picked e.image t s x).state (run_picked e.image t s x).events x
  passes_pick t k s fits None none = record { runs_it = λ is. absurd cc; left = λ th is at. (th, at, inl refl) }
  passes_pick t k s fits (Some c) ch = record {
    runs_it = λ is. picked_turn t s k c ch (grind (arith, nat_tests, is)) fits;
    left = λ th is at. (run_left e.image t s c.place k (slice_get e.image.processes c.place) (slice_get s.threads c.place) th (λ same. absurd (grind (arith, nat_tests, is, same))) at).thread;
  }

  pub passes : (script : Script) (t k : ℕ) (s : State) → StateFits e ps s
      → Passes t k (starts e.image script t s).state (tick e.image script t s).state (run_picked e.image t (starts e.image script t s).state (pick e.image (starts e.image script t s).state.threads)).events (pick e.image (starts e.image script t s).state.threads)
  unfolding tick pick
  passes script t k s fits =
      let s1 : State = (starts e.image script t s).state in
      passes_pick t k s1 (starts_keep e ps image_fits script t s fits) (least e.image 0 e.image.processes s1.threads) (chosen e.image 0 e.image.processes s1.threads)
