-- The queues hold those who wait.
use Rattle.std.proofs.Common.{◌≡◌, ◌<◌, ◌+◌, ◌*◌, ◌⊎◌, ◌++◌, inl, inr, ℕ, zero, suc, List, [], ◌∷◌, Option, Some, None, length, map, arith, refl, ap, sym, subst, ◌∙◌, true, false, Bool}
use Rattle.std.specs.Prelude.{slice_get, slice_set, cond, nat_eq}
use Rattle.std.proofs.lemmas.Bool.{ne_eqb, cases_eq}
use Rattle.std.proofs.lemmas.Bool.Decides.{nat_tests}
use Rattle.std.proofs.lemmas.Option.{slice_get_within}
use Rattle.base.proofs.Lists.{get_set, get_other}
use Rattle.base.proofs.Numbers.{itself}
use Rattle.base.specs.declared.event.Act.TheVariants as act
use Rattle.machine_semantics.specs.Image.{Image, Process, Script}
use Rattle.machine_semantics.specs.State.{Job, Thread, Idle, Ready, Waiting, State}
use Rattle.machine_semantics.specs.Effect.{Outcome, Goes, Does, Signals, Broadcasts, Waits, Raises, Ends, Stuck}
use Rattle.machine_semantics.specs.Starts.{unchanged, told, released, release, release_thread, time_out, raised, without, queue_of, starts}
use Rattle.machine_semantics.specs.Tick.{Candidate, least, pick, woken, wake, wake_all, first, rest, wake_first, settle, outcome, owned_of, run_thread, run_picked, tick}
use Rattle.machine_semantics.specs.Run.{at_start, state_at}
use Rattle.machine_semantics.specs.Walk.{Where, WalkCost}
use Rattle.machine_semantics.specs.Safe.{Parts, ImageFits, TickFits}
use Rattle.machine_semantics.specs.Whole.{ThreadFits, StateFits}
use Rattle.machine_semantics.specs.Queues.{times, waits_on, QueuesFit, AreQueued, TickKeepsQueues, RunKeepsQueues}
use Rattle.machine_safety.proofs.Picked.{ChosenOf, chosen}
use Rattle.machine_safety.proofs.Starting.{starts_pass, starts_keep}
use Rattle.machine_safety.proofs.Settling.{outcome_fits}
use Rattle.machine_safety.proofs.Running.{state_fits}

-- ---- queues

queue_other : (qs : List (List ℕ)) (c d : ℕ) (q : List ℕ) → (c ≡ d → ⊥) → queue_of (slice_set qs c q) d ≡ queue_of qs d
queue_other [] c d q differ = refl
queue_other (p ∷ ps) zero zero q differ = absurd (differ refl)
queue_other (p ∷ ps) zero (suc d) q differ = refl
queue_other (p ∷ ps) (suc c) zero q differ = refl
queue_other (p ∷ ps) (suc c) (suc d) q differ = queue_other ps c d q (λ same. differ (ap suc same))

queue_here : (qs : List (List ℕ)) (c : ℕ) (q : List ℕ) → c < length qs → queue_of (slice_set qs c q) c ≡ q
queue_here [] c q there = absurd (omega arith)
queue_here (p ∷ ps) zero q there = refl
queue_here (p ∷ ps) (suc c) q there = queue_here ps c q (omega arith)

queue_same : (qs : List (List ℕ)) (c d : ℕ) → queue_of (slice_set qs c (queue_of qs c)) d ≡ queue_of qs d
queue_same [] c d = refl
queue_same (p ∷ ps) zero zero = refl
queue_same (p ∷ ps) zero (suc d) = refl
queue_same (p ∷ ps) (suc c) zero = refl
queue_same (p ∷ ps) (suc c) (suc d) = queue_same ps c d

-- a queue that somebody stands in is there
queue_there : (qs : List (List ℕ)) (c k : ℕ) → 0 < times k (queue_of qs c) → c < length qs
queue_there [] c k some = absurd (omega arith)
queue_there (p ∷ ps) zero k some = omega arith
queue_there (p ∷ ps) (suc c) k some = omega (arith, queue_there ps c k some)

set_twice : (qs : List (List ℕ)) (c : ℕ) (p q : List ℕ) → slice_set (slice_set qs c p) c q ≡ slice_set qs c q
set_twice [] c p q = refl
set_twice (r ∷ rs) zero p q = refl
set_twice (r ∷ rs) (suc c) p q = ap (λ (xs : List (List ℕ)). r ∷ xs) (set_twice rs c p q)

-- ---- how often a process stands in a queue

times_past : (i j : ℕ) (js : List ℕ) → (j ≡ i → ⊥) → times i (j ∷ js) ≡ times i js
times_past i j js differ = ap (λ (b : Bool). cond b (suc (times i js)) (times i js)) (ne_eqb j i differ)

pub times_front : (k : ℕ) (js : List ℕ) → times k (k ∷ js) ≡ suc (times k js)
times_front k js = ap (λ (b : Bool). cond b (suc (times k js)) (times k js)) (itself k)

times_joined : (i k : ℕ) (js : List ℕ) → (k ≡ i → ⊥) → times i (js ++ k ∷ []) ≡ times i js
times_joined i k [] differ = times_past i k [] differ
times_joined i k (j ∷ js) differ = ap (λ (n : ℕ). cond (nat_eq j i) (suc n) n) (times_joined i k js differ)

times_join : (k : ℕ) (js : List ℕ) → times k (js ++ k ∷ []) ≡ suc (times k js)
times_join k [] = times_front k []
times_join k (j ∷ js) = by (nat_eq j k) (times_join k js) where
  by : (b : Bool) → times k (js ++ k ∷ []) ≡ suc (times k js) → cond b (suc (times k (js ++ k ∷ []))) (times k (js ++ k ∷ [])) ≡ suc (cond b (suc (times k js)) (times k js))
  by true h = ap suc h
  by false h = h

without_other : (i k : ℕ) (js : List ℕ) → (k ≡ i → ⊥) → times i (without k js) ≡ times i js
without_other i k [] differ = refl
without_other i k (j ∷ js) differ = by (nat_eq j k) refl (without_other i k js differ) where
  by : (b : Bool) → nat_eq j k ≡ b → times i (without k js) ≡ times i js → times i (cond b (without k js) (j ∷ without k js)) ≡ times i (j ∷ js)
  by true is h = h ∙ sym (times_past i j js (λ same. differ (let at_k : j ≡ k = grind (arith, nat_tests, is) in sym at_k ∙ same)))
  by false is h = ap (λ (n : ℕ). cond (nat_eq j i) (suc n) n) h

pub without_itself : (k : ℕ) (js : List ℕ) → times k (without k js) ≡ 0
without_itself k [] = refl
without_itself k (j ∷ js) = by (nat_eq j k) refl (without_itself k js) where
  by : (b : Bool) → nat_eq j k ≡ b → times k (without k js) ≡ 0 → times k (cond b (without k js) (j ∷ without k js)) ≡ 0
  by true is h = h
  by false is h = ap (λ (b : Bool). cond b (suc (times k (without k js))) (times k (without k js))) is ∙ h

-- ---- one process changes

-- with the queue that it joins or leaves
change : (ts : List Thread) (qs : List (List ℕ)) (k c : ℕ) (old new : Thread) (q : List ℕ) → QueuesFit ts qs → slice_get ts k ≡ Some old → c < length qs
    → ((i : ℕ) → (k ≡ i → ⊥) → times i q ≡ times i (queue_of qs c)) → times k q ≡ waits_on c (Some new) → ((d : ℕ) → (c ≡ d → ⊥) → waits_on d (Some old) ≡ waits_on d (Some new))
    → QueuesFit (slice_set ts k new) (slice_set qs c q)
change ts qs k c old new q fits at there others here elsewhere d i = elim (cases_eq c d) [ inl same ↦ at_c same | inr differ ↦ past_c differ ] where
  process : ((k ≡ i) × (slice_get (slice_set ts k new) i ≡ Some new)) ⊎ ((k ≡ i → ⊥) × (slice_get (slice_set ts k new) i ≡ slice_get ts i))
  process = elim (cases_eq k i) [
    | inl same ↦ inl (same, subst (λ (x : ℕ). slice_get (slice_set ts k new) x ≡ Some new) same (get_set ts k new old at))
    | inr differ ↦ inr (differ, get_other ts k i new differ)
  ]

  at_c : c ≡ d → times i (queue_of (slice_set qs c q) d) ≡ waits_on d (slice_get (slice_set ts k new) i)
  at_c same =
      subst (λ (x : ℕ). times i (queue_of (slice_set qs c q) x) ≡ waits_on x (slice_get (slice_set ts k new) i)) same
      (ap (λ (x : List ℕ). times i x) (queue_here qs c q there)
      ∙ elim process [
        | inl is ↦ subst (λ (x : ℕ). times x q ≡ waits_on c (Some new)) is.0 here ∙ ap (λ (x : Option Thread). waits_on c x) (sym is.1)
        | inr past ↦ others i past.0 ∙ fits c i ∙ ap (λ (x : Option Thread). waits_on c x) (sym past.1)
      ])

  past_c : (c ≡ d → ⊥) → times i (queue_of (slice_set qs c q) d) ≡ waits_on d (slice_get (slice_set ts k new) i)
  past_c differ =
      ap (λ (x : List ℕ). times i x) (queue_other qs c d q differ) ∙ fits d i
      ∙ elim process [
        | inl is ↦ ap (λ (x : Option Thread). waits_on d x) (ap (λ (x : ℕ). slice_get ts x) (sym is.0) ∙ at) ∙ elsewhere d differ ∙ ap (λ (x : Option Thread). waits_on d x) (sym is.1)
        | inr past ↦ ap (λ (x : Option Thread). waits_on d x) (sym past.1)
      ]

-- which waits before and after it on the same condition, or on none
same_waits : (ts : List Thread) (qs : List (List ℕ)) (k : ℕ) (old new : Thread) → QueuesFit ts qs → slice_get ts k ≡ Some old → ((d : ℕ) → waits_on d (Some old) ≡ waits_on d (Some new)) → QueuesFit (slice_set ts k new) qs
same_waits ts qs k old new fits at same d i =
    fits d i
    ∙ elim (cases_eq k i) [
      | inl is ↦
          ap (λ (x : Option Thread). waits_on d x) (ap (λ (x : ℕ). slice_get ts x) (sym is) ∙ at) ∙ same d
          ∙ ap (λ (x : Option Thread). waits_on d x) (sym (subst (λ (x : ℕ). slice_get (slice_set ts k new) x ≡ Some new) is (get_set ts k new old at)))
      | inr differ ↦ ap (λ (x : Option Thread). waits_on d x) (sym (get_other ts k i new differ))
    ]

-- a queue is set to what it is
set_nothing : (ts : List Thread) (qs : List (List ℕ)) (c : ℕ) (q : List ℕ) → QueuesFit ts qs → queue_of qs c ≡ q → QueuesFit ts (slice_set qs c q)
set_nothing ts qs c q fits is d i =
    ap (λ (x : List ℕ). times i (queue_of (slice_set qs c x) d)) (sym is) ∙ ap (λ (x : List ℕ). times i x) (queue_same qs c d) ∙ fits d i

-- ---- processes are taken out of a queue

-- who stands in the queue of c waits on c, and stands there once
waiting_first : (c : ℕ) (th : Option Thread) (n : ℕ) → suc n ≡ waits_on c th
    → (due number : ℕ) × (job : Job) × (th ≡ Some (Waiting c due number job)) × (n ≡ 0)
waiting_first c None n is = absurd (omega (arith, is))
waiting_first c (Some Idle) n is = absurd (omega (arith, is))
waiting_first c (Some (Ready job)) n is = absurd (omega (arith, is))
waiting_first c (Some (Waiting d due number job)) n is = by (nat_eq d c) refl is where
  by : (b : Bool) → nat_eq d c ≡ b → suc n ≡ cond b 1 0 → (due' number' : ℕ) × (job' : Job) × (Some (Waiting d due number job) ≡ Some (Waiting c due' number' job')) × (n ≡ 0)
  by true same one = let at_c : d ≡ c = grind (arith, nat_tests, same) in (due, number, job, ap (λ (x : ℕ). Some (Waiting x due number job)) at_c, omega (arith, one))
  by false same none = absurd (omega (arith, none))

-- a process that waits on c waits on no other condition
only_there : (c d due number : ℕ) (job new : Job) → (c ≡ d → ⊥) → waits_on d (Some (Waiting c due number job)) ≡ waits_on d (Some (Ready new))
only_there c d due number job new differ = ap (λ (b : Bool). cond b 1 0) (ne_eqb c d differ)

wake_once : (image : Image) (ts : List Thread) (qs : List (List ℕ)) (c j : ℕ) (js : List ℕ) → QueuesFit ts qs → queue_of qs c ≡ j ∷ js → QueuesFit (wake image j ts) (slice_set qs c js)
wake_once image ts qs c j js fits is = by (waiting_first c (slice_get ts j) (times j js) once) where
  once : suc (times j js) ≡ waits_on c (slice_get ts j)
  once = sym (times_front j js) ∙ ap (λ (x : List ℕ). times j x) (sym is) ∙ fits c j

  there : c < length qs
  there = queue_there qs c j (omega (arith, ap (λ (x : List ℕ). times j x) is, times_front j js))

  by : (due number : ℕ) × (job : Job) × (slice_get ts j ≡ Some (Waiting c due number job)) × (times j js ≡ 0) → QueuesFit (slice_set ts j (woken image (slice_get ts j))) (slice_set qs c js)
  by (due, number, job, at, none) =
      subst (λ (x : Option Thread). QueuesFit (slice_set ts j (woken image x)) (slice_set qs c js)) (sym at)
      (change ts qs j c (Waiting c due number job) (woken image (Some (Waiting c due number job))) js fits at there
      (λ i differ. sym (times_past i j js differ) ∙ ap (λ (x : List ℕ). times i x) (sym is)) none (λ d differ. only_there c d due number job (record job { dispatch_ticks = 2 * image.over }) differ))

wake_whole : (image : Image) (js : List ℕ) (ts : List Thread) (qs : List (List ℕ)) (c : ℕ) → QueuesFit ts qs → queue_of qs c ≡ js → QueuesFit (wake_all image js ts) (slice_set qs c [])
wake_whole image [] ts qs c fits is = set_nothing ts qs c [] fits is
wake_whole image (j ∷ js) ts qs c fits is =
    let there : c < length qs = queue_there qs c j (omega (arith, ap (λ (x : List ℕ). times j x) is, times_front j js)) in
    subst (λ (x : List (List ℕ)). QueuesFit (wake_all image js (wake image j ts)) x) (set_twice qs c js [])
    (wake_whole image js (wake image j ts) (slice_set qs c js) c (wake_once image ts qs c j js fits is) (queue_here qs c js there))

signalled : (image : Image) (q : List ℕ) (ts : List Thread) (qs : List (List ℕ)) (c : ℕ) → QueuesFit ts qs → queue_of qs c ≡ q → QueuesFit (wake_first image (first q) ts) (slice_set qs c (rest q))
signalled image [] ts qs c fits is = set_nothing ts qs c [] fits is
signalled image (j ∷ js) ts qs c fits is = wake_once image ts qs c j js fits is

-- ---- start events

module _ (e : Where) (ps : ℕ → Parts) (image_fits : ImageFits e ps) where
  release_queues : (t k : ℕ) (p : Process) (s : State) → AreQueued s → slice_get e.image.processes k ≡ Some p → AreQueued (release e.image t k p s).state
  release_queues t k p s fits process = by (slice_get s.threads k) refl where
    by : (o : Option Thread) → slice_get s.threads k ≡ o → AreQueued (release_thread e.image t k p s o).state
    by (Some Idle) at = same_waits s.threads s.queues k Idle (Ready (released e.image p)) fits at (λ d. refl)
    by (Some (Ready job)) at = fits
    by (Some (Waiting c due number job)) at = fits
    by None at = fits

  time_out_queues : (t k : ℕ) (p : Process) (s : State) → AreQueued s → slice_get e.image.processes k ≡ Some p → AreQueued (time_out e.image t k p s (slice_get s.threads k)).state
  time_out_queues t k p s fits process = by (slice_get s.threads k) refl where
    by : (o : Option Thread) → slice_get s.threads k ≡ o → AreQueued (time_out e.image t k p s o).state
    by (Some Idle) at = fits
    by (Some (Ready job)) at = fits
    by None at = fits
    by (Some (Waiting c due number job)) at = by_due (nat_eq due t) where
      new : Job
      new = record (raised p number job) { dispatch_ticks = 2 * e.image.over }

      queues : List (List ℕ)
      queues = slice_set s.queues c (without k (queue_of s.queues c))

      once : times k (queue_of s.queues c) ≡ 1
      once = fits c k ∙ ap (λ (x : Option Thread). waits_on c x) at ∙ ap (λ (b : Bool). cond b 1 0) (itself c)

      by_due : (d : Bool) → AreQueued (cond d (told t k (act.TimeOut c number) (record s { queues = queues }) (Ready new)) (unchanged s)).state
      by_due false = fits
      by_due true = change s.threads s.queues k c (Waiting c due number job) (Ready new) (without k (queue_of s.queues c)) fits at (queue_there s.queues c k (omega (arith, once)))
          (λ i differ. without_other i k (queue_of s.queues c) differ) (without_itself k (queue_of s.queues c)) (λ d differ. only_there c d due number job new differ)

  starts_queues : (script : Script) (t : ℕ) (s : State) → AreQueued s → AreQueued (starts e.image script t s).state
  starts_queues script t s fits = starts_pass e AreQueued release_queues time_out_queues (λ d v u now. now) script t s fits

  -- ---- the tick of the process that runs

  settle_queues : (t k : ℕ) (p : Process) (job : Job) (s : State) (left : WalkCost) (out : Outcome) → slice_get s.threads k ≡ Some (Ready job) → length s.queues ≡ length e.image.conditions
      → TickFits e p (ps k) job (owned_of (slice_get s.owned k)) s.shared left out → AreQueued s → AreQueued (settle e.image t k p job s out).state
  settle_queues t k p job s left out at sized tick_fits fits = by out tick_fits where
    nowhere : (c : ℕ) → times k (queue_of s.queues c) ≡ 0
    nowhere c = fits c k ∙ ap (λ (x : Option Thread). waits_on c x) at

    again : (new : Job) → QueuesFit (slice_set s.threads k (Ready new)) s.queues
    again new = same_waits s.threads s.queues k (Ready job) (Ready new) fits at (λ d. refl)

    by : (out : Outcome) → TickFits e p (ps k) job (owned_of (slice_get s.owned k)) s.shared left out → AreQueued (settle e.image t k p job s out).state
    by (Goes q) g = again q.job
    by (Does a q) g = again q.job
    by (Signals c q) g = signalled e.image (queue_of s.queues c) (slice_set s.threads k (Ready q.job)) s.queues c (again q.job) refl
    by (Broadcasts c q) g = wake_whole e.image (queue_of s.queues c) (slice_set s.threads k (Ready q.job)) s.queues c (again q.job) refl
    by (Waits c limit number q) g = set_over where
      there : c < length s.queues
      there = omega (arith, sized, slice_get_within e.image.conditions c g.monitor g.of)

      set_over : QueuesFit (slice_set s.threads k (Waiting c (t + limit + 1) number q.job)) (slice_set s.queues c (queue_of s.queues c ++ k ∷ []))
      set_over = change s.threads s.queues k c (Ready job) (Waiting c (t + limit + 1) number q.job) (queue_of s.queues c ++ k ∷ []) fits at there
          (λ i differ. times_joined i k (queue_of s.queues c) differ) (times_join k (queue_of s.queues c) ∙ ap suc (nowhere c) ∙ sym (ap (λ (b : Bool). cond b 1 0) (itself c)))
          (λ d differ. sym (only_there c d (t + limit + 1) number q.job job differ))
    by (Raises number) g = again (raised p number job)
    by Ends g = same_waits s.threads s.queues k (Ready job) Idle fits at (λ d. refl)
    by Stuck g = absurd g

  run_queues : (t : ℕ) (s : State) → StateFits e ps s → AreQueued s → AreQueued (run_picked e.image t s (pick e.image s.threads)).state
  unfolding pick
  run_queues t s state_fits fits = by_pick (least e.image 0 e.image.processes s.threads) (chosen e.image 0 e.image.processes s.threads) where
    by_pick : (o : Option Candidate) → ChosenOf e.image 0 e.image.processes s.threads o → AreQueued (run_picked e.image t s o).state
    by_pick None none = fits
    by_pick (Some c) ch =
        let at : ch.index ≡ c.place = omega (arith, ch.place) in
        let process : slice_get e.image.processes c.place ≡ Some ch.p = ap (λ (x : ℕ). slice_get e.image.processes x) (sym at) ∙ ch.process in
        let ready : slice_get s.threads c.place ≡ Some (Ready ch.job) = ap (λ (x : ℕ). slice_get s.threads x) (sym at) ∙ ch.ready in
        let f : ThreadFits e ch.p (ps c.place) (Ready ch.job) (owned_of (slice_get s.owned c.place)) s.shared = state_fits.threads c.place ch.p (Ready ch.job) process ready in
        let o : (l : WalkCost) × TickFits e ch.p (ps c.place) ch.job (owned_of (slice_get s.owned c.place)) s.shared l (outcome e.image s ch.job (owned_of (slice_get s.owned c.place)) ch.job.dispatch_ticks) =
        outcome_fits e ps image_fits s c ch c.place refl process state_fits f.0 f.1 ch.job.dispatch_ticks refl in
        subst (λ (x : Option Process). AreQueued (run_thread e.image t c.place s x (slice_get s.threads c.place)).state) (sym process)
        (subst (λ (x : Option Thread). AreQueued (run_thread e.image t c.place s (Some ch.p) x).state) (sym ready)
        (settle_queues t c.place ch.p ch.job s o.0 (outcome e.image s ch.job (owned_of (slice_get s.owned c.place)) ch.job.dispatch_ticks) ready state_fits.sized.queues o.1 fits))

pub tick_keeps_queues : TickKeepsQueues
unfolding tick
tick_keeps_queues e ps script t s image_fits state_fits fits =
    let after : AreQueued (starts e.image script t s).state = starts_queues e ps image_fits script t s fits in
    (after, run_queues e ps image_fits t (starts e.image script t s).state (starts_keep e ps image_fits script t s state_fits) after)

-- ---- runs

no_queue : (cs : List ℕ) (c : ℕ) → queue_of (map (λ (d : ℕ). []) cs) c ≡ []
no_queue [] c = refl
no_queue (d ∷ ds) zero = refl
no_queue (d ∷ ds) (suc c) = no_queue ds c

nobody_waits : (qs : List Process) (c k : ℕ) → waits_on c (slice_get (map (λ (p : Process). Idle) qs) k) ≡ 0
nobody_waits [] c k = refl
nobody_waits (q ∷ qs) c zero = refl
nobody_waits (q ∷ qs) c (suc k) = nobody_waits qs c k

pub run_keeps_queues : RunKeepsQueues
unfolding state_at at_start
run_keeps_queues e ps script zero fits = λ c k. ap (λ (q : List ℕ). times k q) (no_queue e.image.conditions c) ∙ sym (nobody_waits e.image.processes c k)
run_keeps_queues e ps script (suc t) fits = (tick_keeps_queues e ps script t (state_at e.image script t) fits (state_fits e ps script t fits) (run_keeps_queues e ps script t fits)).1
