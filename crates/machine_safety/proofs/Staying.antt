-- How long a process may still run inside its monitor falls.
use Rattle.std.proofs.Common.{◌≡◌, ◌≤◌, ◌+◌, ◌-◌, ◌*◌, inl, inr, ℕ, List, [], ◌∷◌, Option, Some, None, length, arith, refl, ap, sym, subst, ◌∙◌, true, false, Bool}
use Rattle.std.specs.Prelude.{ℤ, slice_get, slice_set, cond, nat_eq}
use Rattle.std.proofs.lemmas.Bool.Decides.{nat_tests}
use Rattle.std.proofs.lemmas.Bool.{cases_eq}
use Rattle.base.proofs.Lists.{get_set, get_other}
use Rattle.base.specs.declared.event.Act.TheVariants as act
use Rattle.machine_semantics.specs.Image.{Image, Process, Script}
use Rattle.machine_semantics.specs.State.{Job, Thread, Idle, Ready, Waiting, State}
use Rattle.machine_semantics.specs.Effect.{Own, Outcome, Goes, Does, Signals, Broadcasts, Waits, Raises, Ends, Stuck}
use Rattle.machine_semantics.specs.Starts.{unchanged, told, released, release, release_thread, time_out, raised, without, queue_of, starts}
use Rattle.machine_semantics.specs.Tick.{Candidate, least, pick, woken, wake, wake_all, first, wake_first, settle, outcome, owned_of, run_thread, run_picked, tick}
use Rattle.machine_semantics.specs.Walk.{Where, WalkCost}
use Rattle.machine_semantics.specs.Safe.{Parts, ImageFits, ReadyFits, Ticks, TickFits, part_of}
use Rattle.machine_semantics.specs.Whole.{StateFits}
use Rattle.machine_semantics.specs.Work.{is_chosen, runs}
use Rattle.machine_semantics.specs.Stays.{StaysIn, StayFalls}
use Rattle.machine_safety.proofs.Ticking.{tick_is_safe}
use Rattle.machine_safety.proofs.Whole.{ready_elsewhere, length_owned}
use Rattle.machine_safety.proofs.Picked.{ChosenOf, chosen, finds_free}
use Rattle.machine_safety.proofs.Starting.{starts_pass, release_keeps, time_out_keeps, device_keeps}
use Rattle.machine_safety.proofs.Settling.{own_limit}

-- a state in which process k has the same thread and as many words
stays_same : (e : Where) (ps : ℕ → Parts) (s u : State) (k m n : ℕ) → StaysIn e ps s k m n → slice_get u.threads k ≡ slice_get s.threads k → length (owned_of (slice_get s.owned k)) ≤ length (owned_of (slice_get u.owned k)) → StaysIn e ps u k m n
stays_same e ps s u k m n o same_thread words = record {
  p = o.p;
  job = o.job;
  left = o.left;
  process = o.process;
  there = same_thread ∙ o.there;
  inside = o.inside;
  no_burn = o.no_burn;
  short = o.short;
  has = ready_elsewhere e o.p (ps k) o.job (owned_of (slice_get s.owned k)) (owned_of (slice_get u.owned k)) s.shared u.shared o.left words o.has;
}

-- a ready process is not changed by another's signal
pub wake_ready : (image : Image) (j k : ℕ) (ts : List Thread) (job : Job) → slice_get ts k ≡ Some (Ready job) → slice_get (wake image j ts) k ≡ Some (Ready job)
wake_ready image j k ts job at =
    elim (cases_eq j k) [
      | inl same ↦ subst (λ (x : ℕ). slice_get (slice_set ts x (woken image (slice_get ts x))) k ≡ Some (Ready job)) (sym same)
          (subst (λ (x : Option Thread). slice_get (slice_set ts k (woken image x)) k ≡ Some (Ready job)) (sym at) (get_set ts k (Ready job) (Ready job) at))
      | inr differ ↦ get_other ts j k (woken image (slice_get ts j)) differ ∙ at
    ]

pub wake_first_ready : (image : Image) (f : Option ℕ) (k : ℕ) (ts : List Thread) (job : Job) → slice_get ts k ≡ Some (Ready job) → slice_get (wake_first image f ts) k ≡ Some (Ready job)
wake_first_ready image None k ts job at = at
wake_first_ready image (Some j) k ts job at = wake_ready image j k ts job at

pub wake_all_ready : (image : Image) (js : List ℕ) (k : ℕ) (ts : List Thread) (job : Job) → slice_get ts k ≡ Some (Ready job) → slice_get (wake_all image js ts) k ≡ Some (Ready job)
wake_all_ready image [] k ts job at = at
wake_all_ready image (j ∷ js) k ts job at = wake_all_ready image js k (wake image j ts) job (wake_ready image j k ts job at)

module _ (e : Where) (ps : ℕ → Parts) (image_fits : ImageFits e ps) where
  unfoldable pub Staying : ℕ → ℕ → ℕ → State → Type 0
  Staying k m n s = StateFits e ps s × StaysIn e ps s k m n

  pub release_stays : (k m n t j : ℕ) (p : Process) (s : State) → Staying k m n s → slice_get e.image.processes j ≡ Some p → Staying k m n (release e.image t j p s).state
  unfolding Staying
  release_stays k m n t j p s u process = (
    release_keeps e ps image_fits t j p s u.0 process,
    elim (cases_eq j k) [
      | inl same ↦ subst (λ (x : Option Thread). StaysIn e ps (release_thread e.image t j p s x).state k m n) (sym (ap (λ (x : ℕ). slice_get s.threads x) same ∙ u.1.there)) u.1
      | inr differ ↦ at_other differ (slice_get s.threads j)
    ],
  ) where
    at_other : (j ≡ k → ⊥) → (x : Option Thread) → StaysIn e ps (release_thread e.image t j p s x).state k m n
    at_other differ (Some Idle) = stays_same e ps s (told t j act.Release s (Ready (released e.image p))).state k m n u.1 (get_other s.threads j k (Ready (released e.image p)) differ) (omega arith)
    at_other differ (Some (Ready job)) = u.1
    at_other differ (Some (Waiting c due number job)) = u.1
    at_other differ None = u.1

  pub time_out_stays : (k m n t j : ℕ) (p : Process) (s : State) → Staying k m n s → slice_get e.image.processes j ≡ Some p → Staying k m n (time_out e.image t j p s (slice_get s.threads j)).state
  unfolding Staying
  time_out_stays k m n t j p s u process = (
    time_out_keeps e ps image_fits t j p s u.0 process,
    elim (cases_eq j k) [
      | inl same ↦ subst (λ (x : Option Thread). StaysIn e ps (time_out e.image t j p s x).state k m n) (sym (ap (λ (x : ℕ). slice_get s.threads x) same ∙ u.1.there)) u.1
      | inr differ ↦ at_other differ (slice_get s.threads j)
    ],
  ) where
    at_other : (j ≡ k → ⊥) → (x : Option Thread) → StaysIn e ps (time_out e.image t j p s x).state k m n
    at_other differ (Some Idle) = u.1
    at_other differ (Some (Ready job)) = u.1
    at_other differ None = u.1
    at_other differ (Some (Waiting c due number job)) = by_due (nat_eq due t) where
      queues : List (List ℕ)
      queues = slice_set s.queues c (without j (queue_of s.queues c))

      new : Thread
      new = Ready (record (raised p number job) { dispatch_ticks = 2 * e.image.over })

      by_due : (d : Bool) → StaysIn e ps (cond d (told t j (act.TimeOut c number) (record s { queues = queues }) new) (unchanged s)).state k m n
      by_due false = u.1
      by_due true = stays_same e ps s (told t j (act.TimeOut c number) (record s { queues = queues }) new).state k m n u.1 (get_other s.threads j k new differ) (omega arith)

  pub device_stays : (k m n d : ℕ) (v : ℤ) (s : State) → Staying k m n s → Staying k m n (record s { devices = slice_set s.devices d v })
  unfolding Staying
  device_stays k m n d v s u = (device_keeps e ps image_fits d v s u.0, stays_same e ps s (record s { devices = slice_set s.devices d v }) k m n u.1 refl (omega arith))

  -- the tick of another process
  other_stays : (t : ℕ) (s : State) (j k m n : ℕ) (p : Process) (job : Job) (out : Outcome) → (j ≡ k → ⊥) → StaysIn e ps s k m n → StaysIn e ps (settle e.image t j p job s out).state k m n
  other_stays t s j k m n p job out differ o = by_case out where
    words : (w : List ℤ) → length (owned_of (slice_get s.owned k)) ≤ length (owned_of (slice_get (slice_set s.owned j w) k))
    words w = omega (arith, ap (λ (x : Option (List ℤ)). length (owned_of x)) (get_other s.owned j k w differ))

    at : (new : Thread) → slice_get (slice_set s.threads j new) k ≡ Some (Ready o.job)
    at new = get_other s.threads j k new differ ∙ o.there

    after : Own → Thread → State
    after q new = record s { threads = slice_set s.threads j new; owned = slice_set s.owned j q.owned; shared = q.shared }

    by_case : (out : Outcome) → StaysIn e ps (settle e.image t j p job s out).state k m n
    by_case (Goes q) = stays_same e ps s (settle e.image t j p job s (Goes q)).state k m n o (get_other s.threads j k (Ready q.job) differ) (words q.owned)
    by_case (Does a q) = stays_same e ps s (settle e.image t j p job s (Does a q)).state k m n o (get_other s.threads j k (Ready q.job) differ) (words q.owned)
    by_case (Signals d q) =
        stays_same e ps s (settle e.image t j p job s (Signals d q)).state k m n o
        (wake_first_ready e.image (first (queue_of s.queues d)) k (slice_set s.threads j (Ready q.job)) o.job (at (Ready q.job)) ∙ sym o.there) (words q.owned)
    by_case (Broadcasts d q) =
        stays_same e ps s (settle e.image t j p job s (Broadcasts d q)).state k m n o
        (wake_all_ready e.image (queue_of s.queues d) k (slice_set s.threads j (Ready q.job)) o.job (at (Ready q.job)) ∙ sym o.there) (words q.owned)
    by_case (Waits d limit number q) = stays_same e ps s (settle e.image t j p job s (Waits d limit number q)).state k m n o (get_other s.threads j k (Waiting d (t + limit + 1) number q.job) differ) (words q.owned)
    by_case (Raises number) = stays_same e ps s (settle e.image t j p job s (Raises number)).state k m n o (get_other s.threads j k (Ready (raised p number job)) differ) (omega arith)
    by_case Ends = stays_same e ps s (settle e.image t j p job s Ends).state k m n o (get_other s.threads j k Idle differ) (omega arith)
    by_case Stuck = o

  run_other_stays : (t : ℕ) (s : State) (j k m n : ℕ) (p : Option Process) (th : Option Thread) → (j ≡ k → ⊥) → StaysIn e ps s k m n → StaysIn e ps (run_thread e.image t j s p th).state k m n
  run_other_stays t s j k m n (Some p) (Some (Ready job)) differ o = other_stays t s j k m n p job (outcome e.image s job (owned_of (slice_get s.owned j)) job.dispatch_ticks) differ o
  run_other_stays t s j k m n (Some p) (Some Idle) differ o = o
  run_other_stays t s j k m n (Some p) (Some (Waiting c due number job)) differ o = o
  run_other_stays t s j k m n (Some p) None differ o = o
  run_other_stays t s j k m n None th differ o = o

  -- what is to be shown of a state after the tick
  unfoldable pub Nearer : ℕ → ℕ → ℕ → State → Type 0
  Nearer k m n u = (job : Job) → slice_get u.threads k ≡ Some (Ready job) → job.inside ≡ Some m → (l : ℕ) × (n ≡ l + 1) × StaysIn e ps u k m l

  -- its own tick
  settle_stays : (t : ℕ) (s : State) (k m n : ℕ) (p : Process) (job : Job) (left : WalkCost) (out : Outcome) → slice_get e.image.processes k ≡ Some p → slice_get s.threads k ≡ Some (Ready job)
      → TickFits e p (ps k) job (owned_of (slice_get s.owned k)) s.shared left out → job.dispatch_ticks ≡ 0 → job.inside ≡ Some m → left.leave ≤ n → Nearer k m n (settle e.image t k p job s out).state
  unfolding Nearer
  settle_stays t s k m n p job left out process at fits no_burn was short = by_case out fits where
    own : List ℤ
    own = owned_of (slice_get s.owned k)

    put : (q : Own) (u : State) → Ticks e p (ps k) (part_of (ps k) job.handling) job.inside job.dispatch_ticks own s.shared left q → slice_get u.threads k ≡ Some (Ready q.job) → u.owned ≡ slice_set s.owned k q.owned → Nearer k m n u
    put q u g there words new new_at inside =
        let same : q.job ≡ new = (let both : Some (Ready q.job) ≡ Some (Ready new) = sym there ∙ new_at in cc) in
        let still : q.job.inside ≡ Some m = ap (λ (x : Job). x.inside) same ∙ inside in
        let less : g.after.leave + 1 ≤ left.leave = g.stays m was still in (
          n - 1,
          omega (arith, less, short),
          record {
            p = p;
            job = q.job;
            left = g.after;
            process = process;
            there = there;
            inside = still;
            no_burn = omega (arith, g.dispatch_ticks, no_burn);
            short = omega (arith, less, short);
            has = ready_elsewhere e p (ps k) q.job q.owned (owned_of (slice_get u.owned k)) q.shared u.shared g.after
                (omega (arith, length_owned s.owned k k q.owned g.owned, g.owned, ap (λ (x : List (List ℤ)). length (owned_of (slice_get x k))) words)) g.fits;
          },
        )

    by_case : (out : Outcome) → TickFits e p (ps k) job own s.shared left out → Nearer k m n (settle e.image t k p job s out).state
    by_case (Goes q) g = put q (settle e.image t k p job s (Goes q)).state g (get_set s.threads k (Ready q.job) (Ready job) at) refl
    by_case (Does a q) g = put q (settle e.image t k p job s (Does a q)).state g (get_set s.threads k (Ready q.job) (Ready job) at) refl
    by_case (Signals d q) g = put q (settle e.image t k p job s (Signals d q)).state g
        (wake_first_ready e.image (first (queue_of s.queues d)) k (slice_set s.threads k (Ready q.job)) q.job (get_set s.threads k (Ready q.job) (Ready job) at)) refl
    by_case (Broadcasts d q) g = put q (settle e.image t k p job s (Broadcasts d q)).state g
        (wake_all_ready e.image (queue_of s.queues d) k (slice_set s.threads k (Ready q.job)) q.job (get_set s.threads k (Ready q.job) (Ready job) at)) refl
    by_case (Waits d limit number q) g = λ new new_at inside. absurd (let is : slice_get (slice_set s.threads k (Waiting d (t + limit + 1) number q.job)) k ≡ Some (Waiting d (t + limit + 1) number q.job) = get_set s.threads k (Waiting d (t + limit + 1) number q.job) (Ready job) at in cc)
    by_case (Raises number) g = λ new new_at inside.
        absurd (let is : slice_get (slice_set s.threads k (Ready (raised p number job))) k ≡ Some (Ready (raised p number job)) = get_set s.threads k (Ready (raised p number job)) (Ready job) at in
        let same : raised p number job ≡ new = (let both : Some (Ready (raised p number job)) ≡ Some (Ready new) = sym is ∙ new_at in cc) in
        let none : None ≡ new.inside = ap (λ (x : Job). x.inside) same in cc)
    by_case Ends g = λ new new_at inside. absurd (let is : slice_get (slice_set s.threads k Idle) k ≡ Some Idle = get_set s.threads k Idle (Ready job) at in cc)
    by_case Stuck g = absurd g

  pub stay_of_tick : (t : ℕ) (s : State) (k m n : ℕ) → StaysIn e ps s k m n → StateFits e ps s → (x : Option Candidate) → ChosenOf e.image 0 e.image.processes s.threads x
      → (is_chosen k x ≡ true → Nearer k m n (run_picked e.image t s x).state) × (is_chosen k x ≡ false → StaysIn e ps (run_picked e.image t s x).state k m n)
  stay_of_tick t s k m n o fits None none = ((λ is. absurd cc), (λ is. o))
  stay_of_tick t s k m n o fits (Some c) ch = (
    (λ is. (let same : c.place ≡ k = grind (arith, nat_tests, is) in it same)),
    (λ is. run_other_stays t s c.place k m n (slice_get e.image.processes c.place) (slice_get s.threads c.place) (λ same. absurd (grind (arith, nat_tests, is, same))) o),
  ) where
    it : c.place ≡ k → Nearer k m n (run_picked e.image t s (Some c)).state
    it same =
        let index : ch.index ≡ k = omega (arith, ch.place, same) in
        let process : slice_get e.image.processes k ≡ Some ch.p = ap (λ (x : ℕ). slice_get e.image.processes x) (sym index) ∙ ch.process in
        let at : slice_get s.threads k ≡ Some (Ready ch.job) = ap (λ (x : ℕ). slice_get s.threads x) (sym index) ∙ ch.ready in
        let same_p : o.p ≡ ch.p = (let both : Some o.p ≡ Some ch.p = sym o.process ∙ process in cc) in
        let same_job : o.job ≡ ch.job = (let both : Some (Ready o.job) ≡ Some (Ready ch.job) = sym o.there ∙ at in cc) in
        let own : List ℤ = owned_of (slice_get s.owned k) in
        let has : ReadyFits e ch.p (ps k) ch.job own s.shared o.left =
        subst (λ (x : Job). ReadyFits e ch.p (ps k) x own s.shared o.left) same_job (subst (λ (q : Process). ReadyFits e q (ps k) o.job own s.shared o.left) same_p o.has) in
        let no_burn : ch.job.dispatch_ticks ≡ 0 = ap (λ (x : Job). x.dispatch_ticks) (sym same_job) ∙ o.no_burn in
        let was : ch.job.inside ≡ Some m = ap (λ (x : Job). x.inside) (sym same_job) ∙ o.inside in
        subst (λ (j : ℕ). Nearer k m n (run_thread e.image t j s (slice_get e.image.processes j) (slice_get s.threads j)).state) (sym same)
        (subst (λ (x : Option Process). Nearer k m n (run_thread e.image t k s x (slice_get s.threads k)).state) (sym process)
        (subst (λ (x : Option Thread). Nearer k m n (run_thread e.image t k s (Some ch.p) x).state) (sym at)
        (subst (λ (b : ℕ). Nearer k m n (settle e.image t k ch.p ch.job s (outcome e.image s ch.job own b)).state) (sym no_burn)
        (settle_stays t s k m n ch.p ch.job o.left (outcome e.image s ch.job own 0) process at
        (tick_is_safe e (ps k) s ch.p ch.job own o.left image_fits.routines (image_fits.processes k ch.p process) fits.sized has
        (finds_free e ps s c ch (part_of (ps k) ch.job.handling) own fits (own_limit e ps image_fits ch.p (ps k) ch.job.handling (image_fits.processes k ch.p process))))
        no_burn was o.short))))

  falls : (script : Script) (t : ℕ) (s : State) (k m n : ℕ) → StateFits e ps s → StaysIn e ps s k m n
      → (runs e.image script t s k ≡ true → Nearer k m n (tick e.image script t s).state) × (runs e.image script t s k ≡ false → StaysIn e ps (tick e.image script t s).state k m n)
  unfolding tick pick Staying
  falls script t s k m n fits stays =
      let u : Staying k m n (starts e.image script t s).state = starts_pass e (Staying k m n) (release_stays k m n) (time_out_stays k m n) (device_stays k m n) script t s (fits, stays) in
      let s1 : State = (starts e.image script t s).state in
      stay_of_tick t s1 k m n u.1 u.0 (least e.image 0 e.image.processes s1.threads) (chosen e.image 0 e.image.processes s1.threads)

pub stay_falls : StayFalls
unfolding Nearer
stay_falls e ps script t s k m n image_fits fits stays = falls e ps image_fits script t s k m n fits stays
