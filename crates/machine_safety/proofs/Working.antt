-- How much a process may still run falls.
use Rattle.std.proofs.Common.{◌≡◌, ◌≤◌, ◌+◌, ◌-◌, ◌*◌, ◌++◌, inl, inr, ℕ, zero, suc, List, [], ◌∷◌, Option, Some, None, length, arith, refl, ap, sym, subst, ◌∙◌, true, false, Bool}
use Rattle.std.specs.Prelude.{ℤ, slice_get, slice_set, cond, nat_eq}
use Rattle.std.proofs.lemmas.Bool.{cases_eq}
use Rattle.std.proofs.lemmas.Bool.Decides.{nat_tests}
use Rattle.base.proofs.Lists.{get_set, get_other}
use Rattle.base.specs.declared.event.Act.TheVariants as act
use Rattle.machine_semantics.specs.Image.{Process, Script}
use Rattle.machine_semantics.specs.State.{Job, Thread, Idle, Ready, Waiting, State}
use Rattle.machine_semantics.specs.Effect.{Own, Outcome, Goes, Does, Signals, Broadcasts, Waits, Raises, Ends, Stuck}
use Rattle.machine_semantics.specs.Starts.{Started, unchanged, told, released, release, release_thread, time_out, raised, without, queue_of, starts}
use Rattle.machine_semantics.specs.Tick.{Candidate, least, pick, woken, wake, wake_all, first, rest, wake_first, settle, outcome, owned_of, run_thread, run_picked, tick}
use Rattle.machine_semantics.specs.Walk.{Where, WalkCost}
use Rattle.machine_semantics.specs.Safe.{Parts, ImageFits, ReadyFits, Ticks, TickFits, own_of, part_of, spare}
use Rattle.machine_semantics.specs.Whole.{StateFits}
use Rattle.machine_semantics.specs.Work.{work_of, HasLeft, Owes, IsBusy, is_chosen, runs, worst_of, activation, WorkFalls, ReleaseOwes}
use Rattle.machine_safety.proofs.Ticking.{tick_is_safe, raise_fits, based, Based}
use Rattle.machine_safety.proofs.Whole.{ready_elsewhere, waiting_elsewhere, length_owned}
use Rattle.machine_safety.proofs.Picked.{Chosen, ChosenOf, chosen, finds_free}
use Rattle.machine_safety.proofs.Starting.{released_fits, ready_burn, starts_pass, release_keeps, time_out_keeps, device_keeps}
use Rattle.machine_safety.proofs.Settling.{woken_fits, own_limit}

-- ---- lists and numbers

pub times_le : (a b c : ℕ) → b ≤ c → a * b ≤ a * c
times_le a b c h = let e : c ≡ b + (c - b) = omega arith in subst (λ (x : ℕ). a * b ≤ a * x) (sym e) (omega arith)

-- ---- another process changes

pub left_elsewhere : (e : Where) (p : Process) (ps : Parts) (t : Thread) (owned owned' shared shared' : List ℤ) (left : WalkCost) → length owned ≤ length owned' → HasLeft e p ps t owned shared left → HasLeft e p ps t owned' shared' left
left_elsewhere e p ps Idle owned owned' shared shared' left longer h = tt
left_elsewhere e p ps (Ready job) owned owned' shared shared' left longer h = ready_elsewhere e p ps job owned owned' shared shared' left longer h
left_elsewhere e p ps (Waiting c due n job) owned owned' shared shared' left longer h = waiting_elsewhere e p ps job owned owned' shared shared' left longer h

-- a state in which process k has the same thread and words
owes_same : (e : Where) (ps : ℕ → Parts) (s u : State) (k n : ℕ) (owes : Owes e ps s k n) → slice_get u.threads k ≡ slice_get s.threads k → slice_get u.owned k ≡ slice_get s.owned k → Owes e ps u k n
owes_same e ps s u k n o same_thread same_words = record {
  p = o.p;
  thread = o.thread;
  left = o.left;
  process = o.process;
  there = same_thread ∙ o.there;
  work = o.work;
  has = left_elsewhere e o.p (ps k) o.thread (owned_of (slice_get s.owned k)) (owned_of (slice_get u.owned k)) s.shared u.shared o.left
      (omega (arith, ap (λ (w : Option (List ℤ)). length (owned_of w)) same_words)) o.has;
}

module _ (e : Where) (ps : ℕ → Parts) (image_fits : ImageFits e ps) where
  -- a process that is taken out of a queue owes no more
  wake_owes : (j k n : ℕ) (s : State) → Owes e ps s k n → Owes e ps (record s { threads = wake e.image j s.threads }) k n
  wake_owes j k n s o =
      elim (cases_eq j k) [
        | inl same ↦ subst (λ (x : ℕ). Owes e ps (record s { threads = wake e.image x s.threads }) k n) (sym same) (by_thread o.thread o.there o.has o.work)
        | inr differ ↦ owes_same e ps s (record s { threads = wake e.image j s.threads }) k n o (get_other s.threads j k (woken e.image (slice_get s.threads j)) differ) refl
      ] where
        by_thread : (t : Thread) → slice_get s.threads k ≡ Some t → HasLeft e o.p (ps k) t (owned_of (slice_get s.owned k)) s.shared o.left → work_of e.image.over t o.left ≤ n
            → Owes e ps (record s { threads = slice_set s.threads k (woken e.image (slice_get s.threads k)) }) k n
        by_thread Idle at has work =
            record {
              p = o.p;
              thread = Idle;
              left = o.left;
              process = o.process;
              has = tt;
              work = work;
              there = subst (λ (x : Option Thread). slice_get (slice_set s.threads k (woken e.image x)) k ≡ Some Idle) (sym at) (get_set s.threads k Idle Idle at);
            }
        by_thread (Ready job) at has work =
            record {
              p = o.p;
              thread = Ready job;
              left = o.left;
              process = o.process;
              has = has;
              work = work;
              there = subst (λ (x : Option Thread). slice_get (slice_set s.threads k (woken e.image x)) k ≡ Some (Ready job)) (sym at) (get_set s.threads k (Ready job) (Ready job) at);
            }
        by_thread (Waiting c due number job) at has work =
            record {
              p = o.p;
              thread = Ready (record job { dispatch_ticks = 2 * e.image.over });
              left = o.left;
              process = o.process;
              has = woken_fits e o.p (ps k) job (2 * e.image.over) (owned_of (slice_get s.owned k)) s.shared o.left has;
              work = omega (arith, work);
              there = subst (λ (x : Option Thread). slice_get (slice_set s.threads k (woken e.image x)) k ≡ Some (Ready (record job { dispatch_ticks = 2 * e.image.over }))) (sym at)
                  (get_set s.threads k (Ready (record job { dispatch_ticks = 2 * e.image.over })) (Waiting c due number job) at);
            }

  wake_first_owes : (f : Option ℕ) (k n : ℕ) (s : State) → Owes e ps s k n → Owes e ps (record s { threads = wake_first e.image f s.threads }) k n
  wake_first_owes None k n s o = o
  wake_first_owes (Some j) k n s o = wake_owes j k n s o

  wake_all_owes : (js : List ℕ) (k n : ℕ) (s : State) → Owes e ps s k n → Owes e ps (record s { threads = wake_all e.image js s.threads }) k n
  wake_all_owes [] k n s o = o
  wake_all_owes (j ∷ js) k n s o = wake_all_owes js k n (record s { threads = wake e.image j s.threads }) (wake_owes j k n s o)

  -- ---- the start of the tick

  -- an unfinished process, and what it owes
  unfoldable pub Unfinished : ℕ → ℕ → State → Type 0
  Unfinished k n s = StateFits e ps s × ((o : Owes e ps s k n) × IsBusy o.thread)

  pub release_busy : (k n t j : ℕ) (p : Process) (s : State) → Unfinished k n s → slice_get e.image.processes j ≡ Some p → Unfinished k n (release e.image t j p s).state
  unfolding Unfinished owes_same
  release_busy k n t j p s u process = (release_keeps e ps image_fits t j p s u.0 process, elim (cases_eq j k) [ inl same ↦ at_k same | inr differ ↦ at_other differ (slice_get s.threads j) refl ]) where
    at_k : j ≡ k → (o : Owes e ps (release e.image t j p s).state k n) × IsBusy o.thread
    at_k same = by_thread u.1.0.thread (ap (λ (x : ℕ). slice_get s.threads x) same ∙ u.1.0.there) u.1.1 where
      by_thread : (th : Thread) → slice_get s.threads j ≡ Some th → IsBusy th → (o : Owes e ps (release e.image t j p s).state k n) × IsBusy o.thread
      by_thread Idle at busy = absurd busy
      by_thread (Ready job) at busy = subst (λ (x : Option Thread). (o : Owes e ps (release_thread e.image t j p s x).state k n) × IsBusy o.thread) (sym at) u.1
      by_thread (Waiting c due number job) at busy = subst (λ (x : Option Thread). (o : Owes e ps (release_thread e.image t j p s x).state k n) × IsBusy o.thread) (sym at) u.1

    at_other : (j ≡ k → ⊥) → (x : Option Thread) → slice_get s.threads j ≡ x → (o : Owes e ps (release_thread e.image t j p s x).state k n) × IsBusy o.thread
    at_other differ (Some Idle) at = (owes_same e ps s (told t j act.Release s (Ready (released e.image p))).state k n u.1.0 (get_other s.threads j k (Ready (released e.image p)) differ) refl, u.1.1)
    at_other differ (Some (Ready job)) at = u.1
    at_other differ (Some (Waiting c due number job)) at = u.1
    at_other differ None at = u.1

  pub time_out_busy : (k n t j : ℕ) (p : Process) (s : State) → Unfinished k n s → slice_get e.image.processes j ≡ Some p → Unfinished k n (time_out e.image t j p s (slice_get s.threads j)).state
  unfolding Unfinished owes_same
  time_out_busy k n t j p s u process = (time_out_keeps e ps image_fits t j p s u.0 process, elim (cases_eq j k) [ inl same ↦ at_k same | inr differ ↦ at_other differ (slice_get s.threads j) refl ]) where
    Good : Started → Type 0
    Good x = (o : Owes e ps x.state k n) × IsBusy o.thread

    at_k : j ≡ k → (o : Owes e ps (time_out e.image t j p s (slice_get s.threads j)).state k n) × IsBusy o.thread
    at_k same = by_thread u.1.0.thread (ap (λ (x : ℕ). slice_get s.threads x) same ∙ u.1.0.there) u.1.0.there u.1.0.has u.1.0.work u.1.1 where
      of_same : p ≡ u.1.0.p
      of_same = let both : Some p ≡ Some u.1.0.p = sym process ∙ (ap (λ (x : ℕ). slice_get e.image.processes x) same ∙ u.1.0.process) in cc

      by_thread : (th : Thread) → slice_get s.threads j ≡ Some th → slice_get s.threads k ≡ Some th → HasLeft e u.1.0.p (ps k) th (owned_of (slice_get s.owned k)) s.shared u.1.0.left → work_of e.image.over th u.1.0.left ≤ n → IsBusy th
          → (o : Owes e ps (time_out e.image t j p s (slice_get s.threads j)).state k n) × IsBusy o.thread
      by_thread Idle at at_k' has work busy = absurd busy
      by_thread (Ready job) at at_k' has work busy = subst (λ (x : Option Thread). (o : Owes e ps (time_out e.image t j p s x).state k n) × IsBusy o.thread) (sym at) u.1
      by_thread (Waiting c due number job) at at_k' has work busy =
          subst (λ (x : Option Thread). (o : Owes e ps (time_out e.image t j p s x).state k n) × IsBusy o.thread) (sym at) (by_due (nat_eq due t)) where
            own : List ℤ
            own = owned_of (slice_get s.owned k)

            b : Based (part_of (ps k) job.handling) (own_of job own s.shared) has.cost
            b = based e (part_of (ps k) job.handling) (own_of job own s.shared) has.cost (inr has.fits)

            left : WalkCost
            left = record { run = 4 + spare (ps k) job.handling; susp = 0; waits = 0; leave = 0 }

            queues : List (List ℕ)
            queues = slice_set s.queues c (without j (queue_of s.queues c))

            new : Thread
            new = Ready (record (raised p number job) { dispatch_ticks = 2 * e.image.over })

            raised_it : ReadyFits e u.1.0.p (ps k) (record (raised u.1.0.p number job) { dispatch_ticks = 2 * e.image.over }) own s.shared left
            raised_it = ready_burn e u.1.0.p (ps k) (raised u.1.0.p number job) (2 * e.image.over) own s.shared left
                (raise_fits e u.1.0.p (ps k) job own s.shared number left (image_fits.processes k u.1.0.p u.1.0.process) has.ends b.locals b.enough (omega arith))

            by_due : (d : Bool) → (o : Owes e ps (cond d (told t j (act.TimeOut c number) (record s { queues = queues }) new) (unchanged s)).state k n) × IsBusy o.thread
            by_due false = u.1
            by_due true = (
              record {
                p = u.1.0.p;
                thread = new;
                left = left;
                process = u.1.0.process;
                there = subst (λ (x : ℕ). slice_get (slice_set s.threads x new) k ≡ Some new) (sym same) (get_set s.threads k new (Waiting c due number job) at_k');
                has = subst (λ (q : Process). ReadyFits e u.1.0.p (ps k) (record (raised q number job) { dispatch_ticks = 2 * e.image.over }) own s.shared left) (sym of_same) raised_it;
                work = omega (arith, work, has.run, b.some, times_le (2 * e.image.over) 1 (u.1.0.left.waits + 1) (omega arith));
              },
              tt,
            )

    at_other : (j ≡ k → ⊥) → (x : Option Thread) → slice_get s.threads j ≡ x → (o : Owes e ps (time_out e.image t j p s x).state k n) × IsBusy o.thread
    at_other differ (Some Idle) at = u.1
    at_other differ (Some (Ready job)) at = u.1
    at_other differ None at = u.1
    at_other differ (Some (Waiting c due number job)) at = by_due (nat_eq due t) where
      queues : List (List ℕ)
      queues = slice_set s.queues c (without j (queue_of s.queues c))

      new : Thread
      new = Ready (record (raised p number job) { dispatch_ticks = 2 * e.image.over })

      by_due : (d : Bool) → (o : Owes e ps (cond d (told t j (act.TimeOut c number) (record s { queues = queues }) new) (unchanged s)).state k n) × IsBusy o.thread
      by_due false = u.1
      by_due true = (owes_same e ps s (told t j (act.TimeOut c number) (record s { queues = queues }) new).state k n u.1.0 (get_other s.threads j k new differ) refl, u.1.1)

  pub device_busy : (k n d : ℕ) (v : ℤ) (s : State) → Unfinished k n s → Unfinished k n (record s { devices = slice_set s.devices d v })
  unfolding Unfinished owes_same
  device_busy k n d v s u = (device_keeps e ps image_fits d v s u.0, (owes_same e ps s (record s { devices = slice_set s.devices d v }) k n u.1.0 refl refl, u.1.1))

  -- ---- the tick of the process that runs

  -- its thread is this, with so much left, and the other threads may be taken out of a queue after it
  ran : (s : State) (k m : ℕ) (p : Process) (old new : Thread) (w shared : List ℤ) (queues : List (List ℕ)) (left : WalkCost)
      → slice_get e.image.processes k ≡ Some p → slice_get s.threads k ≡ Some old → length w ≤ length (owned_of (slice_get (slice_set s.owned k w) k)) → HasLeft e p (ps k) new w shared left → work_of e.image.over new left ≤ m
      → Owes e ps (record { threads = slice_set s.threads k new; owned = slice_set s.owned k w; shared = shared; queues = queues; devices = s.devices }) k m
  ran s k m p old new w shared queues left process at longer has work = record {
    p = p;
    thread = new;
    left = left;
    process = process;
    there = get_set s.threads k new old at;
    work = work;
    has = left_elsewhere e p (ps k) new w (owned_of (slice_get (slice_set s.owned k w) k)) shared shared left longer has;
  }

  settle_owes : (t : ℕ) (s : State) (k n : ℕ) (p : Process) (job : Job) (left : WalkCost) (out : Outcome) → slice_get e.image.processes k ≡ Some p → slice_get s.threads k ≡ Some (Ready job)
      → TickFits e p (ps k) job (owned_of (slice_get s.owned k)) s.shared left out → job.dispatch_ticks ≡ 0 → left.run + 2 * e.image.over * left.waits ≤ n
      → (m : ℕ) × (n ≡ m + 1) × Owes e ps (settle e.image t k p job s out).state k m
  settle_owes t s k n p job left out process at fits no_burn work = by_case out fits where
    own : List ℤ
    own = owned_of (slice_get s.owned k)

    m : ℕ
    m = n - 1

    put : (q : Own) (queues : List (List ℕ)) → Ticks e p (ps k) (part_of (ps k) job.handling) job.inside job.dispatch_ticks own s.shared left q
        → Owes e ps (record { threads = slice_set s.threads k (Ready q.job); owned = slice_set s.owned k q.owned; shared = q.shared; queues = queues; devices = s.devices }) k m
    put q queues g = ran s k m p (Ready job) (Ready q.job) q.owned q.shared queues g.after process at (omega (arith, length_owned s.owned k k q.owned g.owned, g.owned)) g.fits
        (omega (arith, g.less, g.dispatch_ticks, no_burn, work, times_le (2 * e.image.over) g.after.waits left.waits g.less.waits))

    by_case : (out : Outcome) → TickFits e p (ps k) job own s.shared left out → (m : ℕ) × (n ≡ m + 1) × Owes e ps (settle e.image t k p job s out).state k m
    by_case (Goes q) g = (m, omega (arith, g.less, work), put q s.queues g)
    by_case (Does a q) g = (m, omega (arith, g.less, work), put q s.queues g)
    by_case (Signals d q) g =
        let queues : List (List ℕ) = slice_set s.queues d (rest (queue_of s.queues d)) in
        (m, omega (arith, g.less, work), wake_first_owes (first (queue_of s.queues d)) k m (record { threads = slice_set s.threads k (Ready q.job); owned = slice_set s.owned k q.owned; shared = q.shared; queues = queues; devices = s.devices }) (put q queues g))
    by_case (Broadcasts d q) g =
        let queues : List (List ℕ) = slice_set s.queues d [] in
        (m, omega (arith, g.less, work), wake_all_owes (queue_of s.queues d) k m (record { threads = slice_set s.threads k (Ready q.job); owned = slice_set s.owned k q.owned; shared = q.shared; queues = queues; devices = s.devices }) (put q queues g))
    by_case (Waits d limit number q) g = (
      m,
      omega (arith, g.less, work),
      ran s k m p (Ready job) (Waiting d (t + limit + 1) number q.job) q.owned q.shared (slice_set s.queues d (queue_of s.queues d ++ k ∷ [])) g.after process at
          (omega (arith, length_owned s.owned k k q.owned g.owned, g.owned)) g.fits
          (omega (arith, g.less, work, times_le (2 * e.image.over) (g.after.waits + 1) left.waits g.less.waits)),
    )
    by_case (Raises number) g = (
      m,
      omega (arith, g.less, work),
      record {
        p = p;
        thread = Ready (raised p number job);
        left = g.after;
        process = process;
        there = get_set s.threads k (Ready (raised p number job)) (Ready job) at;
        has = g.fits;
        work = omega (arith, g.less, no_burn, work, times_le (2 * e.image.over) g.after.waits left.waits g.less.waits);
      },
    )
    by_case Ends g = (m, omega (arith, g, work), record { p = p; thread = Idle; left = left; process = process; there = get_set s.threads k Idle (Ready job) at; has = tt; work = omega arith })
    by_case Stuck g = absurd g

  -- the tick of another process
  settle_other : (t : ℕ) (s : State) (j k n : ℕ) (p : Process) (job : Job) (out : Outcome) → (j ≡ k → ⊥) → Owes e ps s k n → Owes e ps (settle e.image t j p job s out).state k n
  settle_other t s j k n p job out differ o = by_case out where
    put : (q : Own) (new : Thread) (queues : List (List ℕ)) → Owes e ps (record { threads = slice_set s.threads j new; owned = slice_set s.owned j q.owned; shared = q.shared; queues = queues; devices = s.devices }) k n
    put q new queues = owes_same e ps s (record { threads = slice_set s.threads j new; owned = slice_set s.owned j q.owned; shared = q.shared; queues = queues; devices = s.devices }) k n o
        (get_other s.threads j k new differ) (get_other s.owned j k q.owned differ)

    only : (new : Thread) → Owes e ps (record s { threads = slice_set s.threads j new }) k n
    only new = owes_same e ps s (record s { threads = slice_set s.threads j new }) k n o (get_other s.threads j k new differ) refl

    by_case : (out : Outcome) → Owes e ps (settle e.image t j p job s out).state k n
    by_case (Goes q) = put q (Ready q.job) s.queues
    by_case (Does a q) = put q (Ready q.job) s.queues
    by_case (Signals d q) =
        let queues : List (List ℕ) = slice_set s.queues d (rest (queue_of s.queues d)) in
        wake_first_owes (first (queue_of s.queues d)) k n (record { threads = slice_set s.threads j (Ready q.job); owned = slice_set s.owned j q.owned; shared = q.shared; queues = queues; devices = s.devices }) (put q (Ready q.job) queues)
    by_case (Broadcasts d q) =
        let queues : List (List ℕ) = slice_set s.queues d [] in
        wake_all_owes (queue_of s.queues d) k n (record { threads = slice_set s.threads j (Ready q.job); owned = slice_set s.owned j q.owned; shared = q.shared; queues = queues; devices = s.devices }) (put q (Ready q.job) queues)
    by_case (Waits d limit number q) = put q (Waiting d (t + limit + 1) number q.job) (slice_set s.queues d (queue_of s.queues d ++ j ∷ []))
    by_case (Raises number) = only (Ready (raised p number job))
    by_case Ends = only Idle
    by_case Stuck = o

  run_other : (t : ℕ) (s : State) (j k n : ℕ) (p : Option Process) (th : Option Thread) → (j ≡ k → ⊥) → Owes e ps s k n → Owes e ps (run_thread e.image t j s p th).state k n
  run_other t s j k n (Some p) (Some (Ready job)) differ o = settle_other t s j k n p job (outcome e.image s job (owned_of (slice_get s.owned j)) job.dispatch_ticks) differ o
  run_other t s j k n (Some p) (Some Idle) differ o = o
  run_other t s j k n (Some p) (Some (Waiting c due number job)) differ o = o
  run_other t s j k n (Some p) None differ o = o
  run_other t s j k n None th differ o = o

  -- the tick of the process that is picked
  run_it : (t : ℕ) (s : State) (c : Candidate) (ch : Chosen e.image 0 e.image.processes s.threads c) (k n : ℕ) → c.place ≡ k → StateFits e ps s → (left : WalkCost)
      → slice_get e.image.processes k ≡ Some ch.p → slice_get s.threads k ≡ Some (Ready ch.job) → ReadyFits e ch.p (ps k) ch.job (owned_of (slice_get s.owned k)) s.shared left
      → left.run + ch.job.dispatch_ticks + 2 * e.image.over * left.waits ≤ n
      → (m : ℕ) × (n ≡ m + 1) × Owes e ps (settle e.image t k ch.p ch.job s (outcome e.image s ch.job (owned_of (slice_get s.owned k)) ch.job.dispatch_ticks)).state k m
  run_it t s c ch k n place fits left process at ready work = by_burn ch.job.dispatch_ticks refl where
    own : List ℤ
    own = owned_of (slice_get s.owned k)

    by_burn : (b : ℕ) → ch.job.dispatch_ticks ≡ b → (m : ℕ) × (n ≡ m + 1) × Owes e ps (settle e.image t k ch.p ch.job s (outcome e.image s ch.job own b)).state k m
    by_burn zero is =
        settle_owes t s k n ch.p ch.job left (outcome e.image s ch.job own zero) process at
        (tick_is_safe e (ps k) s ch.p ch.job own left image_fits.routines (image_fits.processes k ch.p process) fits.sized ready
        (finds_free e ps s c ch (part_of (ps k) ch.job.handling) own fits (own_limit e ps image_fits ch.p (ps k) ch.job.handling (image_fits.processes k ch.p process))))
        is (omega (arith, work))
    by_burn (suc b) is = (
      n - 1,
      omega (arith, work, is),
      ran s k (n - 1) ch.p (Ready ch.job) (Ready (record (ch.job) { dispatch_ticks = b })) own s.shared s.queues left process at (omega (arith, length_owned s.owned k k own refl))
          (ready_burn e ch.p (ps k) ch.job b own s.shared left ready) (omega (arith, work, is)),
    )

  pub work_of_tick : (t : ℕ) (s : State) (k n : ℕ) (o : Owes e ps s k n) → StateFits e ps s → (x : Option Candidate) → ChosenOf e.image 0 e.image.processes s.threads x
      → (is_chosen k x ≡ true → (m : ℕ) × (n ≡ m + 1) × Owes e ps (run_picked e.image t s x).state k m) × (is_chosen k x ≡ false → Owes e ps (run_picked e.image t s x).state k n)
  work_of_tick t s k n o fits None none = ((λ is. absurd cc), (λ is. o))
  work_of_tick t s k n o fits (Some c) ch = (
    (λ is. (let same : c.place ≡ k = grind (arith, nat_tests, is) in it same)),
    (λ is. run_other t s c.place k n (slice_get e.image.processes c.place) (slice_get s.threads c.place) (λ same. absurd (grind (arith, nat_tests, is, same))) o),
  ) where
    it : c.place ≡ k → (m : ℕ) × (n ≡ m + 1) × Owes e ps (run_picked e.image t s (Some c)).state k m
    it same =
        let index : ch.index ≡ k = omega (arith, ch.place, same) in
        let process : slice_get e.image.processes k ≡ Some ch.p = ap (λ (x : ℕ). slice_get e.image.processes x) (sym index) ∙ ch.process in
        let at : slice_get s.threads k ≡ Some (Ready ch.job) = ap (λ (x : ℕ). slice_get s.threads x) (sym index) ∙ ch.ready in
        let same_p : o.p ≡ ch.p = (let both : Some o.p ≡ Some ch.p = sym o.process ∙ process in cc) in
        let same_t : o.thread ≡ Ready ch.job = (let both : Some o.thread ≡ Some (Ready ch.job) = sym o.there ∙ at in cc) in
        let has : HasLeft e ch.p (ps k) (Ready ch.job) (owned_of (slice_get s.owned k)) s.shared o.left =
        subst (λ (th : Thread). HasLeft e ch.p (ps k) th (owned_of (slice_get s.owned k)) s.shared o.left) same_t
        (subst (λ (q : Process). HasLeft e q (ps k) o.thread (owned_of (slice_get s.owned k)) s.shared o.left) same_p o.has) in
        let work : work_of e.image.over (Ready ch.job) o.left ≤ n = subst (λ (th : Thread). work_of e.image.over th o.left ≤ n) same_t o.work in
        subst (λ (j : ℕ). (m : ℕ) × (n ≡ m + 1) × Owes e ps (run_thread e.image t j s (slice_get e.image.processes j) (slice_get s.threads j)).state k m) (sym same)
        (subst (λ (x : Option Process). (m : ℕ) × (n ≡ m + 1) × Owes e ps (run_thread e.image t k s x (slice_get s.threads k)).state k m) (sym process)
        (subst (λ (x : Option Thread). (m : ℕ) × (n ≡ m + 1) × Owes e ps (run_thread e.image t k s (Some ch.p) x).state k m) (sym at)
        (run_it t s c ch k n same fits o.left process at has work)))

  falls : (script : Script) (t : ℕ) (s : State) (k n : ℕ) → StateFits e ps s → (owes : Owes e ps s k n) → IsBusy owes.thread
      → (runs e.image script t s k ≡ true → (m : ℕ) × (n ≡ m + 1) × Owes e ps (tick e.image script t s).state k m) × (runs e.image script t s k ≡ false → Owes e ps (tick e.image script t s).state k n)
  unfolding tick pick Unfinished
  falls script t s k n fits owes busy =
      let u : Unfinished k n (starts e.image script t s).state = starts_pass e (Unfinished k n) (release_busy k n) (time_out_busy k n) (device_busy k n) script t s (fits, (owes, busy)) in
      let s1 : State = (starts e.image script t s).state in
      work_of_tick t s1 k n u.1.0 u.0 (least e.image 0 e.image.processes s1.threads) (chosen e.image 0 e.image.processes s1.threads)

pub work_falls : WorkFalls
work_falls e ps script t s k n image_fits fits owes busy = falls e ps image_fits script t s k n fits owes busy

-- a process that has just been released
pub fresh : (e : Where) (ps : ℕ → Parts) → ImageFits e ps → (t k : ℕ) (p : Process) (s : State) → StateFits e ps s → slice_get e.image.processes k ≡ Some p → slice_get s.threads k ≡ Some Idle
    → (o : Owes e ps (release_thread e.image t k p s (Some Idle)).state k (activation e.image.over (worst_of (ps k)))) × IsBusy o.thread
fresh e ps image_fits t k p s fits process idle = (
  record {
    p = p;
    thread = Ready (released e.image p);
    left = worst_of (ps k);
    process = process;
    there = get_set s.threads k (Ready (released e.image p)) Idle idle;
    has = released_fits e p (ps k) (owned_of (slice_get s.owned k)) s.shared (image_fits.processes k p process) (fits.threads k p Idle process idle);
    work = omega arith;
  },
  tt,
)

pub release_owes : ReleaseOwes
release_owes e ps t k p s image_fits fits process idle =
    subst (λ (x : Option Thread). Owes e ps (release_thread e.image t k p s x).state k (activation e.image.over (worst_of (ps k)))) (sym idle) (fresh e ps image_fits t k p s fits process idle).0
