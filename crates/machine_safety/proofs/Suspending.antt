-- What is left of a process's suspension falls.
use Rattle.std.proofs.Common.{◌≡◌, ◌≤◌, ◌<◌, ◌+◌, ◌-◌, ◌*◌, ◌⊎◌, inl, inr, ℕ, zero, suc, List, [], ◌∷◌, Option, Some, None, length, arith, refl, ap, sym, subst, ◌∙◌, true, false, Bool}
use Rattle.std.specs.Prelude.{ℤ, slice_get, slice_set, cond, nat_eq}
use Rattle.std.proofs.lemmas.Bool.Decides.{nat_tests}
use Rattle.std.proofs.lemmas.Bool.{cases_eq}
use Rattle.base.proofs.Lists.{get_set, get_other}
use Rattle.base.specs.declared.event.Act.TheVariants as act
use Rattle.machine_semantics.specs.Image.{Image, Process, Script}
use Rattle.machine_semantics.specs.State.{Job, Thread, Idle, Ready, Waiting, State}
use Rattle.machine_semantics.specs.Effect.{Own, Outcome, Goes, Does, Signals, Broadcasts, Waits, Raises, Ends, Stuck}
use Rattle.machine_semantics.specs.Starts.{Started, unchanged, told, released, release, release_thread, time_out, at_rank, time_outs, raised, without, queue_of, starts}
use Rattle.machine_semantics.specs.Tick.{Candidate, least, pick, woken, wake, wake_all, first, wake_first, settle, outcome, owned_of, run_thread, run_picked, tick}
use Rattle.machine_semantics.specs.Walk.{Where, WalkCost}
use Rattle.machine_semantics.specs.Safe.{Parts, ImageFits, ReadyFits, Ticks, TickFits, own_of, part_of, spare}
use Rattle.machine_semantics.specs.Whole.{StateFits}
use Rattle.machine_semantics.specs.Work.{HasLeft, IsBusy, worst_of}
use Rattle.machine_semantics.specs.Waits.{IsRanked, suspension_of, waits_of, IsDueFrom, is_waiting, Suspends, Spends, SuspensionFalls, ReleaseSuspends}
use Rattle.machine_safety.proofs.Ticking.{raise_fits, based, Based, tick_is_safe}
use Rattle.machine_safety.proofs.Whole.{get_of_set, length_owned}
use Rattle.machine_safety.proofs.Picked.{ChosenOf, chosen, finds_free}
use Rattle.machine_safety.proofs.Starting.{released_fits, ready_burn, starts_pass, release_keeps, time_out_keeps, device_keeps}
use Rattle.machine_safety.proofs.Settling.{woken_fits, own_limit}
use Rattle.machine_safety.proofs.Working.{left_elsewhere}
use Rattle.machine_safety.proofs.Staying.{wake_first_ready, wake_all_ready}

-- ---- time-outs come

-- no wait of process k is over at tick t
abbrev pub NotDue : ℕ → ℕ → State → Type 0
NotDue k t s = (c due number : ℕ) (job : Job) → slice_get s.threads k ≡ Some (Waiting c due number job) → due ≡ t → ⊥

either_keeps : (P : State → Type 0) (b : Bool) (x y : Started) → P x.state → P y.state → P (cond b x y).state
either_keeps P true x y p q = p
either_keeps P false x y p q = q

-- a time-out of any process begins no wait
time_out_not_due : (image : Image) (k t j : ℕ) (p : Process) (s : State) → NotDue k t s → NotDue k t (time_out image t j p s (slice_get s.threads j)).state
time_out_not_due image k t j p s not_due = by (slice_get s.threads j) where
  by : (o : Option Thread) → NotDue k t (time_out image t j p s o).state
  by None = not_due
  by (Some Idle) = not_due
  by (Some (Ready job)) = not_due
  by (Some (Waiting c due number job)) = by_due (nat_eq due t) where
    by_due : (d : Bool) → NotDue k t (cond d (told t j (act.TimeOut c number) (record s { queues = slice_set s.queues c (without j (queue_of s.queues c)) }) (Ready (record (raised p number job) { dispatch_ticks = 2 * image.over }))) (unchanged s)).state
    by_due false = not_due
    by_due true = λ c' due' number' job' at is. elim (get_of_set s.threads j (Ready (record (raised p number job) { dispatch_ticks = 2 * image.over })) k (Waiting c' due' number' job') at) [
      | inl new ↦ absurd (let both : Ready (record (raised p number job) { dispatch_ticks = 2 * image.over }) ≡ Waiting c' due' number' job' = new.1 in cc)
      | inr old ↦ not_due c' due' number' job' old is
    ]

-- the time-out of process k itself ends a wait that is over
own_time_out : (image : Image) (k t : ℕ) (p : Process) (s : State) → NotDue k t (time_out image t k p s (slice_get s.threads k)).state
own_time_out image k t p s = by (slice_get s.threads k) refl where
  by : (o : Option Thread) → slice_get s.threads k ≡ o → NotDue k t (time_out image t k p s o).state
  by None at = λ c due number job at' is. absurd cc
  by (Some Idle) at = λ c due number job at' is. absurd cc
  by (Some (Ready job)) at = λ c due number job at' is. absurd cc
  by (Some (Waiting c due number job)) at = by_due (nat_eq due t) refl where
    by_due : (d : Bool) → nat_eq due t ≡ d → NotDue k t (cond d (told t k (act.TimeOut c number) (record s { queues = slice_set s.queues c (without k (queue_of s.queues c)) }) (Ready (record (raised p number job) { dispatch_ticks = 2 * image.over }))) (unchanged s)).state
    by_due false not_now = λ c' due' number' job' at' is.
        absurd (let both : Some (Waiting c due number job) ≡ Some (Waiting c' due' number' job') = sym at ∙ at' in let same : due ≡ due' = cc in grind (arith, nat_tests, not_now, same, is))
    by_due true now = λ c' due' number' job' at' is.
        absurd (let new : slice_get (slice_set s.threads k (Ready (record (raised p number job) { dispatch_ticks = 2 * image.over }))) k ≡ Some (Ready (record (raised p number job) { dispatch_ticks = 2 * image.over })) = get_set s.threads k (Ready (record (raised p number job) { dispatch_ticks = 2 * image.over })) (Waiting c due number job) at in cc)

rank_not_due : (image : Image) (k t rank i : ℕ) (qs : List Process) (s : State) → NotDue k t s → NotDue k t (at_rank image t rank i qs s).state
rank_not_due image k t rank i [] s not_due = not_due
rank_not_due image k t rank i (q ∷ qs) s not_due =
    rank_not_due image k t rank (i + 1) qs _ (either_keeps (NotDue k t) (nat_eq q.rank rank) (time_out image t i q s (slice_get s.threads i)) (unchanged s) (time_out_not_due image k t i q s not_due) not_due)

ranks_not_due : (image : Image) (k t rank n : ℕ) (s : State) → NotDue k t s → NotDue k t (time_outs image t rank n s).state
ranks_not_due image k t rank zero s not_due = not_due
ranks_not_due image k t rank (suc n) s not_due = ranks_not_due image k t (rank + 1) n _ (rank_not_due image k t rank 0 image.processes s not_due)

-- the rank of process k comes
rank_comes : (image : Image) (k t rank i j : ℕ) (qs : List Process) (p : Process) (s : State) → slice_get qs j ≡ Some p → i + j ≡ k → p.rank ≡ rank → NotDue k t (at_rank image t rank i qs s).state
rank_comes image k t rank i j [] p s at is of_rank = absurd cc
rank_comes image k t rank i zero (q ∷ qs) p s at is of_rank =
    let same : q ≡ p = cc in
    let ranked : nat_eq q.rank rank ≡ true = (let r : q.rank ≡ rank = ap (λ (x : Process). x.rank) same ∙ of_rank in grind (arith, nat_tests, r)) in
    let here : i ≡ k = omega (arith, is) in
    let now : NotDue k t (time_out image t i q s (slice_get s.threads i)).state = subst (λ (x : ℕ). NotDue x t (time_out image t i q s (slice_get s.threads i)).state) here (own_time_out image i t q s) in
    rank_not_due image k t rank (i + 1) qs _ (subst (λ (b : Bool). NotDue k t (cond b (time_out image t i q s (slice_get s.threads i)) (unchanged s)).state) (sym ranked) now)
rank_comes image k t rank i (suc j) (q ∷ qs) p s at is of_rank = rank_comes image k t rank (i + 1) j qs p _ at (omega (arith, is)) of_rank

ranks_come : (image : Image) (k t rank n : ℕ) (p : Process) (s : State) → slice_get image.processes k ≡ Some p → rank ≤ p.rank → p.rank < rank + n → NotDue k t (time_outs image t rank n s).state
ranks_come image k t rank zero p s at low high = absurd (omega (arith, low, high))
ranks_come image k t rank (suc n) p s at low high = elim (cases_eq p.rank rank) [
  | inl now ↦ ranks_not_due image k t (rank + 1) n _ (rank_comes image k t rank 0 k image.processes p s at (omega arith) now)
  | inr later ↦ ranks_come image k t (rank + 1) n p _ at (let past : (p.rank ≡ rank) → ⊥ = later in let l : rank ≤ p.rank = low in elim (above rank p.rank l) [ inl lt ↦ omega (arith, lt) | inr eq ↦ absurd (past (sym eq)) ]) (omega (arith, high))
] where
  above : (a b : ℕ) → a ≤ b → (a < b) ⊎ (a ≡ b)
  above a b h = elim (cases_eq a b) [ inl is ↦ inr is | inr differ ↦ inl (strict a b h differ) ] where
    strict : (a b : ℕ) → a ≤ b → (a ≡ b → ⊥) → a < b
    strict a b h differ = grind (arith, h, differ)

pub starts_not_due : (image : Image) (script : Script) (t k : ℕ) (p : Process) (s : State) → IsRanked image → slice_get image.processes k ≡ Some p → NotDue k t (starts image script t s).state
unfolding starts
starts_not_due image script t k p s ranked at = ranks_come image k t 1 (length image.processes) p _ at (ranked k p at).0 (omega (arith, (ranked k p at).1))

-- ---- another process runs

-- the thread is as it was, or was taken out of a queue
abbrev pub IsWoken : Image → Thread → Thread → Type 0
IsWoken image th u = (u ≡ th) ⊎ (u ≡ woken image (Some th))

woken_twice : (image : Image) (th : Thread) → woken image (Some (woken image (Some th))) ≡ woken image (Some th)
woken_twice image Idle = refl
woken_twice image (Ready job) = refl
woken_twice image (Waiting c due number job) = refl

-- the thread at k after processes were taken out of a queue
abbrev pub Wakes : Image → ℕ → Thread → List Thread → Type 0
Wakes image k th ts = (v : Thread) × (slice_get ts k ≡ Some v) × IsWoken image th v

wake_other : (image : Image) (j k : ℕ) (ts : List Thread) (th : Thread) → Wakes image k th ts → Wakes image k th (wake image j ts)
wake_other image j k ts th (u, at, is) = elim (cases_eq j k) [
  | inl same ↦ (
    woken image (Some u),
    subst (λ (x : ℕ). slice_get (slice_set ts x (woken image (slice_get ts x))) k ≡ Some (woken image (Some u))) (sym same)
        (subst (λ (x : Option Thread). slice_get (slice_set ts k (woken image x)) k ≡ Some (woken image (Some u))) (sym at) (get_set ts k (woken image (Some u)) u at)),
    elim is [ inl old ↦ inr (ap (λ (x : Thread). woken image (Some x)) old) | inr new ↦ inr (ap (λ (x : Thread). woken image (Some x)) new ∙ woken_twice image th) ],
  )
  | inr differ ↦ (u, get_other ts j k (woken image (slice_get ts j)) differ ∙ at, is)
]

wake_first_other : (image : Image) (f : Option ℕ) (k : ℕ) (ts : List Thread) (th : Thread) → Wakes image k th ts → Wakes image k th (wake_first image f ts)
wake_first_other image None k ts th is = is
wake_first_other image (Some j) k ts th is = wake_other image j k ts th is

wake_all_other : (image : Image) (js : List ℕ) (k : ℕ) (ts : List Thread) (th : Thread) → Wakes image k th ts → Wakes image k th (wake_all image js ts)
wake_all_other image [] k ts th is = is
wake_all_other image (j ∷ js) k ts th is = wake_all_other image js k (wake image j ts) th (wake_other image j k ts th is)

-- what another's tick leaves of process k
pub record Left (image : Image) (s u : State) (k : ℕ) (th : Thread) : Type 0 where
  pub thread : Wakes image k th u.threads
  pub words : slice_get u.owned k ≡ slice_get s.owned k

settle_left : (image : Image) (t : ℕ) (s : State) (j k : ℕ) (p : Process) (job : Job) (out : Outcome) (th : Thread) → (j ≡ k → ⊥) → slice_get s.threads k ≡ Some th → Left image s (settle image t j p job s out).state k th
settle_left image t s j k p job out th differ at = by out where
  kept : (new : Thread) → Wakes image k th (slice_set s.threads j new)
  kept new = (th, get_other s.threads j k new differ ∙ at, inl refl)

  by : (out : Outcome) → Left image s (settle image t j p job s out).state k th
  by (Goes q) = record { thread = kept (Ready q.job); words = get_other s.owned j k q.owned differ }
  by (Does a q) = record { thread = kept (Ready q.job); words = get_other s.owned j k q.owned differ }
  by (Signals c q) = record { thread = wake_first_other image (first (queue_of s.queues c)) k (slice_set s.threads j (Ready q.job)) th (kept (Ready q.job)); words = get_other s.owned j k q.owned differ }
  by (Broadcasts c q) = record { thread = wake_all_other image (queue_of s.queues c) k (slice_set s.threads j (Ready q.job)) th (kept (Ready q.job)); words = get_other s.owned j k q.owned differ }
  by (Waits c limit number q) = record { thread = kept (Waiting c (t + limit + 1) number q.job); words = get_other s.owned j k q.owned differ }
  by (Raises number) = record { thread = kept (Ready (raised p number job)); words = refl }
  by Ends = record { thread = kept Idle; words = refl }
  by Stuck = record { thread = (th, at, inl refl); words = refl }

pub run_left : (image : Image) (t : ℕ) (s : State) (j k : ℕ) (p : Option Process) (x : Option Thread) (th : Thread) → (j ≡ k → ⊥) → slice_get s.threads k ≡ Some th → Left image s (run_thread image t j s p x).state k th
run_left image t s j k (Some p) (Some (Ready job)) th differ at = settle_left image t s j k p job (outcome image s job (owned_of (slice_get s.owned j)) job.dispatch_ticks) th differ at
run_left image t s j k (Some p) (Some Idle) th differ at = record { thread = (th, at, inl refl); words = refl }
run_left image t s j k (Some p) (Some (Waiting c due number job)) th differ at = record { thread = (th, at, inl refl); words = refl }
run_left image t s j k (Some p) None th differ at = record { thread = (th, at, inl refl); words = refl }
run_left image t s j k None x th differ at = record { thread = (th, at, inl refl); words = refl }

module _ (e : Where) (ps : ℕ → Parts) (image_fits : ImageFits e ps) where
  -- the same process with another thread, in a state with its words
  suspends : (s u : State) (t k n w : ℕ) (p : Process) (th : Thread) (left : WalkCost) → slice_get e.image.processes k ≡ Some p → slice_get u.threads k ≡ Some th
      → length (owned_of (slice_get s.owned k)) ≤ length (owned_of (slice_get u.owned k)) → HasLeft e p (ps k) th (owned_of (slice_get s.owned k)) s.shared left
      → IsDueFrom t th → suspension_of t th left ≤ n → waits_of th left ≤ w → Suspends e ps u t k n w
  suspends s u t k n w p th left process at words has due suspension waits = record {
    p = p;
    thread = th;
    left = left;
    process = process;
    there = at;
    has = left_elsewhere e p (ps k) th (owned_of (slice_get s.owned k)) (owned_of (slice_get u.owned k)) s.shared u.shared left words has;
    due = due;
    suspension = suspension;
    waits = waits;
  }

  -- process k does not run in the tick
  rests : (s u : State) (t k n w : ℕ) (o : Suspends e ps s t k n w) → IsBusy o.thread → NotDue k t s → Left e.image s u k o.thread → Spends e ps s u t k n w
  rests s u t k n w o busy not_due left = by o.thread busy o.there o.has o.due o.suspension o.waits left.thread where
    words : length (owned_of (slice_get s.owned k)) ≤ length (owned_of (slice_get u.owned k))
    words = omega (arith, ap (λ (x : Option (List ℤ)). length (owned_of x)) left.words)

    by : (th : Thread) → IsBusy th → slice_get s.threads k ≡ Some th → HasLeft e o.p (ps k) th (owned_of (slice_get s.owned k)) s.shared o.left → IsDueFrom t th → suspension_of t th o.left ≤ n → waits_of th o.left ≤ w
        → Wakes e.image k th u.threads → Spends e ps s u t k n w
    by Idle busy at has due suspension waits woke = absurd busy
    by (Ready job) busy at has due suspension waits woke =
        let now : slice_get u.threads k ≡ Some (Ready job) = elim woke.2 [ inl old ↦ woke.1 ∙ ap (λ (x : Thread). Some x) old | inr new ↦ woke.1 ∙ ap (λ (x : Thread). Some x) new ] in
        record {
          waited = λ is. absurd (let f : false ≡ true = ap is_waiting (sym at) ∙ is in cc);
          began = λ is_not is. absurd (let f : false ≡ true = ap is_waiting (sym now) ∙ is in cc);
          ran = λ is_not still. suspends s u (t + 1) k n w o.p (Ready job) o.left o.process now words has tt suspension waits;
        }
    by (Waiting c due_at number job) busy at has due suspension waits woke =
        let later : t < due_at = elim (cases_eq due_at t) [ inl is ↦ absurd (not_due c due_at number job at is) | inr differ ↦ (let d : due_at ≡ t → ⊥ = differ in let l : t ≤ due_at = due in grind (arith, l, d)) ] in
        record {
          waited = λ is. (
            n - 1,
            omega (arith, suspension, later),
            elim woke.2 [
              | inl old ↦ suspends s u (t + 1) k (n - 1) w o.p (Waiting c due_at number job) o.left o.process (woke.1 ∙ ap (λ (x : Thread). Some x) old) words has (omega (arith, later)) (omega (arith, suspension, later)) waits
              | inr new ↦ suspends s u (t + 1) k (n - 1) w o.p (Ready (record job { dispatch_ticks = 2 * e.image.over })) o.left o.process (woke.1 ∙ ap (λ (x : Thread). Some x) new) words
                  (woken_fits e o.p (ps k) job (2 * e.image.over) (owned_of (slice_get s.owned k)) s.shared o.left has) tt (omega (arith, suspension, later)) waits
            ],
          );
          began = λ is_not is. absurd (let f : true ≡ false = ap is_waiting (sym at) ∙ is_not in cc);
          ran = λ is_not still. absurd (let f : true ≡ false = ap is_waiting (sym at) ∙ is_not in cc);
        }

  -- process k runs in the tick, and begins no wait
  quiet : (s u : State) (t k n w : ℕ) (job : Job) (v : Thread) → slice_get s.threads k ≡ Some (Ready job) → slice_get u.threads k ≡ Some v → is_waiting (Some v) ≡ false → Suspends e ps u (t + 1) k n w → Spends e ps s u t k n w
  quiet s u t k n w job v at now not_waiting o = record {
    waited = λ is. absurd (let f : false ≡ true = ap is_waiting (sym at) ∙ is in cc);
    began = λ is_not is. absurd (let f : false ≡ true = sym not_waiting ∙ ap is_waiting (sym now) ∙ is in cc);
    ran = λ is_not still. o;
  }

  settle_spends : (t : ℕ) (s : State) (k n w : ℕ) (p : Process) (job : Job) (left : WalkCost) (out : Outcome) → slice_get e.image.processes k ≡ Some p → slice_get s.threads k ≡ Some (Ready job)
      → TickFits e p (ps k) job (owned_of (slice_get s.owned k)) s.shared left out → left.susp ≤ n → left.waits ≤ w → Spends e ps s (settle e.image t k p job s out).state t k n w
  settle_spends t s k n w p job left out process at fits susp waits = by out fits where
    own : List ℤ
    own = owned_of (slice_get s.owned k)

    put : (q : Own) (u : State) → Ticks e p (ps k) (part_of (ps k) job.handling) job.inside job.dispatch_ticks own s.shared left q → slice_get u.threads k ≡ Some (Ready q.job) → u.owned ≡ slice_set s.owned k q.owned → Spends e ps s u t k n w
    put q u g now words =
        quiet s u t k n w job (Ready q.job) at now refl
        (record {
          p = p;
          thread = Ready q.job;
          left = g.after;
          process = process;
          there = now;
          has = left_elsewhere e p (ps k) (Ready q.job) q.owned (owned_of (slice_get u.owned k)) q.shared u.shared g.after
              (omega (arith, length_owned s.owned k k q.owned g.owned, g.owned, ap (λ (x : List (List ℤ)). length (owned_of (slice_get x k))) words)) g.fits;
          due = tt;
          suspension = omega (arith, g.less, susp);
          waits = omega (arith, g.less, waits);
        })

    by : (out : Outcome) → TickFits e p (ps k) job own s.shared left out → Spends e ps s (settle e.image t k p job s out).state t k n w
    by (Goes q) g = put q (settle e.image t k p job s (Goes q)).state g (get_set s.threads k (Ready q.job) (Ready job) at) refl
    by (Does a q) g = put q (settle e.image t k p job s (Does a q)).state g (get_set s.threads k (Ready q.job) (Ready job) at) refl
    by (Signals c q) g = put q (settle e.image t k p job s (Signals c q)).state g
        (wake_first_ready e.image (first (queue_of s.queues c)) k (slice_set s.threads k (Ready q.job)) q.job (get_set s.threads k (Ready q.job) (Ready job) at)) refl
    by (Broadcasts c q) g = put q (settle e.image t k p job s (Broadcasts c q)).state g
        (wake_all_ready e.image (queue_of s.queues c) k (slice_set s.threads k (Ready q.job)) q.job (get_set s.threads k (Ready q.job) (Ready job) at)) refl
    by (Waits c limit number q) g =
        let new : Thread = Waiting c (t + limit + 1) number q.job in
        let now : slice_get (slice_set s.threads k new) k ≡ Some new = get_set s.threads k new (Ready job) at in
        record {
          waited = λ is. absurd (let f : false ≡ true = ap is_waiting (sym at) ∙ is in cc);
          began = λ is_not is. (
            w - 1,
            omega (arith, g.less, waits),
            record {
              p = p;
              thread = new;
              left = g.after;
              process = process;
              there = now;
              has = left_elsewhere e p (ps k) new q.owned (owned_of (slice_get (slice_set s.owned k q.owned) k)) q.shared q.shared g.after (omega (arith, length_owned s.owned k k q.owned g.owned, g.owned)) g.fits;
              due = omega arith;
              suspension = omega (arith, g.less, susp);
              waits = omega (arith, g.less, waits);
            },
          );
          ran = λ is_not still. absurd (let f : true ≡ false = ap is_waiting (sym now) ∙ still in cc);
        }
    by (Raises number) g =
        let now : slice_get (slice_set s.threads k (Ready (raised p number job))) k ≡ Some (Ready (raised p number job)) = get_set s.threads k (Ready (raised p number job)) (Ready job) at in
        quiet s (settle e.image t k p job s (Raises number)).state t k n w job (Ready (raised p number job)) at now refl
        (record { p = p; thread = Ready (raised p number job); left = g.after; process = process; there = now; has = g.fits; due = tt; suspension = omega (arith, g.less, susp); waits = omega (arith, g.less, waits) })
    by Ends g =
        let now : slice_get (slice_set s.threads k Idle) k ≡ Some Idle = get_set s.threads k Idle (Ready job) at in
        quiet s (settle e.image t k p job s Ends).state t k n w job Idle at now refl
        (record { p = p; thread = Idle; left = left; process = process; there = now; has = tt; due = tt; suspension = omega arith; waits = omega arith })
    by Stuck g = absurd g

  -- the tick of the process that is picked
  pub tick_spends : (t : ℕ) (s : State) (k n w : ℕ) (o : Suspends e ps s t k n w) → IsBusy o.thread → NotDue k t s → StateFits e ps s → (x : Option Candidate) → ChosenOf e.image 0 e.image.processes s.threads x
      → Spends e ps s (run_picked e.image t s x).state t k n w
  tick_spends t s k n w o busy not_due fits None none = rests s s t k n w o busy not_due (record { thread = (o.thread, o.there, inl refl); words = refl })
  tick_spends t s k n w o busy not_due fits (Some c) ch = elim (cases_eq c.place k) [
    | inl same ↦ it same
    | inr differ ↦ rests s (run_picked e.image t s (Some c)).state t k n w o busy not_due (run_left e.image t s c.place k (slice_get e.image.processes c.place) (slice_get s.threads c.place) o.thread differ o.there)
  ] where
    own : List ℤ
    own = owned_of (slice_get s.owned k)

    it : c.place ≡ k → Spends e ps s (run_picked e.image t s (Some c)).state t k n w
    it same =
        let index : ch.index ≡ k = omega (arith, ch.place, same) in
        let process : slice_get e.image.processes k ≡ Some ch.p = ap (λ (x : ℕ). slice_get e.image.processes x) (sym index) ∙ ch.process in
        let at : slice_get s.threads k ≡ Some (Ready ch.job) = ap (λ (x : ℕ). slice_get s.threads x) (sym index) ∙ ch.ready in
        let same_p : o.p ≡ ch.p = (let both : Some o.p ≡ Some ch.p = sym o.process ∙ process in cc) in
        let same_t : o.thread ≡ Ready ch.job = (let both : Some o.thread ≡ Some (Ready ch.job) = sym o.there ∙ at in cc) in
        let has : HasLeft e ch.p (ps k) (Ready ch.job) own s.shared o.left =
        subst (λ (th : Thread). HasLeft e ch.p (ps k) th own s.shared o.left) same_t (subst (λ (q : Process). HasLeft e q (ps k) o.thread own s.shared o.left) same_p o.has) in
        let susp : o.left.susp ≤ n = subst (λ (th : Thread). suspension_of t th o.left ≤ n) same_t o.suspension in
        let waits : o.left.waits ≤ w = subst (λ (th : Thread). waits_of th o.left ≤ w) same_t o.waits in
        subst (λ (j : ℕ). Spends e ps s (run_thread e.image t j s (slice_get e.image.processes j) (slice_get s.threads j)).state t k n w) (sym same)
        (subst (λ (x : Option Process). Spends e ps s (run_thread e.image t k s x (slice_get s.threads k)).state t k n w) (sym process)
        (subst (λ (x : Option Thread). Spends e ps s (run_thread e.image t k s (Some ch.p) x).state t k n w) (sym at)
        (by_burn process at has susp waits ch.job.dispatch_ticks refl))) where
          by_burn : slice_get e.image.processes k ≡ Some ch.p → slice_get s.threads k ≡ Some (Ready ch.job) → ReadyFits e ch.p (ps k) ch.job own s.shared o.left → o.left.susp ≤ n → o.left.waits ≤ w
              → (b : ℕ) → ch.job.dispatch_ticks ≡ b → Spends e ps s (settle e.image t k ch.p ch.job s (outcome e.image s ch.job own b)).state t k n w
          by_burn process at has susp waits zero is =
              settle_spends t s k n w ch.p ch.job o.left (outcome e.image s ch.job own zero) process at
              (tick_is_safe e (ps k) s ch.p ch.job own o.left image_fits.routines (image_fits.processes k ch.p process) fits.sized has
              (finds_free e ps s c ch (part_of (ps k) ch.job.handling) own fits (own_limit e ps image_fits ch.p (ps k) ch.job.handling (image_fits.processes k ch.p process))))
              susp waits
          by_burn process at has susp waits (suc b) is =
              let new : Job = record (ch.job) { dispatch_ticks = b } in
              let now : slice_get (slice_set s.threads k (Ready new)) k ≡ Some (Ready new) = get_set s.threads k (Ready new) (Ready ch.job) at in
              quiet s (settle e.image t k ch.p ch.job s (outcome e.image s ch.job own (suc b))).state t k n w ch.job (Ready new) at now refl
              (record {
                p = ch.p;
                thread = Ready new;
                left = o.left;
                process = process;
                there = now;
                has = left_elsewhere e ch.p (ps k) (Ready new) own (owned_of (slice_get (slice_set s.owned k own) k)) s.shared s.shared o.left (omega (arith, length_owned s.owned k k own refl)) (ready_burn e ch.p (ps k) ch.job b own s.shared o.left has);
                due = tt;
                suspension = susp;
                waits = waits;
              })

  -- ---- start events

  -- an unfinished process, and how long it may still wait
  unfoldable pub Unfinished : ℕ → ℕ → ℕ → ℕ → State → Type 0
  Unfinished t k n w s = StateFits e ps s × ((o : Suspends e ps s t k n w) × IsBusy o.thread)

  same_suspends : (s u : State) (t k n w : ℕ) (o : Suspends e ps s t k n w) → slice_get u.threads k ≡ slice_get s.threads k → slice_get u.owned k ≡ slice_get s.owned k → (o' : Suspends e ps u t k n w) × (o'.thread ≡ o.thread)
  unfolding suspends
  same_suspends s u t k n w o threads words = (
    suspends s u t k n w o.p o.thread o.left o.process (threads ∙ o.there) (omega (arith, ap (λ (x : Option (List ℤ)). length (owned_of x)) words)) o.has o.due o.suspension o.waits,
    refl,
  )

  still_busy : (s u : State) (t k n w : ℕ) → (o : Suspends e ps s t k n w) × IsBusy o.thread → slice_get u.threads k ≡ slice_get s.threads k → slice_get u.owned k ≡ slice_get s.owned k → (o : Suspends e ps u t k n w) × IsBusy o.thread
  still_busy s u t k n w b threads words = let new : (o' : Suspends e ps u t k n w) × (o'.thread ≡ b.0.thread) = same_suspends s u t k n w b.0 threads words in (new.0, subst IsBusy (sym new.1) b.1)

  pub release_unfinished : (now k n w t j : ℕ) (p : Process) (s : State) → Unfinished now k n w s → slice_get e.image.processes j ≡ Some p → Unfinished now k n w (release e.image t j p s).state
  unfolding Unfinished
  release_unfinished now k n w t j p s u process = (release_keeps e ps image_fits t j p s u.0 process, elim (cases_eq j k) [ inl same ↦ at_k same | inr differ ↦ past_k differ (slice_get s.threads j) ]) where
    at_k : j ≡ k → (o : Suspends e ps (release e.image t j p s).state now k n w) × IsBusy o.thread
    at_k same = by u.1.0.thread (ap (λ (x : ℕ). slice_get s.threads x) same ∙ u.1.0.there) u.1.1 where
      by : (th : Thread) → slice_get s.threads j ≡ Some th → IsBusy th → (o : Suspends e ps (release e.image t j p s).state now k n w) × IsBusy o.thread
      by Idle at busy = absurd busy
      by (Ready job) at busy = subst (λ (x : Option Thread). (o : Suspends e ps (release_thread e.image t j p s x).state now k n w) × IsBusy o.thread) (sym at) u.1
      by (Waiting c due number job) at busy = subst (λ (x : Option Thread). (o : Suspends e ps (release_thread e.image t j p s x).state now k n w) × IsBusy o.thread) (sym at) u.1

    past_k : (j ≡ k → ⊥) → (x : Option Thread) → (o : Suspends e ps (release_thread e.image t j p s x).state now k n w) × IsBusy o.thread
    past_k differ (Some Idle) = still_busy s (told t j act.Release s (Ready (released e.image p))).state now k n w u.1 (get_other s.threads j k (Ready (released e.image p)) differ) refl
    past_k differ (Some (Ready job)) = u.1
    past_k differ (Some (Waiting c due number job)) = u.1
    past_k differ None = u.1

  pub time_out_unfinished : (now k n w t j : ℕ) (p : Process) (s : State) → Unfinished now k n w s → slice_get e.image.processes j ≡ Some p → Unfinished now k n w (time_out e.image t j p s (slice_get s.threads j)).state
  unfolding Unfinished
  time_out_unfinished now k n w t j p s u process = (time_out_keeps e ps image_fits t j p s u.0 process, elim (cases_eq j k) [ inl same ↦ at_k same | inr differ ↦ past_k differ (slice_get s.threads j) ]) where
    o : Suspends e ps s now k n w
    o = u.1.0

    at_k : j ≡ k → (o : Suspends e ps (time_out e.image t j p s (slice_get s.threads j)).state now k n w) × IsBusy o.thread
    at_k same = by o.thread (ap (λ (x : ℕ). slice_get s.threads x) same ∙ o.there) o.there o.has u.1.1 where
      of_same : p ≡ o.p
      of_same = let both : Some p ≡ Some o.p = sym process ∙ (ap (λ (x : ℕ). slice_get e.image.processes x) same ∙ o.process) in cc

      by : (th : Thread) → slice_get s.threads j ≡ Some th → slice_get s.threads k ≡ Some th → HasLeft e o.p (ps k) th (owned_of (slice_get s.owned k)) s.shared o.left → IsBusy th
          → (o : Suspends e ps (time_out e.image t j p s (slice_get s.threads j)).state now k n w) × IsBusy o.thread
      by Idle at at_k' has busy = absurd busy
      by (Ready job) at at_k' has busy = subst (λ (x : Option Thread). (o : Suspends e ps (time_out e.image t j p s x).state now k n w) × IsBusy o.thread) (sym at) u.1
      by (Waiting c due number job) at at_k' has busy =
          subst (λ (x : Option Thread). (o : Suspends e ps (time_out e.image t j p s x).state now k n w) × IsBusy o.thread) (sym at) (by_due (nat_eq due t)) where
            own : List ℤ
            own = owned_of (slice_get s.owned k)

            b : Based (part_of (ps k) job.handling) (own_of job own s.shared) has.cost
            b = based e (part_of (ps k) job.handling) (own_of job own s.shared) has.cost (inr has.fits)

            left : WalkCost
            left = record { run = 4 + spare (ps k) job.handling; susp = 0; waits = 0; leave = 0 }

            queues : List (List ℕ)
            queues = slice_set s.queues c (without j (queue_of s.queues c))

            new : Thread
            new = Ready (record (raised p number job) { dispatch_ticks = 2 * e.image.over })

            raised_it : ReadyFits e o.p (ps k) (record (raised o.p number job) { dispatch_ticks = 2 * e.image.over }) own s.shared left
            raised_it = ready_burn e o.p (ps k) (raised o.p number job) (2 * e.image.over) own s.shared left
                (raise_fits e o.p (ps k) job own s.shared number left (image_fits.processes k o.p o.process) has.ends b.locals b.enough (omega arith))

            by_due : (d : Bool) → (o : Suspends e ps (cond d (told t j (act.TimeOut c number) (record s { queues = queues }) new) (unchanged s)).state now k n w) × IsBusy o.thread
            by_due false = u.1
            by_due true = (
              record {
                p = o.p;
                thread = new;
                left = left;
                process = o.process;
                there = subst (λ (x : ℕ). slice_get (slice_set s.threads x new) k ≡ Some new) (sym same) (get_set s.threads k new (Waiting c due number job) at_k');
                has = subst (λ (q : Process). ReadyFits e o.p (ps k) (record (raised q number job) { dispatch_ticks = 2 * e.image.over }) own s.shared left) (sym of_same) raised_it;
                due = tt;
                suspension = omega arith;
                waits = omega arith;
              },
              tt,
            )

    past_k : (j ≡ k → ⊥) → (x : Option Thread) → (o : Suspends e ps (time_out e.image t j p s x).state now k n w) × IsBusy o.thread
    past_k differ (Some Idle) = u.1
    past_k differ (Some (Ready job)) = u.1
    past_k differ None = u.1
    past_k differ (Some (Waiting c due number job)) = by_due (nat_eq due t) where
      queues : List (List ℕ)
      queues = slice_set s.queues c (without j (queue_of s.queues c))

      new : Thread
      new = Ready (record (raised p number job) { dispatch_ticks = 2 * e.image.over })

      by_due : (d : Bool) → (o : Suspends e ps (cond d (told t j (act.TimeOut c number) (record s { queues = queues }) new) (unchanged s)).state now k n w) × IsBusy o.thread
      by_due false = u.1
      by_due true = still_busy s (told t j (act.TimeOut c number) (record s { queues = queues }) new).state now k n w u.1 (get_other s.threads j k new differ) refl

  pub device_unfinished : (now k n w d : ℕ) (v : ℤ) (s : State) → Unfinished now k n w s → Unfinished now k n w (record s { devices = slice_set s.devices d v })
  unfolding Unfinished
  device_unfinished now k n w d v s u = (device_keeps e ps image_fits d v s u.0, still_busy s (record s { devices = slice_set s.devices d v }) now k n w u.1 refl refl)

  falls : (script : Script) (t : ℕ) (s : State) (k n w : ℕ) → IsRanked e.image → StateFits e ps s → (o : Suspends e ps s t k n w) → IsBusy o.thread → Spends e ps (starts e.image script t s).state (tick e.image script t s).state t k n w
  unfolding tick pick Unfinished
  falls script t s k n w ranked fits o busy =
      let s1 : State = (starts e.image script t s).state in
      let u : Unfinished t k n w s1 = starts_pass e (Unfinished t k n w) (release_unfinished t k n w) (time_out_unfinished t k n w) (device_unfinished t k n w) script t s (fits, (o, busy)) in
      tick_spends t s1 k n w u.1.0 u.1.1 (starts_not_due e.image script t k o.p s ranked o.process) u.0 (least e.image 0 e.image.processes s1.threads) (chosen e.image 0 e.image.processes s1.threads)

pub suspension_falls : SuspensionFalls
suspension_falls e ps script t s k n w image_fits ranked fits o busy = falls e ps image_fits script t s k n w ranked fits o busy

-- a process that has just been released
pub fresh : (e : Where) (ps : ℕ → Parts) → ImageFits e ps → (now t k : ℕ) (p : Process) (s : State) → StateFits e ps s → slice_get e.image.processes k ≡ Some p → slice_get s.threads k ≡ Some Idle
    → (o : Suspends e ps (release_thread e.image t k p s (Some Idle)).state now k (worst_of (ps k)).susp (worst_of (ps k)).waits) × IsBusy o.thread
fresh e ps image_fits now t k p s fits process idle = (
  record {
    p = p;
    thread = Ready (released e.image p);
    left = worst_of (ps k);
    process = process;
    there = get_set s.threads k (Ready (released e.image p)) Idle idle;
    has = released_fits e p (ps k) (owned_of (slice_get s.owned k)) s.shared (image_fits.processes k p process) (fits.threads k p Idle process idle);
    due = tt;
    suspension = omega arith;
    waits = omega arith;
  },
  tt,
)

pub release_suspends : ReleaseSuspends
release_suspends e ps t k p s image_fits fits process idle =
    subst (λ (x : Option Thread). Suspends e ps (release_thread e.image t k p s x).state t k (worst_of (ps k)).susp (worst_of (ps k)).waits) (sym idle) (fresh e ps image_fits t t k p s fits process idle).0
