-- In the whole log each release is followed by its end within the bound.
use Rattle.std.proofs.Common.{◌≡◌, ◌≤◌, ◌<◌, ◌+◌, ◌-◌, ◌*◌, ◌⊎◌, ◌++◌, inl, inr, ℕ, zero, suc, List, [], ◌∷◌, Option, Some, None, length, append_assoc, arith, refl, ap, sym, subst, ◌∙◌, true, false, Bool}
use Rattle.std.specs.Prelude.{slice_get, slice_set, cond, nat_eq, ◌&&◌, ◌||◌, IsSomeAnd}
use Rattle.std.proofs.lemmas.Bool.{cases_lt, and_parts}
use Rattle.std.proofs.lemmas.Bool.Decides.{nat_tests}
use Rattle.base.specs.declared.event.Event.{Event}
use Rattle.base.specs.declared.event.Act.TheVariants as act
use Rattle.source_semantics.specs.Source.{ends_at, first_end}
use Rattle.source_semantics.specs.Source as source
use Rattle.machine_semantics.specs.Image.{Image, Process, Script, Line, Sets, Occurs}
use Rattle.machine_semantics.specs.State.{Job, Thread, Idle, Ready, Waiting, State}
use Rattle.machine_semantics.specs.Effect.{Outcome, Goes, Does, Signals, Broadcasts, Waits, Raises, Ends, Stuck}
use Rattle.machine_semantics.specs.Starts.{Started, unchanged, told, release, release_thread, occurs, line, lines, is_periodic_due, periodic, raised, without, queue_of, time_out, at_rank, time_outs, starts}
use Rattle.machine_semantics.specs.Tick.{Candidate, settle, outcome, owned_of, run_thread, run_picked, pick, tick}
use Rattle.machine_semantics.specs.Run.{state_at, events_from, events}
use Rattle.sched_timing.specs.Views.{occurs_at, is_event_due, is_due, during}
use Rattle.sched_timing.proofs.Begun.{each, named, periodic_each, occurs_each}
use Rattle.sched_timing.proofs.Threads.{next_state}
use Rattle.sched_timing.proofs.Told.{told_is}
use Rattle.sched_timing.proofs.Quiet.{is_release, IsQuiet, outcome_quiet}

-- ---- of each event

abbrev pub Each : (Event → Type 0) → List Event → Type 0
Each P [] = Unit {0}
Each P (x ∷ xs) = P x × Each P xs

pub each_append : (P : Event → Type 0) (xs ys : List Event) → Each P xs → Each P ys → Each P (xs ++ ys)
each_append P [] ys first second = second
each_append P (x ∷ xs) ys first second = (first.0, each_append P xs ys first.1 second)

pub each_weaker : (P Q : Event → Type 0) (xs : List Event) → ((x : Event) → P x → Q x) → Each P xs → Each Q xs
each_weaker P Q [] weaker all = tt
each_weaker P Q (x ∷ xs) weaker all = (weaker x all.0, each_weaker P Q xs weaker all.1)

-- ---- start events

-- an event of the start of tick t: a release is due
pub record IsStart (image : Image) (script : Script) (t : ℕ) (x : Event) : Type 0 where
  pub tick : x.tick ≡ t
  pub due : (p : Process) → slice_get image.processes x.proc ≡ Some p → x.act ≡ act.Release → is_due script t p ≡ true

module _ (image : Image) (script : Script) (t : ℕ) where
  abbrev Fair : List Event → Type 0
  Fair xs = Each (IsStart image script t) xs

  release_fair : (k : ℕ) (q : Process) (s : State) → slice_get image.processes k ≡ Some q → is_due script t q ≡ true → Fair (release image t k q s).events
  release_fair k q s process due = by (slice_get s.threads k) where
    by : (o : Option Thread) → Fair (release_thread image t k q s o).events
    by None = tt
    by (Some Idle) = (record { tick = refl; due = λ p at is. (let same : q ≡ p = (let both : Some q ≡ Some p = sym process ∙ at in cc) in ap (λ (x : Process). is_due script t x) (sym same) ∙ due) }, tt)
    by (Some (Ready job)) = tt
    by (Some (Waiting c due' number job)) = tt

  either_fair : (b : Bool) (x y : Started) → (b ≡ true → Fair x.events) → Fair y.events → Fair (cond b x y).events
  either_fair true x y p q = p refl
  either_fair false x y p q = q

  each_fair : (test : Process → Bool) → ((q : Process) → test q ≡ true → is_due script t q ≡ true) → (i : ℕ) (qs : List Process) (s : State) → ((j : ℕ) (q : Process) → slice_get qs j ≡ Some q → slice_get image.processes (i + j) ≡ Some q) → Fair (each image t test i qs s).events
  each_fair test due i [] s from = tt
  each_fair test due i (q ∷ qs) s from =
      let a : Started = cond (test q) (release image t i q s) (unchanged s) in
      each_append (IsStart image script t) a.events (each image t test (i + 1) qs a.state).events
      (either_fair (test q) (release image t i q s) (unchanged s) (λ is. release_fair i q s (let z : i + 0 ≡ i = omega arith in subst (λ (x : ℕ). slice_get image.processes x ≡ Some q) z (from 0 q refl)) (due q is)) tt)
      (each_fair test due (i + 1) qs a.state (λ j r at. (let z : i + suc j ≡ i + 1 + j = omega arith in subst (λ (x : ℕ). slice_get image.processes x ≡ Some r) z (from (suc j) r at))))

  from_start : (j : ℕ) (q : Process) → slice_get image.processes j ≡ Some q → slice_get image.processes (0 + j) ≡ Some q
  from_start j q at = let z : j ≡ 0 + j = omega arith in subst (λ (x : ℕ). slice_get image.processes x ≡ Some q) z at

  or_first : (a b : Bool) → a ≡ true → a || b ≡ true
  or_first true b is = refl
  or_first false b is = absurd cc

  or_second : (a b : Bool) → b ≡ true → a || b ≡ true
  or_second true b is = refl
  or_second false b is = is

  both_true : (a b : Bool) → a ≡ true → b ≡ true → a && b ≡ true
  both_true true b is is' = is'
  both_true false b is is' = absurd cc

  lines_fair : (ls : List Line) (s : State) → ((n : ℕ) → occurs_at ls t n ≡ true → occurs_at script.lines t n ≡ true) → Fair (lines image t ls s).events
  lines_fair [] s among = tt
  lines_fair (Sets u d v ∷ ls) s among =
      each_append (IsStart image script t) (line image t (Sets u d v) s).events (lines image t ls (line image t (Sets u d v) s).state).events
      (either_fair (nat_eq u t) (unchanged (record s { devices = slice_set s.devices d v })) (unchanged s) (λ is. tt) tt)
      (lines_fair ls (line image t (Sets u d v) s).state among)
  lines_fair (Occurs u n ∷ ls) s among =
      each_append (IsStart image script t) (line image t (Occurs u n) s).events (lines image t ls (line image t (Occurs u n) s).state).events
      (either_fair (nat_eq u t) (occurs image t n 0 image.processes s) (unchanged s)
      (λ is. subst (λ (x : Started). Fair x.events) (sym (occurs_each image t n 0 image.processes s))
      (each_fair (named n) (λ q test.
      (let it : (nat_eq q.kind 1 ≡ true) × (nat_eq q.event n ≡ true) = and_parts (nat_eq q.kind 1) (nat_eq q.event n) test in
      or_first (is_event_due script t q) (is_periodic_due t q)
      (both_true (nat_eq q.kind 1) (occurs_at script.lines t q.event) it.0 (among q.event (or_first (nat_eq u t && nat_eq q.event n) (occurs_at ls t q.event) (both_true (nat_eq u t) (nat_eq q.event n) is it.1)))))) 0 image.processes s from_start)) tt)
      (lines_fair ls (line image t (Occurs u n) s).state (λ m is. among m (or_second (nat_eq u t && nat_eq m n) (occurs_at ls t m) is)))

  time_out_fair : (k : ℕ) (p : Process) (s : State) (o : Option Thread) → Fair (time_out image t k p s o).events
  time_out_fair k p s None = tt
  time_out_fair k p s (Some Idle) = tt
  time_out_fair k p s (Some (Ready job)) = tt
  time_out_fair k p s (Some (Waiting c due number job)) =
      either_fair (nat_eq due t) (told t k (act.TimeOut c number) (record s { queues = slice_set s.queues c (without k (queue_of s.queues c)) }) (Ready (record (raised p number job) { dispatch_ticks = 2 * image.over }))) (unchanged s)
      (λ is. (record { tick = refl; due = λ q at release_it. absurd cc }, tt)) tt

  at_rank_fair : (rank i : ℕ) (qs : List Process) (s : State) → Fair (at_rank image t rank i qs s).events
  at_rank_fair rank i [] s = tt
  at_rank_fair rank i (q ∷ qs) s =
      let a : Started = cond (nat_eq q.rank rank) (time_out image t i q s (slice_get s.threads i)) (unchanged s) in
      each_append (IsStart image script t) a.events (at_rank image t rank (i + 1) qs a.state).events
      (either_fair (nat_eq q.rank rank) (time_out image t i q s (slice_get s.threads i)) (unchanged s) (λ is. time_out_fair i q s (slice_get s.threads i)) tt) (at_rank_fair rank (i + 1) qs a.state)

  time_outs_fair : (rank n : ℕ) (s : State) → Fair (time_outs image t rank n s).events
  time_outs_fair rank zero s = tt
  time_outs_fair rank (suc n) s =
      each_append (IsStart image script t) (at_rank image t rank 0 image.processes s).events (time_outs image t (rank + 1) n (at_rank image t rank 0 image.processes s).state).events
      (at_rank_fair rank 0 image.processes s) (time_outs_fair (rank + 1) n (at_rank image t rank 0 image.processes s).state)

  pub starts_fair : (s : State) → Fair (starts image script t s).events
  unfolding starts
  starts_fair s =
      let a : Started = lines image t script.lines s in
      let b : Started = periodic image t 0 image.processes a.state in
      each_append (IsStart image script t) a.events (b.events ++ (time_outs image t 1 (length image.processes) b.state).events) (lines_fair script.lines s (λ n is. is))
      (each_append (IsStart image script t) b.events (time_outs image t 1 (length image.processes) b.state).events
      (subst (λ (x : Started). Fair x.events) (sym (periodic_each image t 0 image.processes a.state))
      (each_fair (is_periodic_due t) (λ q test. or_second (is_event_due script t q) (is_periodic_due t q) test) 0 image.processes a.state from_start))
      (time_outs_fair 1 (length image.processes) b.state))

-- ---- the event of the process that runs

-- an event of tick t that is no release
pub record IsLater (t : ℕ) (x : Event) : Type 0 where
  pub tick : x.tick ≡ t
  pub quiet : is_release x.act ≡ false

settle_later : (image : Image) (t k : ℕ) (p : Process) (job : Job) (s : State) (out : Outcome) → IsQuiet out → Each (IsLater t) (settle image t k p job s out).events
settle_later image t k p job s (Goes o) quiet = tt
settle_later image t k p job s (Does a o) quiet = (record { tick = refl; quiet = quiet }, tt)
settle_later image t k p job s (Signals c o) quiet = (record { tick = refl; quiet = refl }, tt)
settle_later image t k p job s (Broadcasts c o) quiet = (record { tick = refl; quiet = refl }, tt)
settle_later image t k p job s (Waits c limit number o) quiet = (record { tick = refl; quiet = refl }, tt)
settle_later image t k p job s (Raises number) quiet = (record { tick = refl; quiet = refl }, tt)
settle_later image t k p job s Ends quiet = (record { tick = refl; quiet = refl }, tt)
settle_later image t k p job s Stuck quiet = tt

run_later : (image : Image) (t k : ℕ) (s : State) (p : Option Process) (th : Option Thread) → Each (IsLater t) (run_thread image t k s p th).events
run_later image t k s (Some p) (Some (Ready job)) = settle_later image t k p job s (outcome image s job (owned_of (slice_get s.owned k)) job.dispatch_ticks) (outcome_quiet image s job (owned_of (slice_get s.owned k)) job.dispatch_ticks)
run_later image t k s (Some p) (Some Idle) = tt
run_later image t k s (Some p) (Some (Waiting c due number job)) = tt
run_later image t k s (Some p) None = tt
run_later image t k s None th = tt

pub picked_later : (image : Image) (t : ℕ) (s : State) (o : Option Candidate) → Each (IsLater t) (run_picked image t s o).events
picked_later image t s None = tt
picked_later image t s (Some c) = run_later image t c.place s (slice_get image.processes c.place) (slice_get s.threads c.place)

-- ---- the first end

abbrev pub end_of : (t k : ℕ) → Event
end_of t k = record { tick = t; proc = k; act = act.End }

pub first_here : (k e : ℕ) (ys : List Event) → first_end k (end_of e k ∷ ys) ≡ Some e
first_here k e ys = let same : nat_eq k k ≡ true = grind (arith, nat_tests) in ap (λ (b : Bool). cond (b && true) (Some e) (first_end k ys)) same

-- it comes no later than at tick e
abbrev pub Soon : ℕ → ℕ → List Event → Type 0
Soon k e ys = IsSomeAnd (first_end k ys) (λ u. u ≤ e)

pub soon_append : (k e : ℕ) (xs ys : List Event) → Each (λ x. x.tick ≤ e) xs → Soon k e ys → Soon k e (xs ++ ys)
soon_append k e [] ys all soon = soon
soon_append k e (x ∷ xs) ys all soon = by (ends_at k x) (soon_append k e xs ys all.1 soon) where
  by : (b : Bool) → Soon k e (xs ++ ys) → IsSomeAnd (cond b (Some x.tick) (first_end k (xs ++ ys))) (λ u. u ≤ e)
  by true rest = all.0
  by false rest = rest

-- ---- the whole log

pub some_weaker : (o : Option ℕ) (e n : ℕ) → e < n → IsSomeAnd o (λ u. u ≤ e) → IsSomeAnd o (λ u. u < n)
some_weaker (Some u) e n less soon = omega (arith, less, soon)
some_weaker None e n less soon = soon

-- the events of the process that runs in tick t
abbrev pub acted_at : Image → Script → ℕ → List Event
acted_at image script t = (run_picked image t (during image script t) (pick image (during image script t).threads)).events

-- an activation that is released at tick t ends at a tick within the bound
abbrev pub EndsSoon : Image → Script → (k bound t : ℕ) → Type 0
EndsSoon image script k bound t = (e : ℕ) × (t ≤ e) × (e < t + bound) × (acted_at image script e ≡ end_of e k ∷ [])

module _ (image : Image) (script : Script) (k bound : ℕ) (p : Process) (process : slice_get image.processes k ≡ Some p)
    (ends : (t : ℕ) → is_due script t p ≡ true → t + bound ≤ script.end_tick → EndsSoon image script k bound t) where
  -- each release of the list is followed by an end within the bound
  abbrev AllEnd : List Event → Type 0
  AllEnd [] = Unit {0}
  AllEnd (x ∷ xs) = (x ≡ record { tick = x.tick; proc = k; act = act.Release } → x.tick + bound ≤ script.end_tick → IsSomeAnd (first_end k xs) (λ u. u < x.tick + bound)) × AllEnd xs

  abbrev rest_of : (n t : ℕ) → List Event
  rest_of n t = events_from image script n t (state_at image script t)

  -- what comes after the events of a tick
  rest_is : (n t : ℕ) → rest_of (suc n) t ≡ (starts image script t (state_at image script t)).events ++ (acted_at image script t ++ rest_of n (suc t))
  unfolding events_from
  rest_is n t =
      let later : t + 1 ≡ suc t = omega arith in
      let next : events_from image script n (t + 1) (tick image script t (state_at image script t)).state ≡ rest_of n (suc t) =
      ap (λ (u : ℕ). events_from image script n u (tick image script t (state_at image script t)).state) later ∙ ap (λ (s : State). events_from image script n (suc t) s) (sym (next_state image script t)) in
      ap (λ (es : List Event). es ++ events_from image script n (t + 1) (tick image script t (state_at image script t)).state) (told_is image script t)
      ∙ (append_assoc (starts image script t (state_at image script t)).events (acted_at image script t) (events_from image script n (t + 1) (tick image script t (state_at image script t)).state)
      ∙ ap (λ (es : List Event). (starts image script t (state_at image script t)).events ++ (acted_at image script t ++ es)) next)

  start_ticks : (t e : ℕ) → t ≤ e → Each (λ x. x.tick ≤ e) (starts image script t (state_at image script t)).events
  start_ticks t e le = each_weaker (IsStart image script t) (λ x. x.tick ≤ e) (starts image script t (state_at image script t)).events (λ x is. omega (arith, is.tick, le)) (starts_fair image script t (state_at image script t))

  later_ticks : (t e : ℕ) → t ≤ e → Each (λ x. x.tick ≤ e) (acted_at image script t)
  later_ticks t e le = each_weaker (IsLater t) (λ x. x.tick ≤ e) (acted_at image script t) (λ x is. omega (arith, is.tick, le)) (picked_later image t (during image script t) (pick image (during image script t).threads))

  same_or_later : (t e : ℕ) → t ≤ e → (t ≡ e) ⊎ (suc t ≤ e)
  same_or_later t e le = elim (cases_lt t e) [ inl less ↦ inr (omega (arith, less)) | inr not_less ↦ inl (omega (arith, le, not_less)) ]

  -- the end of tick e is found from any earlier tick on
  end_found : (n t e : ℕ) → t ≤ e → e < t + n → acted_at image script e ≡ end_of e k ∷ [] → Soon k e (acted_at image script t ++ rest_of (n - 1) (suc t))
  end_found zero t e le less ended = absurd (omega (arith, le, less))
  end_found (suc n) t e le less ended = elim (same_or_later t e le) [
    | inl same ↦
        let here : Soon k e (end_of e k ∷ rest_of (suc n - 1) (suc e)) = subst (λ (o : Option ℕ). IsSomeAnd o (λ u. u ≤ e)) (sym (first_here k e (rest_of (suc n - 1) (suc e)))) (omega arith) in
        subst (λ (u : ℕ). Soon k e (acted_at image script u ++ rest_of (suc n - 1) (suc u))) (sym same) (subst (λ (es : List Event). Soon k e (es ++ rest_of (suc n - 1) (suc e))) (sym ended) here)
    | inr later ↦
        soon_append k e (acted_at image script t) (rest_of (suc n - 1) (suc t)) (later_ticks t e le)
        (by n (omega (arith, less)) later (end_found n (suc t) e later (omega (arith, less)) ended))
  ] where
    by : (m : ℕ) → e < suc t + m → suc t ≤ e → Soon k e (acted_at image script (suc t) ++ rest_of (m - 1) (suc (suc t))) → Soon k e (rest_of (suc m - 1) (suc t))
    by zero less' later inner = absurd (omega (arith, less', later))
    by (suc m) less' later inner =
        let steps : suc m ≡ suc (suc m) - 1 = omega arith in
        let fewer : suc m - 1 ≡ m = omega arith in
        subst (λ (x : ℕ). Soon k e (rest_of x (suc t))) steps
        (subst (λ (es : List Event). Soon k e es) (sym (rest_is m (suc t)))
        (soon_append k e (starts image script (suc t) (state_at image script (suc t))).events (acted_at image script (suc t) ++ rest_of m (suc (suc t))) (start_ticks (suc t) e later)
        (subst (λ (x : ℕ). Soon k e (acted_at image script (suc t) ++ rest_of x (suc (suc t)))) fewer inner)))

  -- the events of the start of a tick, before others
  starts_end : (t : ℕ) (xs ys : List Event) → Each (IsStart image script t) xs → (is_due script t p ≡ true → t + bound ≤ script.end_tick → (e : ℕ) × (t ≤ e) × (e < t + bound) × Soon k e ys) → AllEnd ys → AllEnd (xs ++ ys)
  starts_end t [] ys fair found all = all
  starts_end t (x ∷ xs) ys fair found all = (
    (λ is within.
        (let own : x.proc ≡ k = ap (λ (y : Event). y.proc) is in
        let due : is_due script t p ≡ true = fair.0.due p (ap (λ (j : ℕ). slice_get image.processes j) own ∙ process) (ap (λ (y : Event). y.act) is) in
        let f : (e : ℕ) × (t ≤ e) × (e < t + bound) × Soon k e ys = found due (omega (arith, within, fair.0.tick)) in
        some_weaker (first_end k (xs ++ ys)) f.0 (x.tick + bound) (omega (arith, f.2, fair.0.tick))
        (soon_append k f.0 xs ys (each_weaker (IsStart image script t) (λ y. y.tick ≤ f.0) xs (λ y of. omega (arith, of.tick, f.1)) fair.1) f.3))),
    starts_end t xs ys fair.1 found all,
  )

  -- those of the process that runs
  acts_end : (t : ℕ) (xs ys : List Event) → Each (IsLater t) xs → AllEnd ys → AllEnd (xs ++ ys)
  acts_end t [] ys later all = all
  acts_end t (x ∷ xs) ys later all = ((λ is within. absurd (let yes : is_release x.act ≡ true = ap (λ (y : Event). is_release y.act) is in let both : true ≡ false = sym yes ∙ later.0.quiet in cc)), acts_end t xs ys later.1 all)

  rest_none : (t : ℕ) → rest_of 0 t ≡ []
  unfolding events_from
  rest_none t = refl

  all_end : (n t : ℕ) → t + n ≡ script.end_tick → AllEnd (rest_of n t)
  all_end zero t is = subst AllEnd (sym (rest_none t)) tt
  all_end (suc n) t is =
      subst AllEnd (sym (rest_is n t))
      (starts_end t (starts image script t (state_at image script t)).events (acted_at image script t ++ rest_of n (suc t)) (starts_fair image script t (state_at image script t))
      (λ due within.
      (let f : EndsSoon image script k bound t = ends t due within in
      let fewer : suc n - 1 ≡ n = omega arith in
      (f.0, f.1, f.2, subst (λ (x : ℕ). Soon k f.0 (acted_at image script t ++ rest_of x (suc t))) fewer (end_found (suc n) t f.0 f.1 (omega (arith, f.2, within, is)) f.3))))
      (acts_end t (acted_at image script t) (rest_of n (suc t)) (picked_later image t (during image script t) (pick image (during image script t).threads)) (all_end n (suc t) (omega (arith, is)))))

  ends_in : (earlier later : List Event) (t : ℕ) → AllEnd (earlier ++ record { tick = t; proc = k; act = act.Release } ∷ later) → t + bound ≤ script.end_tick → IsSomeAnd (first_end k later) (λ u. u < t + bound)
  ends_in [] later t all within = all.0 refl within
  ends_in (x ∷ earlier) later t all within = ends_in earlier later t all.1 within

  pub log_ends : source.EndsWithin k bound script.end_tick (events image script)
  unfolding events state_at
  log_ends earlier later t is within = ends_in earlier later t (subst AllEnd is (all_end script.end_tick 0 (omega arith))) within
