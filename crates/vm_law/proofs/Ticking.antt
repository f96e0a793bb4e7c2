-- The events of a tick, and of a run, have lines.
use Rattle.std.proofs.Common.{◌≡◌, ◌≤◌, ◌<◌, ◌+◌, ◌++◌, ℕ, zero, suc, List, [], ◌∷◌, length, Option, Some, None, arith, refl, ap, sym, subst, ◌∙◌, true, false, Bool}
use Rattle.std.specs.Prelude.{ℤ, All, cond, nat_eq, slice_get}
use Rattle.std.proofs.lemmas.Bool.Decides.{nat_tests}
use Rattle.std.proofs.lemmas.List.Elements.{All-nil, All-append}
use Rattle.std.proofs.lemmas.Option.{slice_get_within}
use Rattle.base.specs.declared.event.Act.TheVariants as act
use Rattle.image.specs.declared.names.ImageNames.{ImageNames}
use Rattle.event_log.specs.InRange.{AreIn, WokenIsIn}
use Rattle.machine_semantics.specs.Image.{Image, Process, Script}
use Rattle.machine_semantics.specs.State.{Job, Thread, Idle, Ready, Waiting, State}
use Rattle.machine_semantics.specs.Effect.{Outcome, Goes, Does, Signals, Broadcasts, Waits, Raises, Ends, Stuck}
use Rattle.machine_semantics.specs.Starts.{queue_of, starts}
use Rattle.machine_semantics.specs.Tick.{Candidate, first, outcome, owned_of, pick, run_picked, run_thread, settle, tick}
use Rattle.machine_semantics.specs.Run.{events, events_from, state_at}
use Rattle.machine_safety.proofs.Queueing.{run_keeps_queues, tick_keeps_queues}
use Rattle.machine_safety.proofs.Running.{state_fits}
use Rattle.machine_safety.proofs.Starting.{starts_keep}
use Rattle.machine_semantics.specs.Queues.{AreQueued, times, waits_on}
use Rattle.machine_semantics.specs.Whole.{StateFits}
use Rattle.valid_image.specs.Valid.{HasLimits, IsValid}
use Rattle.valid_image_law.specs.ValidLaw.{MeetsPremises}
use Rattle.valid_image_law.proofs.Whole.{valid_meets_premises}
use Rattle.vm_law.specs.Operands.{AreThere}
use Rattle.vm_law.proofs.There.{valid_operands_are_there}
use Rattle.vm_law.specs.Logged.{AreNamesOf, HasLines, ValidRunsHaveLines}
use Rattle.vm_law.proofs.Effects.{Shows, outcome_shows}
use Rattle.vm_law.proofs.Starting.{WaitAt, one_line, starts_good}
use Rattle.vm_runner.proofs.Waiting.{in_queue}

-- ---- queues

-- who waits does so on a condition that has a queue
waits_below : (s : State) (n : ℕ) → AreQueued s → length s.queues ≡ n → (k c due e : ℕ) (job : Job) → slice_get s.threads k ≡ Some (Waiting c due e job) → c < n
waits_below s n queued count k c due e job at =
    let test : nat_eq c c ≡ true = grind (arith, nat_tests) in
    let one : waits_on c (Some (Waiting c due e job)) ≡ 1 = ap (λ (b : Bool). cond b 1 0) test in
    let below = in_queue k c s.queues (queued c k ∙ ap (λ (o : Option Thread). waits_on c o) at ∙ one) in
    omega (arith, below, count)

-- who stands first in a queue is a process
pub first_below : (s : State) (c j n : ℕ) → AreQueued s → length s.threads ≡ n → first (queue_of s.queues c) ≡ Some j → j < n
first_below s c j n queued count is = by (queue_of s.queues c) (slice_get s.threads j) refl refl is where
  by : (q : List ℕ) (o : Option Thread) → queue_of s.queues c ≡ q → slice_get s.threads j ≡ o → first q ≡ Some j → j < n
  by [] o stands at first_is = absurd cc
  by (i ∷ is) (Some thread) stands at first_is = let within = slice_get_within s.threads j thread at in omega (arith, within, count)
  by (i ∷ is) None stands at first_is =
      let same : i ≡ j = cc in
      let test : nat_eq i j ≡ true = grind (arith, nat_tests, same) in
      let once : times j (i ∷ is) ≡ suc (times j is) = ap (λ (b : Bool). cond b (suc (times j is)) (times j is)) test in
      let none : times j (i ∷ is) ≡ 0 = ap (λ (q : List ℕ). times j q) (sym stands) ∙ queued c j ∙ ap (λ (o : Option Thread). waits_on c o) at in
      absurd (omega (arith, once, none))

-- ---- a tick

module _ (names : ImageNames) (image : Image) (named : AreNamesOf names image) (all : AreThere image) (t : ℕ) (early : t < 1000000000) where
  settled_lines : (k : ℕ) (p : Process) (job : Job) (s : State) (r : Outcome) → k < length image.processes → ((c j : ℕ) → first (queue_of s.queues c) ≡ Some j → j < length names.processes)
      → Shows names r → All (AreIn names) (settle image t k p job s r).events
  settled_lines k p job s (Goes o) low queued shows = All-nil (AreIn names)
  settled_lines k p job s (Does a o) low queued shows = one_line names image named t early k a low shows
  settled_lines k p job s (Signals c o) low queued shows = one_line names image named t early k (act.Signal c (first (queue_of s.queues c))) low (shows, woken (first (queue_of s.queues c)) refl) where
    woken : (w : Option ℕ) → first (queue_of s.queues c) ≡ w → WokenIsIn names w
    woken None is = tt
    woken (Some j) is = queued c j is
  settled_lines k p job s (Broadcasts c o) low queued shows = one_line names image named t early k (act.Broadcast c (length (queue_of s.queues c))) low shows
  settled_lines k p job s (Waits c limit number o) low queued shows = one_line names image named t early k (act.Wait c) low shows
  settled_lines k p job s (Raises number) low queued shows = one_line names image named t early k (act.Raise number) low tt
  settled_lines k p job s Ends low queued shows = one_line names image named t early k act.End low tt
  settled_lines k p job s Stuck low queued shows = All-nil (AreIn names)

  pub ran_lines : (s : State) (c : Option Candidate) → ((c j : ℕ) → first (queue_of s.queues c) ≡ Some j → j < length names.processes) → All (AreIn names) (run_picked image t s c).events
  ran_lines s None queued = All-nil (AreIn names)
  ran_lines s (Some c) queued = by (slice_get image.processes c.place) (slice_get s.threads c.place) refl where
    by : (p : Option Process) (thread : Option Thread) → slice_get image.processes c.place ≡ p → All (AreIn names) (run_thread image t c.place s p thread).events
    by (Some p) (Some (Ready job)) at =
        settled_lines c.place p job s (outcome image s job (owned_of (slice_get s.owned c.place)) job.dispatch_ticks) (slice_get_within image.processes c.place p at) queued
        (outcome_shows names image named s job (owned_of (slice_get s.owned c.place)) job.dispatch_ticks all)
    by (Some p) (Some Idle) at = All-nil (AreIn names)
    by (Some p) (Some (Waiting condition due number job)) at = All-nil (AreIn names)
    by (Some p) None at = All-nil (AreIn names)
    by None thread at = All-nil (AreIn names)

  tick_lines : (script : Script) (s : State) → WaitAt names s.threads → AreQueued (starts image script t s).state → length (starts image script t s).state.threads ≡ length image.processes
      → All (AreIn names) (tick image script t s).events
  unfolding tick
  tick_lines script s waits queued many =
      let started = starts image script t s in
      let good = starts_good names image named t early script s waits in
      All-append (AreIn names) started.events (run_picked image t started.state (pick image started.state.threads)).events good.lines
      (ran_lines started.state (pick image started.state.threads) (λ c j is. first_below started.state c j (length names.processes) queued (many ∙ sym named.processes) is))

-- ---- a run

-- each tick up to the end has lines
abbrev TicksHaveLines : ImageNames → Image → Script → Type 0
TicksHaveLines names image script = (t : ℕ) → t < script.end_tick → All (AreIn names) (tick image script t (state_at image script t)).events

run_lines : (names : ImageNames) (image : Image) (script : Script) → MeetsPremises image → AreThere image → AreNamesOf names image → script.end_tick ≤ 1000000000 → TicksHaveLines names image script
run_lines names image script m all named short t before = subst (λ (x : Image). AreNamesOf names x → AreThere x → All (AreIn names) (tick x script t (state_at x script t)).events) m.of by named all where
  by : AreNamesOf names m.e.image → AreThere m.e.image → All (AreIn names) (tick m.e.image script t (state_at m.e.image script t)).events
  by named' all' =
      let s : State = state_at m.e.image script t in
      let fits : StateFits m.e m.ps s = state_fits m.e m.ps script t m.fits in
      let queued : AreQueued s = run_keeps_queues m.e m.ps script t m.fits in
      let during : StateFits m.e m.ps (starts m.e.image script t s).state = starts_keep m.e m.ps m.fits script t s fits in
      tick_lines names m.e.image named' all' t (omega (arith, before, short)) script s
      (waits_below s (length names.conditions) queued (fits.sized.queues ∙ sym named'.conditions))
      (tick_keeps_queues m.e m.ps script t s m.fits fits queued).0 during.many

module _ (names : ImageNames) (image : Image) (script : Script) where
  next_state : (t : ℕ) → (tick image script t (state_at image script t)).state ≡ state_at image script (t + 1)
  unfolding state_at
  next_state t = let e : t + 1 ≡ suc t = omega arith in ap (λ (u : ℕ). state_at image script u) (sym e)

  lines_from : (n t : ℕ) → t + n ≤ script.end_tick → TicksHaveLines names image script → All (AreIn names) (events_from image script n t (state_at image script t))
  unfolding events_from
  lines_from zero t within have = All-nil (AreIn names)
  lines_from (suc n) t within have =
      let rest : All (AreIn names) (events_from image script n (t + 1) (state_at image script (t + 1))) = lines_from n (t + 1) (omega (arith, within)) have in
      All-append (AreIn names) (tick image script t (state_at image script t)).events (events_from image script n (t + 1) (tick image script t (state_at image script t)).state) (have t (omega (arith, within)))
      (subst (λ (x : State). All (AreIn names) (events_from image script n (t + 1) x)) (sym (next_state t)) rest)

  all_lines : TicksHaveLines names image script → HasLines names image script
  unfolding events state_at
  all_lines have = lines_from script.end_tick 0 (omega arith) have

pub valid_runs_have_lines : ValidRunsHaveLines
valid_runs_have_lines names image script limits valid named short =
    all_lines names image script (run_lines names image script (valid_meets_premises image limits valid) (valid_operands_are_there image limits valid) named short)
