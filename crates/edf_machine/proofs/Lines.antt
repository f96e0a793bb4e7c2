-- The events of a tick, and of a run, have lines.
use Rattle.std.proofs.Common.{◌≡◌, ◌≤◌, ◌<◌, ◌+◌, ◌∙◌, ℕ, zero, suc, length, Option, arith, ap, sym, subst}
use Rattle.std.specs.Prelude.{All}
use Rattle.std.proofs.lemmas.List.Elements.{All-nil, All-append}
use Rattle.image.specs.declared.names.ImageNames.{ImageNames}
use Rattle.event_log.specs.InRange.{AreIn}
use Rattle.machine_semantics.specs.Image.{Image, Script}
use Rattle.machine_semantics.specs.State.{Thread, State}
use Rattle.machine_semantics.specs.Starts.{starts}
use Rattle.machine_semantics.specs.Tick.{Candidate, run_picked}
use Rattle.machine_semantics.specs.Queues.{AreQueued}
use Rattle.machine_semantics.specs.Whole.{StateFits}
use Rattle.vm_law.specs.Operands.{AreThere}
use Rattle.vm_law.specs.Logged.{AreNamesOf}
use Rattle.vm_law.proofs.Starting.{WaitAt, starts_good}
use Rattle.vm_law.proofs.Ticking.{first_below, ran_lines}
use Rattle.edf_semantics.specs.Run.{Marked, candidate, chosen_at, events, events_from, state_at, tick}
use Rattle.edf_semantics.specs.Runs.{IsAwake, IsNotWaiting, NobodyWaits, WaitlessRunsAreAwake}
use Rattle.edf_machine.specs.EdfRunnable.{WaitlessRunsHaveLines}
use Rattle.edf_machine.proofs.Runnable.{during_fits}

-- ---- a tick

-- nobody waits, so whoever waits does so on a condition that has a name
none_wait : (names : ImageNames) (s : State) → NobodyWaits s → WaitAt names s.threads
none_wait names s calm k c due e job at = absurd (subst (λ (o : Option Thread). IsNotWaiting o) at (calm k))

tick_lines : (names : ImageNames) (image : Image) → AreNamesOf names image → AreThere image → (t : ℕ) → t < 1000000000 → (script : Script) (s : Marked) → NobodyWaits s.state
    → AreQueued (starts image script t s.state).state → length (starts image script t s.state).state.threads ≡ length image.processes → All (AreIn names) (tick image script t s).events
unfolding tick
tick_lines names image named all t early script s calm queued many =
    let started = starts image script t s.state in
    let picked : Option Candidate = candidate (chosen_at image script t s) in
    All-append (AreIn names) started.events (run_picked image t started.state picked).events (starts_good names image named t early script s.state (none_wait names s.state calm)).lines
    (ran_lines names image named all t early started.state picked (λ c j is. first_below started.state c j (length names.processes) queued (many ∙ sym named.processes) is))

-- ---- a run

-- each tick up to the end has lines
abbrev TicksHaveLines : ImageNames → Image → Script → Type 0
TicksHaveLines names image script = (t : ℕ) → t < script.end_tick → All (AreIn names) (tick image script t (state_at image script t)).events

module _ (names : ImageNames) (image : Image) (script : Script) where
  next_state : (t : ℕ) → (tick image script t (state_at image script t)).state ≡ state_at image script (t + 1)
  unfolding state_at
  next_state t = let e : t + 1 ≡ suc t = omega arith in ap (λ (u : ℕ). state_at image script u) (sym e)

  lines_from : (n t : ℕ) → t + n ≤ script.end_tick → TicksHaveLines names image script → All (AreIn names) (events_from image script n t (state_at image script t))
  unfolding events_from
  lines_from zero t within have = All-nil (AreIn names)
  lines_from (suc n) t within have =
      let rest : All (AreIn names) (events_from image script n (t + 1) (state_at image script (t + 1))) = lines_from n (t + 1) (omega (arith, within)) have in
      All-append (AreIn names) (tick image script t (state_at image script t)).events (events_from image script n (t + 1) (tick image script t (state_at image script t)).state) (have t (omega (arith, within)))
      (subst (λ (x : Marked). All (AreIn names) (events_from image script n (t + 1) x)) (sym (next_state t)) rest)

  all_lines : TicksHaveLines names image script → All (AreIn names) (events image script)
  unfolding events state_at
  all_lines have = lines_from script.end_tick 0 (omega arith) have

pub waitless_runs_have_lines : WaitlessRunsAreAwake → WaitlessRunsHaveLines
waitless_runs_have_lines awake names e ps script fits waitless all named short = all_lines names e.image script by where
  by : TicksHaveLines names e.image script
  by t before =
      let is : IsAwake e.image script t = awake e ps script t fits waitless in
      let during : StateFits e ps (starts e.image script t (state_at e.image script t).state).state = during_fits e ps script fits waitless t in
      tick_lines names e.image named all t (omega (arith, before, short)) script (state_at e.image script t) is.calm is.queued_started during.many
