-- Every word has 32 bits between any two ticks, and the events of a run fit.
use Rattle.std.proofs.Common.{◌≡◌, ◌≤◌, ◌<◌, ◌+◌, ◌^◌, ℕ, zero, suc, ℤ, Bool, List, [], ◌∷◌, length, map, Option, Some, None, arith, ap, sym, subst}
use Rattle.std.specs.Prelude.{All, pos, slice_get}
use Rattle.base.specs.declared.event.Act.{Act}
use Rattle.base.specs.declared.event.Act.TheVariants as act
use Rattle.text_fields.specs.Fields.{Is32}
use Rattle.machine_isa.specs.Bytes.{HasWords}
use Rattle.event_log.specs.Logs.{ActFits}
use Rattle.machine_semantics.specs.Image.{Image, Process, Script}
use Rattle.machine_semantics.specs.State.{Job, Thread, Idle, Ready, Waiting, State, zeros}
use Rattle.machine_semantics.specs.Effect.{Own, Outcome, Goes, Does, Signals, Broadcasts, Waits, Raises, Ends, Stuck}
use Rattle.machine_semantics.specs.Starts.{queue_of, raised, starts}
use Rattle.machine_semantics.specs.Tick.{Candidate, Ticked, first, outcome, owned_of, pick, run_picked, run_thread, settle, tell, tick, wake, wake_all, wake_first, with_own, woken}
use Rattle.machine_semantics.specs.Run.{at_start, events, events_from, state_at, words_of}
use Rattle.machine_safety.proofs.Queueing.{run_keeps_queues, tick_keeps_queues}
use Rattle.machine_safety.proofs.Running.{state_fits}
use Rattle.machine_safety.proofs.Starting.{starts_keep}
use Rattle.machine_semantics.specs.Queues.{AreQueued}
use Rattle.machine_semantics.specs.Whole.{StateFits as IsSafe}
use Rattle.valid_image_law.specs.ValidLaw.{MeetsPremises, ValidMeetsPremises}
use Rattle.vm_law.specs.Operands.{AreThere, ValidOperandsAreThere}
use Rattle.replay_law.specs.RunWords.{SetsWord, ValidRunsFit}
use Rattle.replay_law.proofs.Words.{Each, Opt, joined_each, set_each, get_each, all_of, each_of, zero_word, zeros_each, JobFits, ThreadFits, StateFits}
use Rattle.replay_law.proofs.Effects.{OwnFits, Fits, outcome_fits}
use Rattle.replay_law.proofs.Starting.{EventFits, raised_fits, starts_good}
use Rattle.replay_law.proofs.Queued.{queues_are_short}

-- ---- a tick

-- the words have 32 bits, and the events fit
record Good (r : Ticked) : Type 0 where
  state : StateFits r.state
  events : Each EventFits r.events

nothing_good : (s : State) (stuck : Bool) → StateFits s → Good (record { state = s; events = []; stuck = stuck })
nothing_good s stuck fits = record { state = fits; events = tt }

tell_good : (t k : ℕ) (a : Act) (s : State) → ActFits a → StateFits s → Good (tell t k a s)
tell_good t k a s fine fits = record { state = fits; events = (fine, tt) }

with_own_fits : (k : ℕ) (o : Own) (s : State) → OwnFits o → StateFits s → StateFits (with_own k o s)
with_own_fits k o s own fits = record {
  threads = set_each ThreadFits s.threads k (Ready o.job) own.job fits.threads;
  owned = set_each (λ words. Each Is32 words) s.owned k o.owned own.owned fits.owned;
  shared = own.shared;
  devices = fits.devices;
}

-- with other threads and queues
standing_fits : (s : State) (threads : List Thread) (queues : List (List ℕ)) → Each ThreadFits threads → StateFits s → StateFits (record s { threads = threads; queues = queues })
standing_fits s threads queues each fits = record { threads = each; owned = fits.owned; shared = fits.shared; devices = fits.devices }

module _ (image : Image) where
  woken_fits : (o : Option Thread) → Opt ThreadFits o → ThreadFits (woken image o)
  woken_fits (Some (Waiting c due number job)) fits = record { locals = fits.1.locals; operands = fits.1.operands; callers = fits.1.callers }
  woken_fits (Some (Ready job)) fits = fits
  woken_fits (Some Idle) fits = tt
  woken_fits None fits = tt

  wake_each : (j : ℕ) (ts : List Thread) → Each ThreadFits ts → Each ThreadFits (wake image j ts)
  wake_each j ts each = set_each ThreadFits ts j (woken image (slice_get ts j)) (woken_fits (slice_get ts j) (get_each ThreadFits ts j each)) each

  wake_all_each : (js : List ℕ) (ts : List Thread) → Each ThreadFits ts → Each ThreadFits (wake_all image js ts)
  wake_all_each [] ts each = each
  wake_all_each (j ∷ js) ts each = wake_all_each js (wake image j ts) (wake_each j ts each)

  wake_first_each : (j : Option ℕ) (ts : List Thread) → Each ThreadFits ts → Each ThreadFits (wake_first image j ts)
  wake_first_each None ts each = each
  wake_first_each (Some j) ts each = wake_each j ts each

  settled_good : (t k : ℕ) (p : Process) (job : Job) (s : State) (r : Outcome) → ((c : ℕ) → length (queue_of s.queues c) < 2 ^ 16) → JobFits job → StateFits s → Fits r → Good (settle image t k p job s r)
  settled_good t k p job s (Goes o) short old fits own = nothing_good (with_own k o s) _ (with_own_fits k o s own fits)
  settled_good t k p job s (Does a o) short old fits own = tell_good t k a (with_own k o s) own.0 (with_own_fits k o s own.1 fits)
  settled_good t k p job s (Signals c o) short old fits own =
      let after = with_own_fits k o s own fits in
      tell_good t k (act.Signal c (first (queue_of s.queues c))) _ tt (standing_fits (with_own k o s) _ _ (wake_first_each (first (queue_of s.queues c)) (with_own k o s).threads after.threads) after)
  settled_good t k p job s (Broadcasts c o) short old fits own =
      let after = with_own_fits k o s own fits in
      tell_good t k (act.Broadcast c (length (queue_of s.queues c))) _ (short c) (standing_fits (with_own k o s) _ _ (wake_all_each (queue_of s.queues c) (with_own k o s).threads after.threads) after)
  settled_good t k p job s (Waits c limit e o) short old fits own =
      let after = with_own_fits k o s own.1 fits in
      tell_good t k (act.Wait c) _ tt
      (standing_fits (with_own k o s) _ _ (set_each ThreadFits s.threads k (Waiting c (t + limit + 1) e o.job) (own.0, own.1.job) fits.threads) after)
  settled_good t k p job s (Raises e) short old fits low =
      tell_good t k (act.Raise e) _ low
      (standing_fits s _ s.queues (set_each ThreadFits s.threads k (Ready (raised p e job)) (raised_fits p e job.dispatch_ticks job old) fits.threads) fits)
  settled_good t k p job s Ends short old fits own = tell_good t k act.End _ tt (standing_fits s _ s.queues (set_each ThreadFits s.threads k Idle tt fits.threads) fits)
  settled_good t k p job s Stuck short old fits own = nothing_good s _ fits

  owned_each : (o : Option (List ℤ)) → Opt (λ words. Each Is32 words) o → Each Is32 (owned_of o)
  owned_each (Some words) each = each
  owned_each None each = tt

  ran_good : (t : ℕ) (s : State) (c : Option Candidate) → AreThere image → Each HasWords image.code → ((c : ℕ) → length (queue_of s.queues c) < 2 ^ 16) → StateFits s → Good (run_picked image t s c)
  ran_good t s None there has short fits = nothing_good s _ fits
  ran_good t s (Some c) there has short fits = by (slice_get image.processes c.place) (slice_get s.threads c.place) (get_each ThreadFits s.threads c.place fits.threads) where
    by : (p : Option Process) (thread : Option Thread) → Opt ThreadFits thread → Good (run_thread image t c.place s p thread)
    by (Some p) (Some (Ready job)) old =
        settled_good t c.place p job s (outcome image s job (owned_of (slice_get s.owned c.place)) job.dispatch_ticks) short old fits
        (outcome_fits image s job (owned_of (slice_get s.owned c.place)) job.dispatch_ticks there has fits.devices old
        (owned_each (slice_get s.owned c.place) (get_each (λ words. Each Is32 words) s.owned c.place fits.owned)) fits.shared)
    by (Some p) (Some Idle) old = nothing_good s _ fits
    by (Some p) (Some (Waiting condition due number job)) old = nothing_good s _ fits
    by (Some p) None old = nothing_good s _ fits
    by None thread old = nothing_good s _ fits

-- ---- a run

-- the words have 32 bits, and the events of the tick fit
record TickFits (image : Image) (script : Script) (t : ℕ) (s : State) : Type 0 where
  state : StateFits (tick image script t s).state
  events : Each EventFits (tick image script t s).events

tick_fits : (image : Image) (script : Script) (t : ℕ) (s : State) → AreThere image → Each HasWords image.code → Each SetsWord script.lines → ((c : ℕ) → length (queue_of (starts image script t s).state.queues c) < 2 ^ 16) → StateFits s
    → TickFits image script t s
unfolding tick
tick_fits image script t s there has sets short fits =
    let started = starts image script t s in
    let good = starts_good image t script s sets fits in
    let ran = ran_good image t started.state (pick image started.state.threads) there has short good.state in
    record { state = ran.state; events = joined_each EventFits started.events (run_picked image t started.state (pick image started.state.threads)).events good.events ran.events }

zeros_of : (ps : List Process) → Each (λ words. Each Is32 words) (map (λ (p : Process). zeros p.words) ps)
zeros_of [] = tt
zeros_of (p ∷ ps) = (zeros_each p.words, zeros_of ps)

idle_each : (ps : List Process) → Each ThreadFits (map (λ (p : Process). Idle) ps)
idle_each [] = tt
idle_each (p ∷ ps) = (tt, idle_each ps)

unset_each : (ds : List Bool) → Each Is32 (map (λ (d : Bool). pos 0) ds)
unset_each [] = tt
unset_each (d ∷ ds) = (zero_word, unset_each ds)

start_fits : (image : Image) → StateFits (at_start image)
unfolding at_start
start_fits image = record { threads = idle_each image.processes; owned = zeros_of image.processes; shared = zeros_each (words_of image.monitors); devices = unset_each image.devices }

-- before each tick no queue is too long for a count
abbrev AreShort : Image → Script → Type 0
AreShort image script = (t c : ℕ) → length (queue_of (starts image script t (state_at image script t)).state.queues c) < 2 ^ 16

queues_short : (image : Image) (script : Script) → MeetsPremises image → length image.processes ≤ 64 → AreShort image script
queues_short image script m few t c = subst (λ (x : Image). length x.processes ≤ 64 → length (queue_of (starts x script t (state_at x script t)).state.queues c) < 2 ^ 16) m.of by few where
  by : length m.e.image.processes ≤ 64 → length (queue_of (starts m.e.image script t (state_at m.e.image script t)).state.queues c) < 2 ^ 16
  by low =
      let s : State = state_at m.e.image script t in
      let fits : IsSafe m.e m.ps s = state_fits m.e m.ps script t m.fits in
      let queued : AreQueued s = run_keeps_queues m.e m.ps script t m.fits in
      let during : IsSafe m.e m.ps (starts m.e.image script t s).state = starts_keep m.e m.ps m.fits script t s fits in
      let most = queues_are_short (starts m.e.image script t s).state c (tick_keeps_queues m.e m.ps script t s m.fits fits queued).0 in
      omega (arith, most, during.many, low)

module _ (image : Image) (script : Script) (there : AreThere image) (has : Each HasWords image.code) (sets : Each SetsWord script.lines) (short : AreShort image script) where
  at_fits : (t : ℕ) → StateFits (state_at image script t)
  unfolding state_at
  at_fits zero = start_fits image
  at_fits (suc t) = (tick_fits image script t (state_at image script t) there has sets (short t) (at_fits t)).state

  next_state : (t : ℕ) → (tick image script t (state_at image script t)).state ≡ state_at image script (t + 1)
  unfolding state_at
  next_state t = let e : t + 1 ≡ suc t = omega arith in ap (λ (u : ℕ). state_at image script u) (sym e)

  events_fit_from : (n t : ℕ) → Each EventFits (events_from image script n t (state_at image script t))
  unfolding events_from
  events_fit_from zero t = tt
  events_fit_from (suc n) t =
      joined_each EventFits (tick image script t (state_at image script t)).events (events_from image script n (t + 1) (tick image script t (state_at image script t)).state)
      (tick_fits image script t (state_at image script t) there has sets (short t) (at_fits t)).events
      (subst (λ (x : State). Each EventFits (events_from image script n (t + 1) x)) (sym (next_state t)) (events_fit_from n (t + 1)))

  events_fit : All EventFits (events image script)
  unfolding events state_at
  events_fit = all_of EventFits (events image script) (events_fit_from script.end_tick 0)

pub valid_runs_fit : ValidOperandsAreThere → ValidMeetsPremises → ValidRunsFit
valid_runs_fit operands premises image script limits valid has sets =
    events_fit image script (operands image limits valid) (each_of HasWords image.code has) (each_of SetsWord script.lines sets)
    (queues_short image script (premises image limits valid) limits.few)
