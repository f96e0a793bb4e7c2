-- How many events fall in a run, and how many activations end.
use Rattle.std.proofs.Common.{◌≡◌, ◌≤◌, ◌+◌, ◌*◌, ◌++◌, ℕ, zero, suc, Bool, true, false, List, [], ◌∷◌, Option, Some, None, length, arith, refl, ◌∙◌}
use Rattle.std.specs.Prelude.{slice_get, slice_set}
use Rattle.std.proofs.lemmas.List.{length-append, length-map, length-set}
use Rattle.base.specs.declared.event.Event.{Event}
use Rattle.machine_semantics.specs.Image.{Image, Process, Script}
use Rattle.machine_semantics.specs.State.{Idle, Job, Ready, State, Thread, Waiting}
use Rattle.machine_semantics.specs.Effect.{Outcome, Goes, Does, Signals, Broadcasts, Waits, Raises, Ends, Stuck}
use Rattle.machine_semantics.specs.Run.{at_start, events_from}
use Rattle.machine_semantics.specs.Starts.{queue_of, starts}
use Rattle.machine_semantics.specs.Tick.{Candidate, Ticked, first, outcome, owned_of, pick, run_picked, run_thread, settle, tick, wake, wake_all, wake_first, woken}
use Rattle.run_chart.specs.Responses.{ends, releases, responses}
use Rattle.vm_stretch.proofs.Counting.{starts_are_few}
use Rattle.vm_stretch.proofs.Waiting.{starts_end}
use Rattle.vm_stretch.specs.StartLawsDue.{HasOwnRanks}
use Rattle.vm_chart.specs.Follows.{events_before}

-- ---- the responses of a process are no more than the events

pub ended_few : (k from released : ℕ) (es : List Event) → length (responses k from released es) ≤ length es
ended_few k from released [] = omega arith
ended_few k from released (e ∷ es) = by (releases k e) (ends k from e) refl refl (ended_few k from e.tick es) (ended_few k from released es) where
  by : (b d : Bool) → releases k e ≡ b → ends k from e ≡ d → length (responses k from e.tick es) ≤ length es → length (responses k from released es) ≤ length es → length (responses k from released (e ∷ es)) ≤ suc (length es)
  by true d is does anew rest = rw is (omega (arith, anew))
  by false true is does anew rest = rw is (rw does (omega (arith, rest)))
  by false false is does anew rest = rw is (rw does (omega (arith, rest)))

-- ---- a tick has few events, and keeps the number of processes

wake_all_count : (image : Image) (js : List ℕ) (ts : List Thread) → length (wake_all image js ts) ≡ length ts
wake_all_count image [] ts = refl
wake_all_count image (j ∷ js) ts = wake_all_count image js (wake image j ts) ∙ length-set ts j (woken image (slice_get ts j))

wake_first_count : (image : Image) (o : Option ℕ) (ts : List Thread) → length (wake_first image o ts) ≡ length ts
wake_first_count image None ts = refl
wake_first_count image (Some j) ts = length-set ts j (woken image (slice_get ts j))

record IsOne (s : State) (after : Ticked) : Type 0 where
  pub count : length after.state.threads ≡ length s.threads
  pub one : length after.events ≤ 1

settle_one : (image : Image) (t k : ℕ) (p : Process) (job : Job) (s : State) (o : Outcome) → IsOne s (settle image t k p job s o)
settle_one image t k p job s (Goes o) = record { count = length-set s.threads k (Ready o.job); one = omega arith }
settle_one image t k p job s (Does a o) = record { count = length-set s.threads k (Ready o.job); one = omega arith }
settle_one image t k p job s (Signals c o) =
    record { count = wake_first_count image (first (queue_of s.queues c)) (slice_set s.threads k (Ready o.job)) ∙ length-set s.threads k (Ready o.job); one = omega arith }
settle_one image t k p job s (Broadcasts c o) =
    record { count = wake_all_count image (queue_of s.queues c) (slice_set s.threads k (Ready o.job)) ∙ length-set s.threads k (Ready o.job); one = omega arith }
settle_one image t k p job s (Waits c limit e o) = record { count = length-set s.threads k (Waiting c (t + limit + 1) e o.job); one = omega arith }
settle_one image t k p job s (Raises e) = record { count = length-set s.threads k _; one = omega arith }
settle_one image t k p job s Ends = record { count = length-set s.threads k Idle; one = omega arith }
settle_one image t k p job s Stuck = record { count = refl; one = omega arith }

thread_one : (image : Image) (t k : ℕ) (s : State) (p : Option Process) (thread : Option Thread) → IsOne s (run_thread image t k s p thread)
thread_one image t k s (Some p) (Some (Ready job)) = settle_one image t k p job s (outcome image s job (owned_of (slice_get s.owned k)) job.dispatch_ticks)
thread_one image t k s (Some p) (Some Idle) = record { count = refl; one = omega arith }
thread_one image t k s (Some p) (Some (Waiting c due e job)) = record { count = refl; one = omega arith }
thread_one image t k s (Some p) None = record { count = refl; one = omega arith }
thread_one image t k s None thread = record { count = refl; one = omega arith }

picked_one : (image : Image) (t : ℕ) (s : State) (c : Option Candidate) → IsOne s (run_picked image t s c)
picked_one image t s None = record { count = refl; one = omega arith }
picked_one image t s (Some c) = thread_one image t c.place s (slice_get image.processes c.place) (slice_get s.threads c.place)

module _ (image : Image) (script : Script) (ranks : HasOwnRanks image) where
  tick_count : (t : ℕ) (s : State) → length (tick image script t s).state.threads ≡ length s.threads
  unfolding tick
  tick_count t s =
      let started = (starts image script t s).state in
      let ran = picked_one image t started (pick image started.threads) in
      let began = starts_end image script t s ranks in
      ran.count ∙ began.count

  tick_few : (t : ℕ) (s : State) → length (tick image script t s).events ≤ length s.threads + 1
  unfolding tick
  tick_few t s =
      let started = starts image script t s in
      let after = run_picked image t started.state (pick image started.state.threads) in
      let ran = picked_one image t started.state (pick image started.state.threads) in
      let few = starts_are_few image script t s in
      let both : length (started.events ++ after.events) ≡ length started.events + length after.events = length-append started.events after.events in
      omega (arith, ran.one, few, both)

  from_few : (n t : ℕ) (s : State) → length s.threads ≤ 64 → length (events_from image script n t s) ≤ 65 * n
  unfolding events_from
  from_few zero t s many = omega arith
  from_few (suc n) t s many =
      let now = tick image script t s in
      let same = tick_count t s in
      let rest = from_few n (t + 1) now.state (omega (arith, same, many)) in
      let here = tick_few t s in
      let both : length (now.events ++ events_from image script n (t + 1) now.state) ≡ length now.events + length (events_from image script n (t + 1) now.state) =
      length-append now.events (events_from image script n (t + 1) now.state) in
      omega (arith, many, rest, here, both)

  pub before_few : (t : ℕ) → length image.processes ≤ 64 → length (events_before image script t) ≤ 65 * t
  unfolding at_start
  before_few t many =
      let count : length (at_start image).threads ≡ length image.processes = length-map image.processes (λ (p : Process). Idle) in
      from_few t 0 (at_start image) (omega (arith, count, many))
