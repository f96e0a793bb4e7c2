-- When a start event is missing next, by the timings of a program.
use Rattle.std.specs.Prelude.{◌≡◌, ◌≢◌, ◌+◌, ℕ, suc, true, List, [], ◌∷◌, Option, Some, None, slice_get}
use Rattle.source_semantics.specs.Config.{Config, Job}
use Rattle.replay_due_events.specs.NextDue.{doing_due, is_after, release_from, release_still, sooner}
use Rattle.replay_due_events.specs.Timings.{IsClockFree}
use Rattle.replay_due_events.specs.declared.timetable.Timing.{Timing}
use Rattle.replay_due_events.specs.declared.timetable.Timing.TheVariants as timing_is

-- the next periodic release of a process that has not come, from a tick on
abbrev pub timing_due : ℕ → Timing → Option Job → Option ℕ
timing_due from (timing_is.AtEvent e) j = None
timing_due from (timing_is.Periodic frame first) None = None
timing_due from (timing_is.Periodic frame first) (Some j) = Some (release_still frame (release_from first frame from) j.doing)

-- and of those of the processes, the first of which is number k
abbrev pub timings_due : List Job → ℕ → ℕ → List Timing → Option ℕ
timings_due js from k [] = None
timings_due js from k (x ∷ xs) = sooner (timing_due from x (slice_get js k)) (timings_due js from (suc k) xs)

-- the next time-out
abbrev pub jobs_due : ℕ → List Job → Option ℕ
jobs_due from [] = None
jobs_due from (j ∷ js) = sooner (doing_due from j.doing) (jobs_due from js)

-- no wait of these processes is over before the tick
abbrev pub AreWaitsAfter : ℕ → List Job → Type 0
AreWaitsAfter t js = (k : ℕ) (j : Job) → slice_get js k ≡ Some j → is_after t (doing_due 0 j.doing) ≡ true

-- none but that of process i may be
abbrev pub AreOthersAfter : ℕ → ℕ → List Job → Type 0
AreOthersAfter i t js = (k : ℕ) (j : Job) → k ≢ i → slice_get js k ≡ Some j → is_after t (doing_due 0 j.doing) ≡ true

-- after the tick reached and before another neither the clock nor a wait starts a process
pub record IsQuiet (ts : List Timing) (c : Config) (until : ℕ) : Type 0 where
  pub clock : IsClockFree ts (c.tick + 1) until
  pub waits : AreWaitsAfter until c.jobs
