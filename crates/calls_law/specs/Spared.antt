-- What a line of `slack` says of runs, in which the process takes more ticks.
use Rattle.std.specs.Prelude.{◌≡◌, ◌≤◌, ◌+◌, ◌-◌, ℕ, true, List, length, slice_get, Some}
use Rattle.std.specs.List.{concat}
use Rattle.machine_semantics.specs.Image.{Process}
use Rattle.sched_sensitivity.specs.Slack.{with_more}
use Rattle.sched_theorem.specs.Stretches.{Trace}
use Rattle.sched_theorem.specs.Ranked.{EndsWithin}
use Rattle.sched_theorem.specs.Dispatched.{Dispatch, IsDispatched}
use Rattle.valid_image.specs.Tasks.{tasks_of}
use Rattle.valid_image.specs.Valid.{HasLimits, IsValid}
use Rattle.image.specs.Named.{NamedImage}
use Rattle.command_due.specs.Source.{IsTimelyText}
use Rattle.command_due.specs.CommandsDue.{told}
use Rattle.command_due.specs.Lines.{slack_line, name_at, IsSlackText}
use Rattle.command_due.specs.SpareDue.{IsSlackDue}

-- in the run each activation of each process ends within its bound, where the bound is within the
-- run; in the run processes go by their ranks, from 0
abbrev pub EndWithin : List Process → List ℕ → (end : ℕ) → Trace → Type 0
EndWithin processes bounds end t =
    (k : ℕ) (p : Process) (bound tick : ℕ) → slice_get processes k ≡ Some p → slice_get bounds k ≡ Some bound
    → tick + bound ≤ end → t.released tick (p.rank - 1) ≡ true → EndsWithin t (p.rank - 1) tick bound

-- the line tells ticks and bounds, a bound for each process; in each run under priority ceilings in
-- which an activation of this process may take so many ticks more than its cost, and any other its
-- cost, each activation ends within the bound that the line tells of its process
pub record IsSpared (n : NamedImage) (number : ℕ) (p : Process) (line : List ℕ) : Type 0 where
  pub extra : ℕ
  pub bounds : List ℕ
  pub failing : List ℕ
  pub is : line ≡ slack_line (name_at n number) extra bounds failing
  pub one_each : length bounds ≡ length n.image.processes
  pub runs : (end : ℕ) (t : Trace) (d : Dispatch) → IsDispatched (with_more (tasks_of n.image) (p.rank - 1) extra) end t d → EndWithin n.image.processes bounds end t

-- the text is such a line for each process, in the order of the text
pub record AreSpared (n : NamedImage) (text : List ℕ) : Type 0 where
  pub lines : List (List ℕ)
  pub one_each : length lines ≡ length n.image.processes
  pub each : (k : ℕ) (p : Process) (line : List ℕ) → slice_get n.image.processes k ≡ Some p → slice_get lines k ≡ Some line → IsSpared n k p line
  pub is : text ≡ concat lines

-- The law: what is told of a valid image is so of runs.
abbrev pub SpareTicksHold : Type 0
SpareTicksHold = (n : NamedImage) (text : List ℕ) → HasLimits n.image → IsValid n.image → IsSlackText n text → AreSpared n text

-- the text is that of a timely program, and the lines are so of its image
pub record TextIsSpared (over : ℕ) (text lines : List ℕ) : Type 0 where
  pub image : NamedImage
  pub timely : IsTimelyText over text image
  pub spared : AreSpared image lines

-- The law: so it is of what `slack` puts, where its status is 0.
abbrev pub SlackHolds : Type 0
SlackHolds = (over : ℕ) (text lines : List ℕ) → IsSlackDue over text (told 0 lines) → TextIsSpared over text lines
