-- What code knows of the processes for the choice.
use Rattle.std.specs.Prelude.{◌≡◌, ◌+◌, ℕ, Bool, true, false, List, Some, length, map, slice_get}
use Rattle.machine_semantics.specs.Image.{Image, Process}
use Rattle.machine_semantics.specs.State.{Thread, Idle, Ready, Waiting}
use Rattle.edf_semantics.specs.Choice.{Mark}
use Rattle.edf_machine.specs.declared.marks.DeadlineState.{DeadlineState as Kept}

-- what code knows of a process is what the meaning does: the deadline of its activation is so many
-- ticks after the release
pub record IsMark (p : Process) (kept : Kept) (m : Mark) : Type 0 where
  pub deadline : kept.deadline ≡ p.deadline
  pub due : kept.due ≡ m.release + p.deadline
  pub begun : kept.begun ≡ m.begun

-- of each process
pub record AreMarks (image : Image) (kepts : List Kept) (ms : List Mark) : Type 0 where
  pub many : length kepts ≡ length image.processes
  pub count : length ms ≡ length image.processes
  pub each : (k : ℕ) (p : Process) (kept : Kept) (m : Mark) → slice_get image.processes k ≡ Some p → slice_get kepts k ≡ Some kept → slice_get ms k ≡ Some m → IsMark p kept m

-- these are the deadlines of the processes
abbrev pub HasDeadlines : Image → List ℕ → Type 0
HasDeadlines image deadlines = map (λ (p : Process). p.deadline) image.processes ≡ deadlines

-- before the first tick
abbrev pub first_kept : ℕ → Kept
first_kept deadline = record { deadline = deadline; due = deadline; begun = false; idle = true }

abbrev pub is_idle : Thread → Bool
is_idle Idle = true
is_idle (Ready job) = false
is_idle (Waiting condition due number job) = false

-- code knows of each process whether it is idle in these threads
abbrev pub AreNoted : List Thread → List Kept → Type 0
AreNoted threads kepts = (k : ℕ) (th : Thread) (kept : Kept) → slice_get threads k ≡ Some th → slice_get kepts k ≡ Some kept → kept.idle ≡ is_idle th
