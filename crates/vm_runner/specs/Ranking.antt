-- By what the process that is picked is chosen, in code: one precedence for each process.
use Rattle.std.specs.Prelude.{◌≡◌, ◌≢◌, ◌<◌, ◌≤◌, ◌+◌, ◌*◌, ℕ, List, [], ◌∷◌, Option, Some, length, min, slice_get}
use Rattle.machine_semantics.specs.Image.{Image, Process}
use Rattle.machine_semantics.specs.State.{Thread, Idle, Ready, Waiting}
use Rattle.machine_semantics.specs.Tick.{active_rank, outside}
use Rattle.vm_state.specs.declared.threads.ControlBlock.{ControlBlock}
use Rattle.vm_state.specs.Threads.{thread_of}
use Rattle.vm_state.specs.declared.decoded_image.DecodedImage.{DecodedImage}
use Rattle.vm_state.specs.declared.decoded_image.DecodedProcess.{DecodedProcess as Known}
use Rattle.vm_state.specs.Plan.{IsOf, IsProcess}
use Rattle.vm_runner.specs.declared.ranking.Precedence.{Precedence}
use Rattle.vm_runner.specs.declared.ranking.Ranking.{Ranking}

-- the number of a process that is not ready
abbrev pub nobody : ℕ
nobody = 4294967295

-- twice its active rank, and one more outside of all monitors
abbrev pub key : Image → Process → Option ℕ → ℕ
key image p inside = 2 * active_rank image p inside + outside inside

-- the number of process k, which stands so: who is ready is chosen by its key, and then by its place
abbrev pub IsNumber : Image → ℕ → Process → Thread → ℕ → Type 0
IsNumber image k p (Ready job) n = (n ≡ 64 * key image p job.inside + k) × (n < nobody)
IsNumber image k p Idle n = n ≡ nobody
IsNumber image k p (Waiting condition due number job) n = n ≡ nobody

-- the least of the numbers
abbrev pub least_of : List Precedence → ℕ
least_of [] = nobody
least_of (a ∷ rest) = min a.number (least_of rest)

-- each process has its number, and the least of them is known
pub record IsRanking (image : Image) (threads : List Thread) (r : Ranking) : Type 0 where
  pub few : length image.processes ≤ 64
  pub all : length threads ≡ length image.processes
  pub count : length r.precedences.items ≡ length image.processes
  pub numbers : (k : ℕ) (p : Process) (th : Thread) (a : Precedence) → slice_get image.processes k ≡ Some p → slice_get threads k ≡ Some th → slice_get r.precedences.items k ≡ Some a → IsNumber image k p th a.number
  pub least : r.least.number ≡ least_of r.precedences.items

-- how the processes of an image stand
pub record Standing : Type 0 where
  pub image : Image
  pub threads : List Thread

-- each other process stands as before
abbrev pub StandAsBefore : (before now : List Thread) → (who : ℕ) → Type 0
StandAsBefore before now who = (j : ℕ) → j ≢ who → slice_get now j ≡ slice_get before j

-- ---- in code

abbrev pub IsKeyOf : DecodedImage → Known → Option ℕ → ℕ → Type 0
IsKeyOf plan known inside n = (image : Image) (p : Process) → IsOf image plan → IsProcess p known → n ≡ key image p inside

abbrev pub IsPrecedence : DecodedImage → Known → ControlBlock → ℕ → Precedence → Type 0
IsPrecedence plan known cell k a = (image : Image) (p : Process) → IsOf image plan → IsProcess p known → IsNumber image k p (thread_of cell) a.number
