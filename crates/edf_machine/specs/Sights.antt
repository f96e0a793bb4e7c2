-- What is seen of the processes from one on, and what one more adds.
use Rattle.std.specs.Prelude.{◌≡◌, ◌||◌, ℕ, true, false, not, List, Option, Some, None, if◌then◌else◌}
use Rattle.vm_state.specs.declared.threads.ControlBlock.{ControlBlock}
use Rattle.vm_state.specs.Threads.{thread_of}
use Rattle.machine_semantics.specs.Image.{Image, Process}
use Rattle.machine_semantics.specs.State.{Thread, Idle, Ready, Waiting}
use Rattle.vm_state.specs.declared.decoded_image.DecodedImage.{DecodedImage}
use Rattle.vm_state.specs.declared.decoded_image.DecodedProcess.{DecodedProcess as Planned}
use Rattle.vm_state.specs.Plan.{IsOf, IsProcess}
use Rattle.edf_semantics.specs.Choice.{Entry, Mark, entry, least_ceiling, soonest, sooner_of, with_inside}
use Rattle.edf_machine.specs.declared.choice.ReadyProcess.{ReadyProcess}
use Rattle.edf_machine.specs.declared.choice.Candidates.{Candidates}
use Rattle.edf_machine.specs.declared.marks.DeadlineState.{DeadlineState as Kept}
use Rattle.edf_machine.specs.Marks.{IsMark}

abbrev pub entry_of : ReadyProcess → Entry
entry_of f = record { place = f.place; due = f.due; rank = f.rank; begun = f.begun }

abbrev pub entry_some : Option ReadyProcess → Option Entry
entry_some None = None
entry_some (Some f) = Some (entry_of f)

-- the first of those that are ready and the first of those that have begun, and the least ceiling of
-- a monitor that somebody is inside
pub record Seen : Type 0 where
  pub first : Option Entry
  pub begun : Option Entry
  pub least : Option ℕ

abbrev pub seen_of : Candidates → Seen
seen_of s = record { first = entry_some s.first; begun = entry_some s.begun; least = s.least }

-- of the processes from k on
abbrev pub seen_from : Image → ℕ → List Process → List Thread → List Mark → Seen
seen_from image k ps ts ms = record { first = soonest false k ps ts ms; begun = soonest true k ps ts ms; least = least_ceiling image ts }

-- once process k, which stands so, is looked at too
abbrev pub looked : Image → ℕ → Process → Thread → Mark → Seen → Seen
looked image k p (Ready job) m s = record {
  first = if m.begun || not false then sooner_of (entry k p m) s.first else s.first;
  begun = if m.begun || not true then sooner_of (entry k p m) s.begun else s.begun;
  least = with_inside image job.inside s.least;
}
looked image k p Idle m s = s
looked image k p (Waiting condition due number job) m s = s

-- what was seen before, and what is seen once process k is looked at too
abbrev pub Looks : DecodedImage → Planned → ControlBlock → Kept → ℕ → Candidates → Candidates → Type 0
Looks plan known cell kept k old new = (image : Image) (p : Process) (m : Mark) → IsOf image plan → IsProcess p known → IsMark p kept m → seen_of new ≡ looked image k p (thread_of cell) m (seen_of old)
