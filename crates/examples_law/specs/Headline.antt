-- The runs of the image of a program are source runs of it, and in time.
use Rattle.std.specs.Prelude.{ℕ, true}
use Rattle.source_semantics.specs.Starts.{Script}
use Rattle.source_semantics.specs.Source.{IsSourceRun}
use Rattle.source_semantics_law.specs.Example.{signalled_wait}
use Rattle.machine_semantics.specs.Run.{events}
use Rattle.machine_safety.specs.SmallImages.{waiter_and_signaller}
use Rattle.code_spec.specs.Memory.{Order}
use Rattle.static_semantics.specs.WellFormed.{IsWellFormed}
use Rattle.codegen_law.specs.Ruled.{NamesApart}
use Rattle.code_lifting.specs.Compiled.{IsFrom, script_of}
use Rattle.code_lifting.specs.Example.{meeting}
use Rattle.sched_timing.specs.Timed.{IsInTime}
use Rattle.code_correct.specs.Headline.{IsProper}

-- The law of the example: over every script whose lines are in order.
abbrev pub MeetingIsRightAndInTime : Type 0
MeetingIsRightAndInTime = (script : Script) → IsFrom 0 script.lines
    → IsSourceRun signalled_wait script (events (waiter_and_signaller 0 31) (script_of script)) × IsInTime (waiter_and_signaller 0 31) (script_of script)

-- no routine that is no entry
abbrev pub flat : Order
flat = record { level = λ f. 0; runs = λ f. true }

-- the example keeps to the static rules
abbrev pub MeetingIsProper : Type 0
MeetingIsProper = (over : ℕ) → IsProper (meeting over) (λ k. flat)

-- and is well formed
abbrev pub MeetingIsWellFormed : Type 0
MeetingIsWellFormed = IsWellFormed signalled_wait × NamesApart signalled_wait
