-- A program with a monitor, a wait, a signal and a handler, and its image.
use Rattle.std.specs.Prelude.{ℕ}
use Rattle.source_semantics_law.specs.Example.{signalled_wait}
use Rattle.source_semantics.specs.Starts.{Script}
use Rattle.source_semantics.specs.Source.{IsSourceRun}
use Rattle.machine_semantics.specs.Run.{events}
use Rattle.machine_semantics.specs.Whole.{HasNoOverrun}
use Rattle.machine_safety.specs.SmallImages.{waiter_and_signaller}
use Rattle.code_lifting.specs.Related.{Whole}
use Rattle.code_lifting.specs.Compiled.{IsFrom, script_of}
use Rattle.code_lifting.specs.Image.{IsImageOf, AreRight, whole}

-- with any ticks of dispatch
abbrev pub meeting : ℕ → Whole
meeting over = whole (waiter_and_signaller over 31) signalled_wait

-- its image is that of the program
abbrev pub MeetingIsImage : Type 0
MeetingIsImage = (over : ℕ) → IsImageOf (meeting over)

-- the code of both processes is right
abbrev pub MeetingIsRight : Type 0
MeetingIsRight = (over : ℕ) → AreRight (meeting over)

-- The law of the example: every run of the image is a run of the program, over every script in
-- which no release finds its process unfinished.
abbrev pub MeetingRuns : Type 0
MeetingRuns = (over : ℕ) (script : Script) → IsFrom 0 script.lines → HasNoOverrun (waiter_and_signaller over 31) (script_of script)
    → IsSourceRun signalled_wait script (events (waiter_and_signaller over 31) (script_of script))
