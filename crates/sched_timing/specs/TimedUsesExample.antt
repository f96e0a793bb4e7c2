-- An image that meets the premises.
use Rattle.std.specs.Prelude.{ℕ, List, [], ◌∷◌, Option, Some}
use Rattle.machine_isa.specs.declared.instr.Instr.{Instr}
use Rattle.sched_response.specs.declared.uses.Use.{Use}
use Rattle.machine_safety.specs.Example.{meeting_place, meeting_parts}
use Rattle.sched_timing.specs.Defined.{AreDefined, AreTested}

-- the process that waits stays 13 ticks in the monitor, the one that signals 8
abbrev pub meeting_uses : List Use
meeting_uses =
    record { frame = 200; deadline = 200; cost = record { run = 43; susp = 30; waits = 1 }; stays = record { mon = 0; ticks = 13 } ∷ [] }
    ∷ record { frame = 300; deadline = 300; cost = record { run = 27; susp = 0; waits = 0 }; stays = record { mon = 0; ticks = 8 } ∷ [] } ∷ []

abbrev pub meeting_ranks : List ℕ
meeting_ranks = 1 ∷ 2 ∷ []

abbrev pub meeting_ceilings : List (Option ℕ)
meeting_ceilings = Some 1 ∷ []

-- the image with a monitor, a wait, a signal and a handler
pub record MeetingIsDefined (code : List Instr) : Type 0 where
  pub defined : AreDefined (meeting_place 0 code) meeting_parts meeting_uses meeting_ranks meeting_ceilings
  pub tested : AreTested (meeting_place 0 code) meeting_parts
