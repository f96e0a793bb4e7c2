-- A program that runs by its events: its tables and its configuration.
use Rattle.std.specs.Prelude.{◌≡◌, ◌<◌, ◌^◌, ℕ, Bool, true, false, Option, Some, None}
use Rattle.base.specs.declared.event.Act.{Act}
use Rattle.base.specs.declared.event.Act.TheVariants as act
use Rattle.syntax_tree.specs.Placed.{placed, plain}
use Rattle.syntax_tree.specs.Plain.{Program}
use Rattle.source_semantics.specs.Config.{Config}
use Rattle.source_semantics.specs.Names.{routine_count}
use Rattle.source_semantics.specs.Source.{IsFirst}
use Rattle.replay_due_events.specs.NextDue.{FramesPass}
use Rattle.replay_state.specs.Tables.{AreRanksOf, Fits}
use Rattle.replay_state.specs.View.{config_of}
use Rattle.replay_due_events.specs.Next.{IsQuiet}
use Rattle.replay_due_events.specs.Timings.{IsTimetableOf}
use Rattle.replay_state.specs.Texts.{IsText}
use Rattle.replay_accept.specs.Judged.{IsReady}
use Rattle.replay_accept.specs.declared.rules.Rules.{Rules}
use Rattle.replay_accept.specs.declared.running.Running.{Running}

abbrev pub program_of : Rules → Program
program_of r = plain (placed r.text.declarations.now)

-- texts, conditions, timings, ranks and ceilings are those of the program, it has so many routines,
-- and no frame is 0
pub record AreRules (r : Rules) : Type 0 where
  pub text : IsText r.text
  pub conditions : r.conditions.now ≡ r.text.declarations.now
  pub table : IsTimetableOf (program_of r) r.table
  pub ranks : AreRanksOf (program_of r) r.ranks
  pub routines : r.routines ≡ routine_count (program_of r)
  pub frames : FramesPass (program_of r)

-- a process that is kept is ready, and no ready process is taken before it
abbrev pub IsFirstOf : Program → Config → Option ℕ → Type 0
IsFirstOf g c None = Unit {0}
IsFirstOf g c (Some k) = IsReady c k × IsFirst g c k

-- an act that changes neither what processes are doing nor who is inside a monitor
abbrev pub keeps_first : Act → Bool
keeps_first (act.Get d v) = true
keeps_first (act.Put d v) = true
keeps_first (act.Empty x b) = true
keeps_first _ = false

-- the tables are those of the program, the configuration is one of it, and neither the clock nor a
-- wait starts a process between the tick reached and the one that is kept
pub record Stands (r : Running) : Type 0 where
  pub rules : AreRules r.rules
  pub fits : Fits (program_of r.rules) (config_of r.config)
  pub tick : r.config.tick < 2 ^ 61
  pub quiet : IsQuiet r.rules.table.timings.items (config_of r.config) r.next_start
  pub first : IsFirstOf (program_of r.rules) (config_of r.config) r.first
