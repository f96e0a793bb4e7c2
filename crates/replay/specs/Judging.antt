-- What is found of a log, and how many events it has.
use Rattle.std.specs.Prelude.{◌≡◌, ◌⊎◌, ℕ, List, length}
use Rattle.out_of_memory.specs.Refused.{refused}
use Rattle.base.specs.declared.event.Event.{Event}
use Rattle.syntax_tree.specs.Plain.{Program}
use Rattle.source_semantics.specs.Config.{Config}
use Rattle.source_semantics.specs.Starts.{Script}
use Rattle.image.specs.declared.names.ImageNames.{ImageNames}
use Rattle.event_log.specs.Logs.{IsFault, IsLog}
use Rattle.event_log.specs.declared.fault.LogFault.{LogFault}
use Rattle.event_log.specs.declared.fault.LogFault.TheVariants.{Memory}
use Rattle.replay_reason_spec.specs.Findings.{Finds}
use Rattle.replay_reason_spec.specs.declared.finding.Finding.{Finding}

-- the text is a log for these names, and this is found of its events, which are so many
pub record IsFoundOf (g : Program) (s : Script) (c : Config) (names : ImageNames) (text : List ℕ) (found : Finding) (count : ℕ) : Type 0 where
  pub events : List Event
  pub log : IsLog names text events
  pub finds : Finds g s c events found
  pub many : count ≡ length events

-- why nothing is found: the text is no log, or memory is wanting
abbrev pub IsFaultOf : ImageNames → (text : List ℕ) → LogFault → Type 0
IsFaultOf names text why = (why ≡ Memory refused) ⊎ IsFault names text why
