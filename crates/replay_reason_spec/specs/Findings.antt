-- What is found of a list of events: whether it is a run, and where and why it is none.
use Rattle.std.specs.Prelude.{◌≡◌, ℕ, suc, ◌++◌, List, length}
use Rattle.base.specs.declared.event.Event.{Event}
use Rattle.syntax_tree.specs.Plain.{Program}
use Rattle.source_semantics.specs.Config.{Config}
use Rattle.source_semantics.specs.Starts.{Script}
use Rattle.source_semantics.specs.Source.{RunFrom}
use Rattle.source_semantics.specs.Verdicts.{Allowed, Stops}
use Rattle.source_semantics.specs.declared.verdict.Verdict.{Verdict}
use Rattle.source_semantics.specs.declared.verdict.Verdict.TheVariants as verdict
use Rattle.replay_reason_spec.specs.Reasons.{IsReason}
use Rattle.replay_reason_spec.specs.declared.finding.Finding.{Finding}
use Rattle.replay_reason_spec.specs.declared.finding.Finding.TheVariants as found
use Rattle.replay_reason_spec.specs.declared.reason.Reason.{Reason}

-- The events before line n are allowed in turn, and those from it on stop, for this reason. The
-- first line is 1.
pub record IsRefusedFor (g : Program) (s : Script) (c : Config) (es : List Event) (n : ℕ) (why : Reason) : Type 0 where
  pub earlier : List Event
  pub later : List Event
  pub parts : es ≡ earlier ++ later
  pub line : n ≡ suc (length earlier)
  pub reached : Config
  pub allowed : Allowed g s c earlier reached
  pub stops : Stops g s reached later
  pub reason : IsReason g s reached later why

-- what is found of the events from a configuration on
abbrev pub Finds : Program → Script → Config → List Event → Finding → Type 0
Finds g s c es found.Run = RunFrom g s c es
Finds g s c es (found.Refused line why) = IsRefusedFor g s c es line why

-- the verdict, without the reason
abbrev pub verdict_of : Finding → Verdict
verdict_of found.Run = verdict.Run
verdict_of (found.Refused line why) = verdict.Refused line
