-- What is found is what is judged, with the reason.
use Rattle.base.specs.declared.event.Event.{Event}
use Rattle.std.specs.Prelude.{List}
use Rattle.syntax_tree.specs.Plain.{Program}
use Rattle.source_semantics.specs.Config.{Config}
use Rattle.source_semantics.specs.Starts.{Script}
use Rattle.source_semantics.specs.Verdicts.{Judges}
use Rattle.replay_reason_spec.specs.Findings.{Finds, verdict_of}
use Rattle.replay_reason_spec.specs.declared.finding.Finding.{Finding}
use Rattle.replay_reason_spec.specs.declared.finding.Finding.TheVariants as found

pub judged : (g : Program) (s : Script) (c : Config) (es : List Event) (f : Finding) → Finds g s c es f → Judges g s c es (verdict_of f)
judged g s c es found.Run run = run
judged g s c es (found.Refused line why) is = record {
  earlier = is.earlier;
  later = is.later;
  parts = is.parts;
  line = is.line;
  reached = is.reached;
  allowed = is.allowed;
  stops = is.stops;
}
