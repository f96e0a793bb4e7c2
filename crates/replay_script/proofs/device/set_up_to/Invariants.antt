use Rattle.std.proofs.Common.{◌≡◌, drop, map}
use Rattle.source_semantics.specs.Starts.{value_set}
use Rattle.script.specs.Meaning.{line_said}
use Rattle.replay_script.proofs.device.set_up_to.Given as goal

abbrev pub invariant-loop-line : goal.invariant-loop-line
invariant-loop-line l = value_set l.tick l.device l.last (map line_said (drop l.line-index l.lines)) ≡ value_set l.tick l.device l.before (map line_said l.lines)
