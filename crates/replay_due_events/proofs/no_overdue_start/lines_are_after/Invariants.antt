use Rattle.std.proofs.Common.{◌≡◌, drop, map}
use Rattle.replay_due_events.specs.NextDue.{is_after, lines_due}
use Rattle.replay_state.specs.View.{config_of}
use Rattle.script.specs.Meaning.{line_said}
use Rattle.replay_due_events.proofs.no_overdue_start.lines_are_after.Given as goal

abbrev pub invariant-loop-line : goal.invariant-loop-line
invariant-loop-line g l = is_after l.until (lines_due g.program (config_of l.config) l.from (map line_said (drop l.line-index l.lines))) ≡ is_after l.until (lines_due g.program (config_of l.config) l.from (map line_said l.lines))

abbrev pub ghost-line_is_after : goal.ghost-line_is_after
ghost-line_is_after g a = g.program
