use Rattle.std.proofs.Common.{◌≤◌, ◌<◌, ◌-◌}
use Rattle.source_semantics.specs.Starts.{NoneMissing}
use Rattle.replay_state.specs.View.{config_of}
use Rattle.replay_script.specs.Cursors.{script_in}
use Rattle.replay_accept.specs.Running.{program_of}
use Rattle.replay_reason.specs.Following.{IsBetween}
use Rattle.replay_reason.proofs.next_start.next_tick.Given as goal

abbrev pub invariant-loop-free : goal.invariant-loop-free
invariant-loop-free l = IsBetween (program_of l.fn.rules) (script_in l.fn.script) (config_of l.fn.config) l.until l.free l.missing

abbrev pub decreases-loop-free : goal.decreases-loop-free
decreases-loop-free l = l.missing - l.free
