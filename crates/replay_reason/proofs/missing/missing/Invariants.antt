use Rattle.std.proofs.Common.{◌-◌}
use Rattle.replay_state.specs.View.{config_of}
use Rattle.replay_script.specs.Cursors.{script_in}
use Rattle.replay_accept.specs.Running.{program_of}
use Rattle.replay_reason_spec.specs.Events.{events_of}
use Rattle.replay_reason_spec.specs.Reasons.{most}
use Rattle.replay_reason.specs.Following.{Follows}
use Rattle.replay_reason.specs.Starting.{IsListed}
use Rattle.replay_reason.proofs.missing.missing.Given as goal

abbrev pub invariant-loop-turn : goal.invariant-loop-turn
invariant-loop-turn l = record {
  follows : Follows l.rules l.config l.script;
  listed : IsListed (program_of l.rules) (script_in l.script) l.until most (config_of l.fn.config) (config_of l.config) (most - l._turn) (events_of l.found.items);
}
