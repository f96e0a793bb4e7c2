use Rattle.std.proofs.Common.{arith}
use Rattle.replay_state.specs.View.{config_of}
use Rattle.replay_script.specs.Cursors.{script_in}
use Rattle.replay_accept.specs.Running.{program_of}
use Rattle.replay_accept.proofs.Judging.{in_time}
use Rattle.replay_accept.proofs.begin.is_in_time.Goals as goal

pub returns : goal.returns
returns c =
    in_time (program_of c.args.rules.now) (script_in c.args.script.now) (config_of c.args.config.now) c.args.event.now c.is_none_missing.result (omega arith) (omega arith)
    c.is_none_missing.ensures
