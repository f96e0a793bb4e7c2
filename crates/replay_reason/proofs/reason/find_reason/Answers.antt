use Rattle.replay_state.specs.View.{config_of}
use Rattle.replay_script.specs.Cursors.{script_in}
use Rattle.replay_accept.specs.Running.{program_of}
use Rattle.replay_reason.proofs.Telling.{stops_first}
use Rattle.replay_reason.proofs.reason.find_reason.Goals as goal

pub reason_of-requires-clause-stops : goal.reason_of-requires-clause-stops
reason_of-requires-clause-stops c =
    stops_first (program_of c.args.running.now.rules) (script_in c.args.script.now) (config_of c.args.running.now.config) c.args.events.now _ c.in-len1-up.len_at_least c.requires.stops
