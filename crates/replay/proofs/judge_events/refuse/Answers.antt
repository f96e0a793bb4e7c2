use Rattle.std.proofs.Common.{[], ◌∷◌, ◌++◌, ◌∙◌}
use Rattle.replay_state.specs.View.{config_of}
use Rattle.replay_script.specs.Cursors.{script_in}
use Rattle.replay_accept.specs.Running.{program_of}
use Rattle.replay.proofs.ReplayingLemmas.{found_refused}
use Rattle.replay.proofs.judge_events.refuse.Goals as goal

pub returns-clause-found : goal.returns-clause-found
returns-clause-found c = λ begun text before read allowed.
    let e = c.args.event.now in
    found_refused (program_of c.args.running.now.rules) (script_in c.args.script.now) begun (config_of c.args.running.now.config) c.args.reader.now c.read_to_end.new.self text before e c.lines-line.result c.in_ok-reason.reason
    (c.in_ok-read_to_end.ensures.all text (before ++ e ∷ []) read) c.in_ok-read_to_end.ensures.names (c.lines-line.ensures ∙ read.lines) allowed c.requires.stops c.in_ok-reason.ensures
