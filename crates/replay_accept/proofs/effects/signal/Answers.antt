use Rattle.std.proofs.Common.{◌∙◌, ap}
use Rattle.replay_state.specs.View.{config_of, jobs_of}
use Rattle.replay_state.specs.Queues.{queues_of}
use Rattle.replay_accept.specs.Told.{first_of}
use Rattle.replay_accept.proofs.Steps.{signalled_some}
use Rattle.replay_accept.proofs.effects.signal.Goals as goal

pub returns-in-Some : goal.returns-in-Some
returns-in-Some c =
    signalled_some c.args.condition c.in-Some.process (config_of c.args.config.now) (jobs_of c.wake.new.jobs.items) (queues_of c.drop_first.new.queues.items)
    (c.in-Some.ensures ∙ ap first_of c.queue.ensures) c.wake.ensures c.drop_first.ensures
