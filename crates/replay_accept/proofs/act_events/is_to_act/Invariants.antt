use Rattle.replay_accept.specs.Running.{program_of}
use Rattle.replay_accept.proofs.act_events.is_to_act.Given as goal

abbrev pub ghost-is_first : goal.ghost-is_first
ghost-is_first a = program_of a.self.now
