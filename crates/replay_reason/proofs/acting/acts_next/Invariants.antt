use Rattle.replay_accept.specs.Running.{program_of}
use Rattle.replay_reason.proofs.acting.acts_next.Given as goal

abbrev pub ghost-is_first : goal.ghost-is_first
ghost-is_first a = program_of a.rules.now
