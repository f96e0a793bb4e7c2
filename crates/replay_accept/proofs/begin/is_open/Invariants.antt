use Rattle.replay_accept.specs.Running.{program_of}
use Rattle.replay_accept.proofs.begin.is_open.Given as goal

abbrev pub ghost-is_none_missing : goal.ghost-is_none_missing
ghost-is_none_missing a = program_of a.self.now
