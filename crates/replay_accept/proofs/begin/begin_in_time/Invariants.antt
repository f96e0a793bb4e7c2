use Rattle.replay_accept.specs.Running.{program_of}
use Rattle.replay_accept.proofs.begin.begin_in_time.Given as goal

abbrev pub ghost-next_start : goal.ghost-next_start
ghost-next_start a = program_of a.self.now
