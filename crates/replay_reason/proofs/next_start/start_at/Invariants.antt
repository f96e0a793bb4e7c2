use Rattle.replay_accept.specs.Running.{program_of}
use Rattle.replay_reason.proofs.next_start.start_at.Given as goal

abbrev pub ghost-first_at : goal.ghost-first_at
ghost-first_at a = program_of a.rules.now
