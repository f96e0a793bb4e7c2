use Rattle.replay_accept.specs.Running.{program_of}
use Rattle.replay_reason.proofs.next_start.is_none_missing.Given as goal

abbrev pub ghost-none_missing : goal.ghost-none_missing
ghost-none_missing a = program_of a.rules.now
