use Rattle.std.proofs.Common.{sym}
use Rattle.replay_calls.specs.Reach.{memory_of}
use Rattle.replay_next.proofs.items.end_turn.Goals as goal

pub returns-clause-same : goal.returns-clause-same
returns-clause-same c = sym (c.drop_turn.ensures (memory_of c.args.memory.now))
