use Rattle.std.proofs.Common.{refl}
use Rattle.event_log.proofs.Pairs.{pairs_at}
use Rattle.event_log.proofs.digits.pair.Goals as goal

pub returns : goal.returns
returns c = let both = pairs_at c.args.number c.requires in rw (both.0, both.1) refl
