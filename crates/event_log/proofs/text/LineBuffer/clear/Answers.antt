use Rattle.std.proofs.Common.{arith}
use Rattle.std.proofs.lemmas.List.{drop_all}
use Rattle.event_log.proofs.text.LineBuffer.clear.Goals as goal

pub returns : goal.returns
returns c = drop_all 320 c.self.inside.bytes (omega arith)
