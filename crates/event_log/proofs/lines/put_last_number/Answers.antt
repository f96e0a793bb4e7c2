use Rattle.std.proofs.Common.{arith}
use Rattle.std.proofs.lemmas.Fmt.{length-decimal-le}
use Rattle.event_log.proofs.lines.put_last_number.Goals as goal

pub put_number-requires : goal.put_number-requires
put_number-requires c = omega (arith, length-decimal-le 5 c.from.result (omega arith) (omega arith) (omega arith))

pub put_byte-requires : goal.put_byte-requires
put_byte-requires c = omega (arith, length-decimal-le 5 c.from.result (omega arith) (omega arith) (omega arith))

pub returns-clause-len : goal.returns-clause-len
returns-clause-len c = omega (arith, length-decimal-le 5 c.from.result (omega arith) (omega arith) (omega arith))
