use Rattle.std.proofs.Common.{arith}
use Rattle.std.proofs.lemmas.Fmt.{length-decimal-le}
use Rattle.event_log.proofs.text.LineBuffer.put_signed.Goals as goal

pub put_number-requires : goal.put_number-requires
put_number-requires c = omega (arith, length-decimal-le 10 c.from.result (omega arith) (omega arith) (omega arith))

pub put_byte-requires : goal.put_byte-requires
put_byte-requires c = omega (arith, length-decimal-le 10 c.from.result (omega arith) (omega arith) (omega arith))

pub returns-then-number-lt0-clause-len : goal.returns-then-number-lt0-clause-len
returns-then-number-lt0-clause-len c = omega (arith, length-decimal-le 10 c.from.result (omega arith) (omega arith) (omega arith))

pub returns-else-number-lt0-clause-len : goal.returns-else-number-lt0-clause-len
returns-else-number-lt0-clause-len c = omega (arith, length-decimal-le 10 c.from.result (omega arith) (omega arith) (omega arith))
