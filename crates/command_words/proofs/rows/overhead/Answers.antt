use Rattle.std.proofs.Common.{arith}
use Rattle.command_words.proofs.Overheads.{is_number, no_number}
use Rattle.command_words.proofs.rows.overhead.Goals as goal

pub returns-in-Some-clause-is : goal.returns-in-Some-clause-is
returns-in-Some-clause-is c = cc (is_number 1000 c.as_bytes.result.now c.in-Some.overhead (omega arith) c.in-Some.ensures.small c.in-Some.ensures.found)

pub returns-in-None-clause-is : goal.returns-in-None-clause-is
returns-in-None-clause-is c = cc (no_number 1000 c.as_bytes.result.now c.in-None.ensures.none)
