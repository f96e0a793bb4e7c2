use Rattle.std.proofs.Common.{arith}
use Rattle.command_words.proofs.Overheads.{number_is, is_number}
use Rattle.command_words.proofs.words.overheads_are_decimal.Goals as goal

pub returns : goal.returns
returns c word overhead = (number_is 1000 word overhead, λ is. is_number 1000 word overhead (omega arith) is.0 is.1)
