use Rattle.std.proofs.Common.{arith}
use Rattle.script.proofs.OnePass.{word_front}
use Rattle.script.proofs.quick.word_to.Goals as goal

pub returns-clause-word : goal.returns-clause-word
returns-clause-word c = word_front c.args.bytes.now c.word_len-len.result c.word_len-len.ensures.value (omega arith) c.word_len-len.ensures.within
