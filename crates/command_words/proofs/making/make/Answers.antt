use Rattle.std.proofs.Common.{arith}
use Rattle.command_words.proofs.Five.{five_words, make_word}
use Rattle.command_words.proofs.making.make.Goals as goal

pub returns-clause-some : goal.returns-clause-some
returns-clause-some c =
    let words =
    five_words c.args.words.now c.word-item.result c.key_word-item.result c.count_word-item.result c.program-item.result c.script-item.result c.in-len5.len_at_least c.in-len5.len_below c.word-item.is c.key_word-item.is c.count_word-item.is c.program-item.is c.script-item.is in
    let word = make_word c.as_str.result.now c.ne.result c.ne.ensures c.if-ne.false in
    record {
      each = c.requires;
      row = cc (words, word, c.as_str.ensures.value, c.as_bytes.ensures.value, c.as_bytes-2.ensures.value, c.as_str-2.ensures.value, c.as_str-3.ensures.value, c.in-Some.ensures.found, c.in-Some-count.ensures.found);
      key = omega arith;
      some = c.in-Some-count.ensures.some;
      few = c.in-Some-count.ensures.few;
    }
