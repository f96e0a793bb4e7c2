use Rattle.std.proofs.Common.{sym, subst, arith, length-take-le}
use Rattle.syntax.specs.Spellings.{is_identifier}
use Rattle.syntax.proofs.SpellLemmas.{LongestRun, longest_word}
use Rattle.syntax.proofs.front.word.Goals as goal

pub returns-then-len-gt-LONGEST_NAME-clause-err : goal.returns-then-len-gt-LONGEST_NAME-clause-err
returns-then-len-gt-LONGEST_NAME-clause-err c =
    let run = subst (LongestRun is_identifier c.args.bytes.now) (sym c.word_len-len.ensures.value) (longest_word c.args.bytes.now c.requires) in
    record { len = c.word_len-len.result; longest = run.longest; identifier = run.is; long = omega arith }

pub returns-in-Some-clause-ok : goal.returns-in-Some-clause-ok
returns-in-Some-clause-ok c =
    let run = subst (LongestRun is_identifier c.args.bytes.now) (sym c.word_len-len.ensures.value) (longest_word c.args.bytes.now c.requires) in
    (run.longest, c.in-Some.ensures.found)

pub returns-in-None-clause-ok : goal.returns-in-None-clause-ok
returns-in-None-clause-ok c =
    let run = subst (LongestRun is_identifier c.args.bytes.now) (sym c.word_len-len.ensures.value) (longest_word c.args.bytes.now c.requires) in
    (run.longest, (run.is, c.in-None.ensures.none, omega (arith, length-take-le c.word_len-len.result c.args.bytes.now c.word_len-len.ensures.within)))
