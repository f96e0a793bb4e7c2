use Rattle.command_words.proofs.Overheads.{is_number, no_number}
use Rattle.command_words.proofs.rows.numeral.Goals as goal

pub returns-in-Some-clause-is : goal.returns-in-Some-clause-is
returns-in-Some-clause-is c = cc (is_number c.args.most c.args.word.now c.in-Some.number c.requires c.in-Some.ensures.small c.in-Some.ensures.found)

pub returns-in-None-clause-is : goal.returns-in-None-clause-is
returns-in-None-clause-is c = cc (no_number c.args.most c.args.word.now c.in-None.ensures.none)
