use Rattle.table_reader.proofs.Ranges.{is_number_read, low_read, none_read}
use Rattle.table_reader.proofs.task.ranged.Goals as goal

pub returns-in-None : goal.returns-in-None
returns-in-None c = none_read c.args.low c.args.high c.args.word.now c.requires.small c.requires.numeral c.in-None.ensures.none

pub returns-then-number-low : goal.returns-then-number-low
returns-then-number-low c = low_read c.args.low c.args.high c.args.word.now c.in-Some.number c.requires.small c.in-Some.ensures.small c.if-number-low.true c.in-Some.ensures.found

pub returns-else-number-low : goal.returns-else-number-low
returns-else-number-low c =
    is_number_read c.args.low c.args.high c.args.word.now c.in-Some.number c.requires.small c.if-number-low.false c.in-Some.ensures.small c.in-Some.ensures.found
