use Rattle.text_fields.proofs.Numerals.{negative_none, negative_zero}
use Rattle.text_fields.proofs.fields_number.negative.Goals as goal

pub returns-in-None-clause-none : goal.returns-in-None-clause-none
returns-in-None-clause-none c = negative_none c.args.digits.now c.in-None.ensures.none

pub returns-in-Some-eq0-clause-none : goal.returns-in-Some-eq0-clause-none
returns-in-Some-eq0-clause-none c = negative_zero c.args.digits.now (cc (c.in-Some-eq0.ensures.found))
