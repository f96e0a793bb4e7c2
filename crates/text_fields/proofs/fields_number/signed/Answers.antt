use Rattle.std.proofs.Common.{arith}
use Rattle.text_fields.proofs.Numerals.{empty_none}
use Rattle.text_fields.proofs.fields_number.signed.Goals as goal

pub returns-then-is_empty-clause-none : goal.returns-then-is_empty-clause-none
returns-then-is_empty-clause-none c = empty_none c.args.word.now (grind arith)
