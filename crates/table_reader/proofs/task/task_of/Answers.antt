use Rattle.std.proofs.Common.{All, sym, subst}
use Rattle.std.specs.Prelude.{IsTrue}
use Rattle.table_format.specs.Faults.{is_numeral}
use Rattle.table_reader.specs.declared.line.StayWords.{StayWords}
use Rattle.table_reader.proofs.Tasks.{has_numerals, stay_numerals}
use Rattle.table_reader.proofs.task.task_of.Goals as goal

pub numbers_of-requires : goal.numbers_of-requires
numbers_of-requires c = has_numerals c.args.line.now c.requires

pub stays_of-requires : goal.stays_of-requires
stays_of-requires c = subst (All (λ (s : StayWords). IsTrue (is_numeral s.ticks.now))) (sym c.as_slice.ensures.value) (stay_numerals c.args.line.now c.requires)
