use Rattle.std.proofs.Common.{take, All}
use Rattle.std.specs.Prelude.{IsTrue}
use Rattle.table_format.specs.Faults.{is_numeral}
use Rattle.table_reader.specs.Reading.{seen}
use Rattle.table_reader.proofs.form.are_numerals.Given as goal

abbrev pub invariant-loop-word : goal.invariant-loop-word
invariant-loop-word l = All (λ word. IsTrue (is_numeral word)) (seen (take l.word-index l.words))
