use Rattle.std.proofs.Common.{take, All}
use Rattle.table_format.specs.Rules.{IsName}
use Rattle.table_reader.specs.Reading.{seen}
use Rattle.table_reader.proofs.form.are_names.Given as goal

abbrev pub invariant-loop-word : goal.invariant-loop-word
invariant-loop-word l = All (IsName) (seen (take l.word-index l.words))
