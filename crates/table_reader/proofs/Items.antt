-- What stands behind the end of words and of stays, where an index is past it.
use Rattle.std.proofs.Common.{[]}
use Rattle.std.specs.Borrow.{Bor}
use Rattle.table_format.specs.Spelling.{Word}
use Rattle.table_reader.specs.declared.line.StayWords.{StayWords}

abbrev pub no_word : Bor Word
no_word = record { ref_ptr = (0, 0); now = [] }

abbrev pub no_stay : StayWords
no_stay = record { monitor = no_word; ticks = no_word }
