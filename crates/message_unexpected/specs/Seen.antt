-- What the rows of the code are in the table.
use Rattle.message_unexpected.specs.Foreign as foreign
use Rattle.message_unexpected.specs.declared.foreign.Foreign.{Foreign}

abbrev pub foreign_of : Foreign → foreign.Foreign
foreign_of f = foreign.foreign f.word.now f.note.now
