-- What the rows of the code are in those of the table.
use Rattle.message_words.specs.Usage as usage
use Rattle.message_words.specs.declared.rows.Row.{Row}

abbrev pub row_of : Row → usage.Row
row_of r = usage.row r.command.now r.places.now r.does.now r.sign.now
