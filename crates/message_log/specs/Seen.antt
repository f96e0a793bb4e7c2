-- What the forms of the code are in those of the table.
use Rattle.message_log.specs.Log as log
use Rattle.message_log.specs.declared.table.Form.{Form}

abbrev pub form_of : Form → log.Form
form_of f = log.form f.word.now f.behind.now
