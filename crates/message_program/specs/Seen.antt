-- What the rows of the code are in the tables.
use Rattle.message_program.specs.Hints as hints
use Rattle.message_program.specs.Rules as rules
use Rattle.message_program.specs.declared.hint_rows.Hint.{Hint}
use Rattle.message_program.specs.declared.rule_rows.Rule.{Rule}

abbrev pub hint_of : Hint → hints.Hint
hint_of h = hints.hint h.bytes.now h.note.now

abbrev pub rule_of : Rule → rules.Rule
rule_of r = rules.with_word r.number r.before.now r.behind.now r.note.now
