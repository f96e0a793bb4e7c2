use Rattle.std.proofs.Common.{◌≡◌, ◌-◌, drop}
use Rattle.message_script.specs.Forms.{behind_blanks}
use Rattle.message_script.proofs.forms.behind_blanks.Given as goal

abbrev pub invariant-loop-at : goal.invariant-loop-at
invariant-loop-at l = behind_blanks (drop (l.at - 1) l.line) ≡ behind_blanks l.line
