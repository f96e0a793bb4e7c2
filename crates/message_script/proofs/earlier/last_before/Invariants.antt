use Rattle.std.proofs.Common.{◌≡◌, ◌-◌, None, take}
use Rattle.message_text.specs.Shown.{lines}
use Rattle.message_script.specs.Earlier.{last_such}
use Rattle.message_script.specs.Sought.{is_such}
use Rattle.message_script.proofs.earlier.last_before.Given as goal

abbrev pub invariant-loop-earlier : goal.invariant-loop-earlier
invariant-loop-earlier l = last_such (is_such l.sought) l.earlier l.last (take (l.number - l.earlier) (lines l.left)) ≡ last_such (is_such l.sought) 1 None (take (l.number - 1) (lines l.fn.text))
