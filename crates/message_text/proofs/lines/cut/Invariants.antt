use Rattle.std.proofs.Common.{◌≡◌, ◌==◌, All, false, take}
use Rattle.message_text.proofs.lines.cut.Given as goal

abbrev pub invariant-loop-at : goal.invariant-loop-at
invariant-loop-at l = All (λ b. (b == l.stop) ≡ false) (take l.at l.bytes)
