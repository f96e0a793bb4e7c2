use Rattle.message_text.proofs.Cuts.{IsBehind}
use Rattle.message_text.proofs.lines.line.Given as goal

abbrev pub invariant-loop-before : goal.invariant-loop-before
invariant-loop-before l = IsBehind l.text l.left l._before
