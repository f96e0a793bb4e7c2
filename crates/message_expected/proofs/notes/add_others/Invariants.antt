use Rattle.std.proofs.Common.{◌≡◌, ◌++◌, drop}
use Rattle.message_text.specs.Either.{others}
use Rattle.message_expected.proofs.notes.add_others.Given as goal

abbrev pub invariant-loop-index : goal.invariant-loop-index
invariant-loop-index l = l.text ++ others (drop l.index l.others) ≡ l.fn.text ++ others l.others
