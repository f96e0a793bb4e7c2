use Rattle.message_expected.specs.Expected.{IsExpected}
use Rattle.message_expected.specs.Kinds.{numbered}
use Rattle.message_expected.specs.declared.kinds.Kind.TheVariants.{Sign}
use Rattle.message_expected.proofs.Numbered.{GoesOn}
use Rattle.message_expected.proofs.finding.add_signs.Given as goal

abbrev pub invariant-loop-at : goal.invariant-loop-at
invariant-loop-at l = GoesOn (IsExpected l.text) (numbered Sign l.at) l.fn.found.items l.found.items
