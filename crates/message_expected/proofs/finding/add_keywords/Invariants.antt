use Rattle.message_expected.specs.Expected.{IsExpected}
use Rattle.message_expected.specs.Kinds.{numbered}
use Rattle.message_expected.specs.declared.kinds.Kind.TheVariants.{Keyword}
use Rattle.message_expected.proofs.Numbered.{GoesOn}
use Rattle.message_expected.proofs.finding.add_keywords.Given as goal

abbrev pub invariant-loop-at : goal.invariant-loop-at
invariant-loop-at l = GoesOn (IsExpected l.text) (numbered Keyword l.at) l.fn.found.items l.found.items
