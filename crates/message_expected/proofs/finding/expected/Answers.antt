use Rattle.std.proofs.Common.{inr, subst}
use Rattle.message_expected.specs.Expected.{IsExpected, IsExpectedSet}
use Rattle.message_expected.proofs.HasWords.{has_deadline, has_name, has_number}
use Rattle.message_expected.proofs.Numbered.{all_kinds}
use Rattle.message_expected.proofs.finding.expected.Goals as goal

pub add_expected-requires-2-clause-word : goal.add_expected-requires-2-clause-word
add_expected-requires-2-clause-word c = inr has_name

pub add_expected-requires-3-clause-word : goal.add_expected-requires-3-clause-word
add_expected-requires-3-clause-word c = inr has_number

pub add_expected-requires-4-clause-word : goal.add_expected-requires-4-clause-word
add_expected-requires-4-clause-word c = inr has_deadline

pub returns : goal.returns
returns c =
    subst (λ text. IsExpectedSet text c.add_signs.new.found.items) c.front-text.ensures
    (all_kinds (IsExpected c.front-text.result.now) c.new-found.result.items c.add_expected.new.found.items c.add_expected-2.new.found.items c.add_expected-3.new.found.items c.add_expected-4.new.found.items
    c.add_keywords.new.found.items c.add_signs.new.found.items c.new-found.ensures.items c.in_ok-add_expected.ensures c.in_ok-add_expected-2.ensures c.in_ok-add_expected-3.ensures c.in_ok-add_expected-4.ensures
    c.in_ok-add_keywords.ensures c.in_ok-add_signs.ensures)
