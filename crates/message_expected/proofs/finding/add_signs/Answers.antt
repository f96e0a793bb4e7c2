use Rattle.std.proofs.Common.{◌≡◌, arith, inr, subst}
use Rattle.message_expected.specs.Expected.{IsExpected}
use Rattle.message_expected.specs.Kinds.{numbered}
use Rattle.message_expected.specs.declared.kinds.Kind.TheVariants.{Sign}
use Rattle.message_expected.proofs.HasWords.{has_sign}
use Rattle.message_expected.proofs.Numbered.{GoesOn, none_yet, one_more}
use Rattle.message_expected.proofs.finding.add_signs.Goals as goal

pub add_expected-requires-clause-word : goal.add_expected-requires-clause-word
add_expected-requires-clause-word c = inr (has_sign c.loop-at.at (omega (arith, c.loop-at-test.true)))

pub loop-at-init : goal.loop-at-init
loop-at-init c = none_yet (IsExpected c.args.text.now) Sign c.args.found.now.items

pub loop-at-preserved : goal.loop-at-preserved
loop-at-preserved c =
    one_more (IsExpected c.args.text.now) Sign c.loop-at.at c.args.found.now.items c.loop-at.found.items c.add_expected.new.found.items c.loop-at.invariant c.in_ok-add_expected.ensures

pub returns : goal.returns
returns c =
    let end : c.loop-at.at ≡ 18 = omega arith in
    subst (λ n. GoesOn (IsExpected c.args.text.now) (numbered Sign n) c.args.found.now.items c.loop-at.found.items) end c.loop-at.invariant
