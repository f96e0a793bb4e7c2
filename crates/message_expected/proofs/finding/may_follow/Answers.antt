use Rattle.std.proofs.Common.{◌∷◌, ap, arith, length, length-append}
use Rattle.message_expected.specs.Kinds.{spelling}
use Rattle.message_expected.specs.Stack.{reached_of}
use Rattle.message_expected.proofs.May.{exactly, too_long}
use Rattle.message_expected.proofs.finding.may_follow.Goals as goal

pub returns-then-spelling-saturating_sub : goal.returns-then-spelling-saturating_sub
returns-then-spelling-saturating_sub c =
    too_long c.args.text.now (reached_of c.args.reached.now) c.args.kind c.requires.leads c.requires.word
    (λ fits. omega (arith, fits, c.if-spelling-saturating_sub.true, c.saturating_sub.ensures, ap length c.spelling.ensures, length-append c.args.text.now (10 ∷ spelling c.args.kind)))

pub returns : goal.returns
returns c =
    exactly c.args.text.now (reached_of c.args.reached.now) c.args.kind c.requires.leads c.requires.word c.goes_on.result c.goes_on.ensures
    (omega (arith, c.if-spelling-saturating_sub.false, c.saturating_sub.ensures, ap length c.spelling.ensures, length-append c.args.text.now (10 ∷ spelling c.args.kind)))
