use Rattle.std.proofs.Common.{◌∷◌, [], ◌++◌, sym, subst}
use Rattle.message_expected.specs.Expected.{IsExpected, Picks}
use Rattle.message_expected.proofs.Picked.{left, picked}
use Rattle.message_expected.proofs.finding.add_expected.Goals as goal

pub returns-in_ok-push : goal.returns-in_ok-push
returns-in_ok-push c all before =
    let here = picked (IsExpected c.args.text.now) all c.args.found.now.items c.args.kind before (c.is_expected.ensures.0 c.if-is_expected.true) in
    subst (Picks (IsExpected c.args.text.now) (all ++ c.args.kind ∷ [])) (sym c.in_ok-push.ensures.items) here

pub returns-else-is_expected : goal.returns-else-is_expected
returns-else-is_expected c all before =
    left (IsExpected c.args.text.now) all c.args.found.now.items c.args.kind before
    (λ is. let both = c.is_expected.ensures.1 is in let false = c.if-is_expected.false in cc)
