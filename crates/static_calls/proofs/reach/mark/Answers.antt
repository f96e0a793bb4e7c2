use Rattle.std.proofs.Common.{true, [], ◌∷◌, sym, subst, set}
use Rattle.static_calls.specs.Marks.{AreMarked}
use Rattle.static_calls.proofs.Marking.{mark-one}
use Rattle.static_calls.proofs.reach.mark.Goals as goal

pub returns-in_ok-push : goal.returns-in_ok-push
returns-in_ok-push c =
    let marks = c.args.marks.now in
    let found = c.args.found.now.items in
    subst (λ l. AreMarked marks found (c.args.node ∷ []) (set marks c.args.node true) l) (sym c.in_ok-push.ensures.items) (mark-one marks found c.args.node c.requires c.if-not-marks-node.true)
