use Rattle.std.proofs.Common.{◌≡◌, ◌+◌, ◌++◌, ◌∷◌, [], take, get_or, sym, subst, arith}
use Rattle.std.proofs.lemmas.List.{take_more}
use Rattle.static_calls.specs.Marks.{AreMarked}
use Rattle.static_calls.proofs.Marking.{mark-then}
use Rattle.static_calls.proofs.reach.mark_all.Goals as goal

pub loop-node-preserved : goal.loop-node-preserved
loop-node-preserved c =
    let nodes = c.args.nodes.now in
    let i = c.loop-node.node-index in
    let more : take (i + 1) nodes ≡ take i nodes ++ get_or nodes i 0 ∷ [] = take_more nodes i 0 (omega arith) in
    subst (λ l. AreMarked c.args.marks.now c.args.found.now.items l c.mark.new.marks c.mark.new.found.items) (sym more)
    (mark-then c.args.marks.now c.args.found.now.items (take i nodes) c.loop-node.marks c.loop-node.found.items (get_or nodes i 0 ∷ []) c.mark.new.marks c.mark.new.found.items c.loop-node.invariant c.in_ok-mark.ensures)
