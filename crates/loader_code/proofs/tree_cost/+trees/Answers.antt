use Rattle.std.proofs.Common.{◌≡◌, ◌+◌, None, Some, map, arith, sym, ap, ◌∙◌}
use Rattle.machine_semantics.specs.Trees as tree
use Rattle.machine_semantics.specs.Trees.{size}
use Rattle.image_format.specs.Stands.{item_in, tree_in}
use Rattle.loader_code.specs.TreesTold.{known_of, told, found_of}
use Rattle.loader_code.proofs.Segments.{fork_fails, fork_comes, rep_fails, rep_comes}
use Rattle.valid_image.specs.Found.{found, founds}
use Rattle.valid_image_law.specs.Held.{hold}
use Rattle.loader_code.proofs.tree_cost.+trees.Goals as goal

pub item_found-returns-in_err-other-in-Fork-clause-value : goal.item_found-returns-in_err-other-in-Fork-clause-value
item_found-returns-in_err-other-in-Fork-clause-value t c =
    let a = c.args in
    let one = c.in_ok-one-in-Fork.one in
    let below = c.in_ok-below-in-Fork.below in
    let known = map known_of a.known.now in
    let item_is : item_in a.item.now ≡ tree.Fork (tree_in c.in-Fork.one) (tree_in c.in-Fork.other) = ap item_in c.in-Fork.is in
    let fork : None ≡ hold (found a.code.now known a.around.out a.around.held (tree.Fork (tree_in c.in-Fork.one) (tree_in c.in-Fork.other)) a.at a.height) =
    fork_fails a.code.now known a.around.out a.around.held (tree_in c.in-Fork.one) (tree_in c.in-Fork.other) a.at a.height below one.next (omega (arith, c.in_ok-below-in-Fork.ensures)) c.in_ok-one-in-Fork.ensures.ends.next c.in_err-other-in-Fork.ensures.value in
    ap told c.from_residual-in_err-other-in-Fork.ensures ∙ fork ∙ ap (λ s. hold (found a.code.now known a.around.out a.around.held s a.at a.height)) (sym item_is)

pub item_found-returns-in_err-end-in-Rep-clause-value : goal.item_found-returns-in_err-end-in-Rep-clause-value
item_found-returns-in_err-end-in-Rep-clause-value t c =
    let a = c.args in
    let known = map known_of a.known.now in
    let item_is : item_in a.item.now ≡ tree.Rep c.in-Rep.turns (tree_in c.in-Rep.body) = ap item_in c.in-Rep.is in
    let rep : None ≡ hold (found a.code.now known a.around.out a.around.held (tree.Rep c.in-Rep.turns (tree_in c.in-Rep.body)) a.at a.height) =
    rep_fails a.code.now known a.around.out a.around.held c.in-Rep.turns (tree_in c.in-Rep.body) a.at a.height (omega (arith, c.in_err-end-in-Rep.ensures)) in
    ap told c.from_residual-in_err-end-in-Rep.ensures ∙ rep ∙ ap (λ s. hold (found a.code.now known a.around.out a.around.held s a.at a.height)) (sym item_is)

pub item_found-returns-in_ok-other-in-Fork-clause-value : goal.item_found-returns-in_ok-other-in-Fork-clause-value
item_found-returns-in_ok-other-in-Fork-clause-value t c =
    let a = c.args in
    let one = c.in_ok-one-in-Fork.one in
    let other = c.in_ok-other-in-Fork.other in
    let below = c.in_ok-below-in-Fork.below in
    let known = map known_of a.known.now in
    let item_is : item_in a.item.now ≡ tree.Fork (tree_in c.in-Fork.one) (tree_in c.in-Fork.other) = ap item_in c.in-Fork.is in
    let fork : told c.forked.result ≡ hold (found a.code.now known a.around.out a.around.held (tree.Fork (tree_in c.in-Fork.one) (tree_in c.in-Fork.other)) a.at a.height) =
    fork_comes a.code.now known a.around.out a.around.held (tree_in c.in-Fork.one) (tree_in c.in-Fork.other) a.at a.height below one.next other.next (found_of one) (found_of other) c.in_ok-first.first c.in_ok-jump-in-Fork.jump (told c.forked.result)
    (omega (arith, c.in_ok-below-in-Fork.ensures)) c.in_ok-one-in-Fork.ensures.ends.next c.in_ok-other-in-Fork.ensures.ends.next (sym c.in_ok-first.ensures.value) (sym c.in_ok-jump-in-Fork.ensures.value) c.in_ok-one-in-Fork.ensures.value c.in_ok-other-in-Fork.ensures.value c.forked.ensures.value in
    fork ∙ ap (λ s. hold (found a.code.now known a.around.out a.around.held s a.at a.height)) (sym item_is)

pub item_found-returns-in_ok-last-in-Rep-clause-value : goal.item_found-returns-in_ok-last-in-Rep-clause-value
item_found-returns-in_ok-last-in-Rep-clause-value t c =
    let a = c.args in
    let turn = c.in_ok-turn-in-Rep.turn in
    let known = map known_of a.known.now in
    let last : turn.next ≡ a.at + 1 + size (tree_in c.in-Rep.body) = c.in_ok-turn-in-Rep.ensures.ends.next in
    let end : c.in_ok-end-in-Rep.end ≡ turn.next = omega (arith, c.in_ok-end-in-Rep.ensures, last) in
    let one : Some (found_of turn) ≡ hold (founds a.code.now known (Some (turn.next + 1)) a.around.held (tree_in c.in-Rep.body) (a.at + 1) 0) =
    c.in_ok-turn-in-Rep.ensures.value ∙ ap (λ n. hold (founds a.code.now known (Some (n + 1)) a.around.held (tree_in c.in-Rep.body) (a.at + 1) 0)) end in
    let item_is : item_in a.item.now ≡ tree.Rep c.in-Rep.turns (tree_in c.in-Rep.body) = ap item_in c.in-Rep.is in
    let rep : told c.repeated.result ≡ hold (found a.code.now known a.around.out a.around.held (tree.Rep c.in-Rep.turns (tree_in c.in-Rep.body)) a.at a.height) =
    rep_comes a.code.now known a.around.out a.around.held c.in-Rep.turns (tree_in c.in-Rep.body) a.at a.height turn.next (found_of turn) c.in_ok-first.first c.in_ok-last-in-Rep.last (told c.repeated.result)
    last (sym c.in_ok-first.ensures.value) (sym c.in_ok-last-in-Rep.ensures.value) one c.repeated.ensures.value in
    rep ∙ ap (λ s. hold (found a.code.now known a.around.out a.around.held s a.at a.height)) (sym item_is)
