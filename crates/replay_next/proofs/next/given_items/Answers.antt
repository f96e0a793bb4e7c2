use Rattle.std.proofs.Common.{◌∙◌, ◌<◌, ◌≤◌, ap, arith, length, map}
use Rattle.source_semantics.specs.Next.{given_item}
use Rattle.replay_state.specs.View.{item_of}
use Rattle.replay_next.proofs.Handing.{first_given, none_given}
use Rattle.replay_next.proofs.next.given_items.Goals as goal

pub returns-then-len-gt0 : goal.returns-then-len-gt0
returns-then-len-gt0 c =
    let xs = c.in_ok-all.all.items in
    let below : 0 < length xs = omega (arith, c.if-len-gt0.true, c.len.ensures) in
    first_given c.args.given xs c.index-first.result.now c.with_given.result below c.index-first.ensures c.with_given.ensures
    ∙ ap (λ l. given_item c.args.given (map item_of l)) c.in_ok-all.ensures.items

pub returns : goal.returns
returns c =
    let xs = c.in_ok-all.all.items in
    let none : length xs ≤ 0 = omega (arith, c.if-len-gt0.false, c.len.ensures) in
    none_given c.args.given xs none
    ∙ ap (λ l. given_item c.args.given (map item_of l)) c.in_ok-all.ensures.items
