use Rattle.std.proofs.Common.{map, None, ap, ◌∙◌, arith}
use Rattle.syntax_tree.specs.Placed.{placed, placed_decl}
use Rattle.static_rule.specs.Parts.{noted}
use Rattle.syntax_tree.specs.Parts.{events}
use Rattle.static_numbers.specs.Rules.{event_rules}
use Rattle.static_numbers.proofs.Walks.{step, finish, first-noted}
use Rattle.static_numbers.proofs.events.first_broken.Goals as goal

pub loop-one-preserved : goal.loop-one-preserved
loop-one-preserved c =
    let g = placed c.args.declarations.now in
    let list = c.as_slice-one-items.result.now in
    step (λ s xs. noted (event_rules g) s (events (map placed_decl xs))) (noted (event_rules g) None (events (map placed_decl list)))
    list c.loop-one.one-index c.one-item.result c.loop-one.first c.event.new.first (omega arith) c.one-item.is (λ rest. c.event.ensures g c.in_ok-uses.ensures (map placed_decl rest)) c.loop-one.invariant

pub returns : goal.returns
returns c =
    let rules = event_rules (placed c.args.declarations.now) in
    let list = c.as_slice-one-items.result.now in
    first-noted rules (events (map placed_decl c.args.declarations.now.decls)) c.loop-one.first
    (finish (λ s xs. noted rules s (events (map placed_decl xs))) (noted rules None (events (map placed_decl list))) list c.loop-one.one-index c.loop-one.first (omega arith) c.loop-one.invariant
    ∙ ap (λ l. noted rules None (events (map placed_decl l))) (c.as_slice-one-items.ensures ∙ ap (λ p. p.decls) c.program.ensures))
