use Rattle.std.proofs.Common.{map, refl, arith}
use Rattle.syntax_tree.specs.Placed.{placed_routine}
use Rattle.static_names.specs.Occurrences.{entry_name}
use Rattle.static_names.specs.Seen.{meaning, outer_site}
use Rattle.static_names.proofs.Scoping.{loop-step, loop-end}
use Rattle.static_names.proofs.declare.entries.Goals as goal

pub loop-entry-preserved : goal.loop-entry-preserved
loop-entry-preserved c =
    loop-step (outer_site c.args.outer.now).means c.args.findings.now (meaning c.args.scope.now.entries) (map entry_name (map placed_routine c.args.list.now)) (λ xs. map entry_name (map placed_routine xs)) (λ x. entry_name (placed_routine x)) (λ x xs. refl)
    c.args.list.now c.loop-entry.entry-index c.entry-item.result c.loop-entry.findings c.declare.new.findings (meaning c.loop-entry.scope.entries) (meaning c.declare.new.scope.entries) (omega arith) c.entry-item.is c.loop-entry.invariant c.in-Ok.ensures

pub returns : goal.returns
returns c =
    loop-end (outer_site c.args.outer.now).means c.args.findings.now (meaning c.args.scope.now.entries) (map entry_name (map placed_routine c.args.list.now)) (λ xs. map entry_name (map placed_routine xs)) (λ x. entry_name (placed_routine x)) refl
    c.args.list.now c.loop-entry.entry-index c.loop-entry.findings (meaning c.loop-entry.scope.entries) (omega arith) c.loop-entry.invariant
