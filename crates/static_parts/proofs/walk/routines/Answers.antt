use Rattle.std.proofs.Common.{◌+◌, ◌∷◌, List, arith, map, option_map, drop, ap, sym, ◌∙◌}
use Rattle.std.proofs.lemmas.List.{at_drop_more}
use Rattle.syntax_tree.specs.Placed.{placed_routine}
use Rattle.syntax_tree.specs.declared.decl.Routine.{Routine}
use Rattle.static_parts.specs.Visits.{come_to, part_of}
use Rattle.static_declarations.specs.Parts.{routines_parts}
use Rattle.static_parts.proofs.walk.routines.Goals as goal

pub returns-in-Some : goal.returns-in-Some
returns-in-Some g c more =
    let found = g.V.PartVisitor.found in
    let at = c.loop-one.one-index in
    let rest = drop (at + 1) c.args.list.now in
    let left = λ (rs : List Routine). found c.loop-one.visitor (routines_parts c.args.is_entry (map placed_routine rs) more) in
    let behind = routines_parts c.args.is_entry (map placed_routine rest) more in
    c.loop-one.invariant more
    ∙ at_drop_more left c.args.list.now at c.one-item.result (omega arith) ∙ ap (λ r. left (r ∷ rest)) (sym c.one-item.is)
    ∙ c.routine.ensures behind
    ∙ ap (λ end. come_to (g.V.PartVisitor.ended c.routine.new.visitor) (option_map part_of end) (found c.routine.new.visitor behind)) c.in-Some.is
