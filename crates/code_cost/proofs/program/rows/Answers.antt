use Rattle.std.proofs.lemmas.Grind.{common_steps}
use Rattle.std.proofs.Common.{◌≡◌, ◌<◌, arith, length}
use Rattle.syntax_tree.specs.Placed.{placed_routine, plain_routine}
use Rattle.code_spec.specs.Numbering.{numbered}
use Rattle.code_cost.proofs.Steps.{row_turn}
use Rattle.code_cost.proofs.program.rows.Goals as goal

pub loop-number-preserved : goal.loop-number-preserved
loop-number-preserved g c =
    let p = g.P.Lookups.program c.args.program.now in
    let h = g.P.Names.Lookup.program c.routine_names-names.result.now in
    let within : c.loop-number.number < length (numbered p) = grind (arith, common_steps) in
    row_turn p h (numbered p) c.loop-number.number (g.P.Names.Lookup.scope c.routine_names-names.result.now) c.words-words.result (plain_routine (placed_routine c.routine.result.now)) c.in_ok-next.next c.loop-number.rows c.push.new.self _
    within c.routine_names-names.ensures.program c.routine_names-names.ensures.scope c.words-words.ensures.exact c.routine.ensures
    (grind (arith, common_steps)) (grind (arith, common_steps)) c.loop-number.invariant
