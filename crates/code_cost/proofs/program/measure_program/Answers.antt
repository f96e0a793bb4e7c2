use Rattle.std.proofs.lemmas.Grind.{common_steps}
use Rattle.std.proofs.Common.{◌≡◌, ◌<◌, arith, length}
use Rattle.syntax_tree.specs.Placed.{placed_process, plain_process}
use Rattle.source_semantics.specs.Names.{processes}
use Rattle.code_cost.specs.Parts.{rows_of}
use Rattle.code_cost.proofs.Steps.{size_turn}
use Rattle.code_cost.proofs.program.measure_program.Goals as goal

pub loop-number-preserved : goal.loop-number-preserved
loop-number-preserved g c =
    let p = g.P.Lookups.program c.args.program.now in
    let h = g.P.Names.Lookup.program c.process_names-names.result.now in
    let within : c.loop-number.number < length (processes p) = grind (arith, common_steps) in
    size_turn p h (rows_of p) (processes p) c.loop-number.number (g.P.Names.Lookup.scope c.process_names-names.result.now) (plain_process (placed_process c.process.result.now)) c.in_ok-next.next c.loop-number.processes c.push.new.self _
    within c.process_names-names.ensures.program c.process_names-names.ensures.scope c.process.ensures
    (grind (arith, common_steps)) (grind (arith, common_steps)) c.loop-number.invariant
