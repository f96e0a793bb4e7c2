use Rattle.std.proofs.Common.{◌<◌, length, arith}
use Rattle.source_semantics.specs.Names.{processes}
use Rattle.codegen.proofs.Turns.{process_turn}
use Rattle.codegen.proofs.codegen_program.Maker.processes.Goals as goal

pub loop-number-preserved : goal.loop-number-preserved
loop-number-preserved g c =
    let p = g.P.Lookups.program c.args.program.now in
    let within : c.loop-number.number < length (processes p) = omega arith in
    process_turn p _ (processes p) c.loop-number.number _ _ c.loop-number.self c.process-in-loop-number.new.self _ within
    c.process_names.ensures.program c.process_names.ensures.scope c.process.ensures c.in-Ok.ensures c.loop-number.invariant
