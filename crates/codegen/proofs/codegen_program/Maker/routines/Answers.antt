use Rattle.std.proofs.Common.{◌<◌, length, arith}
use Rattle.code_spec.specs.Numbering.{numbered}
use Rattle.codegen.proofs.Turns.{routine_turn}
use Rattle.codegen.proofs.codegen_program.Maker.routines.Goals as goal

pub loop-number-preserved : goal.loop-number-preserved
loop-number-preserved g c =
    let p = g.P.Lookups.program c.args.program.now in
    let within : c.loop-number.number < length (numbered p) = omega arith in
    routine_turn p _ (numbered p) c.loop-number.number _ c.words.result _ c.loop-number.self c.routine-in-loop-number.new.self _ within
    c.routine_names.ensures.program c.routine_names.ensures.scope c.words.ensures.exact c.routine.ensures c.in-Ok.ensures c.loop-number.invariant
