use Rattle.std.proofs.Common.{[], List}
use Rattle.image_format.specs.Format.{Format, each_read}
use Rattle.image_reader.proofs.EachLoop.{fails, goes_on, is_done}
use Rattle.machine_isa.specs.declared.instr.Instr.{Instr}
use Rattle.image_reader.specs.Grammar.{instr_format}
use Rattle.image_reader.proofs.lists.instrs_at.Goals as goal

pub returns-in-Err : goal.returns-in-Err
returns-in-Err c =
    let f : List Instr → Format Instr = λ earlier. instr_format in
    fails f c.in-Err.fault c.loop.code c.args.count c.loop.counter c.loop.rest.now (each_read f [] c.args.count c.args.bytes.now) c.loop-test.true c.in-Err.ensures c.loop.invariant

pub loop-preserved : goal.loop-preserved
loop-preserved c =
    let f : List Instr → Format Instr = λ earlier. instr_format in
    let x = c.in-Ok.it.0 in
    rw c.in-Ok-push.ensures.ok (goes_on f c.loop.code c.args.count c.loop.counter c.loop.rest.now x c.in-Ok.it.1.now (each_read f [] c.args.count c.args.bytes.now) c.loop-test.true c.in-Ok.ensures c.loop.invariant)

pub returns : goal.returns
returns c =
    let f : List Instr → Format Instr = λ earlier. instr_format in
    is_done f c.loop.code c.args.count c.loop.counter c.loop.rest.now (each_read f [] c.args.count c.args.bytes.now) c.loop-test.false c.loop.invariant
