use Rattle.std.proofs.Common.{arith, ◌≤◌, sym}
use Rattle.machine_isa.proofs.Back.{numbered_past}
use Rattle.machine_isa.proofs.bytes.instr_of.Goals as goal

pub returns-in-49-to-255 : goal.returns-in-49-to-255
returns-in-49-to-255 c =
    let high : 49 ≤ c.args.number = omega arith in
    sym (numbered_past c.args.number c.args.a c.args.b c.args.c high)
