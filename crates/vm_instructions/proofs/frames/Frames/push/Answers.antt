-- What is in use tells that there is room.
use Rattle.std.proofs.Common.{arith, length-set}
use Rattle.vm_instructions.proofs.Rows.{has_room, is_full, push_leaves}
use Rattle.vm_instructions.proofs.frames.Frames.push.Goals as goal

pub index_mut-requires : goal.index_mut-requires
index_mut-requires c = omega (arith, has_room c.self.inside c.args.self.now c.self.invariant c.self.view_is c.requires)

pub invariant_of-self : goal.invariant_of-self
invariant_of-self c =
    let room = has_room c.self.inside c.args.self.now c.self.invariant c.self.view_is c.requires in
    let laid = c.self.invariant in
    let full = is_full c.self.inside c.args.self.now c.self.invariant c.self.view_is c.requires in
    let same = length-set c.self.inside.operands.items c.self.inside.top c.args.operand in
    record {
      locals_begin = laid.locals_begin;
      operands_begin = omega (arith, laid.operands_begin);
      locals_room = laid.locals_room;
      operands_room = omega (arith, room, same);
      same = omega (arith, laid.same, same);
      marks_room = omega (arith, laid.marks_room, same);
      fits = omega (arith, full, same);
      ascend = laid.ascend;
    }

pub returns : goal.returns
returns c = rw (← c.self.view_is) (push_leaves c.self.inside c.args.operand c.self.invariant (has_room c.self.inside c.args.self.now c.self.invariant c.self.view_is c.requires))
