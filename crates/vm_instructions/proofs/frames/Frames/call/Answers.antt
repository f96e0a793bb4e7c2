-- The arguments are in the row, and the new frame has room.
use Rattle.std.proofs.Common.{◌≡◌, ◌≤◌, ◌+◌, ◌-◌, ◌++◌, map, List, [], ◌∷◌, reverse, arith, ◌∙◌, ap, sym, subst, rules, length}
use Rattle.std.proofs.lemmas.List.{length-append, reverse-append}
use Rattle.vm_instructions.specs.declared.frames.Mark.{Mark}
use Rattle.machine_semantics.specs.State.{zeros}
use Rattle.vm_instructions.specs.declared.operand.Operand.{Operand as Kept}
use Rattle.vm_instructions.specs.Frames.{value}
use Rattle.vm_instructions.specs.Inside.{Ascend, part}
use Rattle.vm_instructions.proofs.Rows.{call_room, call_leaves, if_some, some_of}
use Rattle.vm_instructions.proofs.frames.Frames.call.Goals as goal

pub overflow_sub-rest : goal.overflow_sub-rest
overflow_sub-rest c = let room = call_room c.self.inside c.args.self.now c.args.params c.args.locals (some_of _ c.requires.taken).0 c.self.invariant c.self.view_is (some_of _ c.requires.taken).1 c.requires.order c.requires.room in omega (arith, room.0)

pub make_locals-requires-clause-from : goal.make_locals-requires-clause-from
make_locals-requires-clause-from c = let room = call_room c.self.inside c.args.self.now c.args.params c.args.locals (some_of _ c.requires.taken).0 c.self.invariant c.self.view_is (some_of _ c.requires.taken).1 c.requires.order c.requires.room in let laid = c.self.invariant in omega (arith, room.0, laid.operands_room)

pub make_locals-requires-clause-to : goal.make_locals-requires-clause-to
make_locals-requires-clause-to c = let room = call_room c.self.inside c.args.self.now c.args.params c.args.locals (some_of _ c.requires.taken).0 c.self.invariant c.self.view_is (some_of _ c.requires.taken).1 c.requires.order c.requires.room in let laid = c.self.invariant in omega (arith, room.0, room.1, laid.same)

pub push_reserved-requires : goal.push_reserved-requires
push_reserved-requires c = let room = call_room c.self.inside c.args.self.now c.args.params c.args.locals (some_of _ c.requires.taken).0 c.self.invariant c.self.view_is (some_of _ c.requires.taken).1 c.requires.order c.requires.room in let laid = c.self.invariant in omega (arith, room.0, room.1, laid.marks_room, laid.locals_begin, laid.operands_begin, c.requires.order)

pub overflow_add-self : goal.overflow_add-self
overflow_add-self c =
    let room = call_room c.self.inside c.args.self.now c.args.params c.args.locals (some_of _ c.requires.taken).0 c.self.invariant c.self.view_is (some_of _ c.requires.taken).1 c.requires.order c.requires.room in
    let laid = c.self.invariant in
    let le : c.self.inside.size + c.args.locals ≤ length c.self.inside.locals.items = omega (arith, room.0, room.1, laid.same) in
    search rules

pub invariant_of-self : goal.invariant_of-self
invariant_of-self c =
    let room = call_room c.self.inside c.args.self.now c.args.params c.args.locals (some_of _ c.requires.taken).0 c.self.invariant c.self.view_is (some_of _ c.requires.taken).1 c.requires.order c.requires.room in
    let laid = c.self.invariant in
    let m : Mark = record { back = c.args.back; base = c.self.inside.base; floor = c.self.inside.floor } in
    let count : length c.push_reserved.new.self.items ≡ length c.self.inside.marks.items + 1 = ap (λ (ms : List Mark). length ms) c.push_reserved.ensures.items ∙ length-append c.self.inside.marks.items (m ∷ []) in
    record {
      locals_begin = omega arith;
      operands_begin = omega arith;
      locals_room = omega (arith, room.0, room.1, laid.same, c.make_locals.ensures.len);
      operands_room = omega (arith, laid.operands_room);
      same = omega (arith, laid.same, c.make_locals.ensures.len);
      marks_room = omega (arith, laid.marks_room, c.push_reserved.ensures.capacity);
      fits = omega (arith, room.0, room.1, count);
      ascend = subst (λ (ms : List Mark). Ascend ms c.self.inside.size (c.self.inside.top - c.args.params))
          (sym (ap (λ (ms : List Mark). reverse ms) c.push_reserved.ensures.items ∙ reverse-append c.self.inside.marks.items (m ∷ [])))
          (laid.locals_begin, omega (arith, room.0), laid.ascend);
    }

pub returns : goal.returns
returns c =
    let r = some_of _ c.requires.taken in
    if_some _ r.0 _ r.1
    (call_leaves c.self.inside c.args.self.now c.make_locals.new.locals.items c.push_reserved.new.self.items c.args.back c.args.params c.args.locals r.0 c.self.invariant c.self.view_is r.1
    (c.make_locals.ensures.made ∙ ap (λ (row : List Kept). map value (part (c.self.inside.top - c.args.params) (c.self.inside.top - c.args.params + c.args.params) row) ++ zeros (c.args.locals - c.args.params)) c.deref.ensures.value)
    c.make_locals.ensures.before c.push_reserved.ensures.items)
