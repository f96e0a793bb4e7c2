use Rattle.std.proofs.Common.{pos, sym, ap, ◌∙◌}
use Rattle.std.specs.Option.{option_copied}
use Rattle.syntax_tree.specs.Placed.{placed_constant, placed_exprs, placed_stmt, plain_constant, plain_exprs, plain_stmt}
use Rattle.syntax_tree.proofs.StmtViews.{stmt-Assign, stmt-AssignEmpty, stmt-AssignEntry, stmt-Broadcast, stmt-Call, stmt-CallEntry, stmt-Get, stmt-Put, stmt-Signal, stmt-Wait}
use Rattle.code_spec.specs.Emits.{condition_of, monitor_of}
use Rattle.machine_isa.specs.declared.instr.Instr.TheVariants as i
use Rattle.code_spec.specs.Numbering.{entry_in}
use Rattle.source_semantics.specs.Names.{device_number}
use Rattle.codegen_spec.specs.Told.{fit, inside, told_callee}
use Rattle.codegen_spec.specs.Made.{args_out, call_out, condition_told, count_told, push, stmt_out, waiting}
use Rattle.codegen.specs.Of.{args_of, expr_of, index_of, put_of, store_of}
use Rattle.codegen.proofs.Steps.{called_is, on_ok}
use Rattle.codegen.proofs.code_builder.CodeBuilder.+stmt.Goals as goal
use Rattle.code_cost.proofs.Steps.{owner_inside}

pub stmt-returns-in-Call-clause-out : goal.stmt-returns-in-Call-clause-out
stmt-returns-in-Call-clause-out g t c =
    let p = g.L.Lookup.program c.args.names.now in
    let around = g.L.Lookup.scope c.args.names.now in
    let s = inside c.args.loops.now.items around in
    let o = c.args.self.now in
    let k = option_copied c.routine.result in
    on_ok c.called.result c.called.ensures (λ e.
    e
    ∙ ap (λ ls. call_out k (λ rs. args_out p (inside ls around) (plain_exprs (placed_exprs c.exprs-in-Call.result.now)) rs o) o) c.as_slice-around.ensures.value
    ∙ ap (λ es. call_out k (λ rs. args_out p s (plain_exprs (placed_exprs es)) rs o) o) c.exprs-in-Call.ensures
    ∙ called_is p around s c.in-Call.name (plain_exprs (placed_exprs c.in-Call.args)) k o (owner_inside c.args.loops.now.items around) c.routine.ensures
    ∙ sym (ap (λ x. stmt_out p s (plain_stmt x) o) (ap placed_stmt c.in-Call.is ∙ stmt-Call c.in-Call.place c.in-Call.name c.in-Call.args)))

pub stmt-returns-in-Wait-clause-out : goal.stmt-returns-in-Wait-clause-out
stmt-returns-in-Wait-clause-out g t c =
    let p = g.L.Lookup.program c.args.names.now in
    let around = g.L.Lookup.scope c.args.names.now in
    let s = inside c.args.loops.now.items around in
    let o = c.args.self.now in
    let x = c.in-Wait.cond in
    on_ok c.wait.result c.wait.ensures (λ e.
    e
    ∙ ap (λ k. waiting (condition_told p around x) (count_told p (plain_constant (placed_constant k))) (count_told p (plain_constant (placed_constant c.deref-in-Wait.result.now))) (monitor_of around.owner) o) c.deref.ensures
    ∙ ap (λ k. waiting (condition_told p around x) (count_told p (plain_constant (placed_constant c.in-Wait.limit.value))) (count_told p (plain_constant (placed_constant k))) (monitor_of around.owner) o) c.deref-in-Wait.ensures
    ∙ ap (λ w. waiting (fit (pos (condition_of p w x))) (count_told p (plain_constant (placed_constant c.in-Wait.limit.value))) (count_told p (plain_constant (placed_constant c.in-Wait.number.value))) (monitor_of w) o)
    (sym (owner_inside c.args.loops.now.items around))
    ∙ sym (ap (λ y. stmt_out p s (plain_stmt y) o) (ap placed_stmt c.in-Wait.is ∙ stmt-Wait c.in-Wait.place x c.in-Wait.cond_place c.in-Wait.limit c.in-Wait.number)))

pub stmt-returns-in-Signal-clause-out : goal.stmt-returns-in-Signal-clause-out
stmt-returns-in-Signal-clause-out g t c =
    let p = g.L.Lookup.program c.args.names.now in
    let around = g.L.Lookup.scope c.args.names.now in
    let s = inside c.args.loops.now.items around in
    let o = c.args.self.now in
    let x = c.in-Signal.cond in
    on_ok c.signal.result c.signal.ensures (λ e.
    e
    ∙ ap (λ k. push o (i.Signal k)) (ap (λ w. fit (pos (condition_of p w x))) (sym (owner_inside c.args.loops.now.items around)))
    ∙ sym (ap (λ y. stmt_out p s (plain_stmt y) o) (ap placed_stmt c.in-Signal.is ∙ stmt-Signal c.in-Signal.place x c.in-Signal.cond_place)))

pub stmt-returns-in-Broadcast-clause-out : goal.stmt-returns-in-Broadcast-clause-out
stmt-returns-in-Broadcast-clause-out g t c =
    let p = g.L.Lookup.program c.args.names.now in
    let around = g.L.Lookup.scope c.args.names.now in
    let s = inside c.args.loops.now.items around in
    let o = c.args.self.now in
    let x = c.in-Broadcast.cond in
    on_ok c.broadcast.result c.broadcast.ensures (λ e.
    e
    ∙ ap (λ k. push o (i.Broadcast k)) (ap (λ w. fit (pos (condition_of p w x))) (sym (owner_inside c.args.loops.now.items around)))
    ∙ sym (ap (λ y. stmt_out p s (plain_stmt y) o) (ap placed_stmt c.in-Broadcast.is ∙ stmt-Broadcast c.in-Broadcast.place x c.in-Broadcast.cond_place)))

pub stmt-returns-in-Assign-clause-out : goal.stmt-returns-in-Assign-clause-out
stmt-returns-in-Assign-clause-out g t c =
    let p = g.L.Lookup.program c.args.names.now in
    let around = g.L.Lookup.scope c.args.names.now in
    let s = inside c.args.loops.now.items around in
    let o = c.args.self.now in
    let r = c.in-Assign.target in
    let v = c.in-Assign.value in
    on_ok c.assign.result c.assign.ensures (λ e.
    e
    ∙ ap (λ ls. put_of p (inside ls around) r (expr_of p (inside ls around) v (index_of p (inside ls around) r o))) c.as_slice-around.ensures.value
    ∙ sym (ap (λ y. stmt_out p s (plain_stmt y) o) (ap placed_stmt c.in-Assign.is ∙ stmt-Assign r v)))

pub stmt-returns-in-AssignEntry-clause-out : goal.stmt-returns-in-AssignEntry-clause-out
stmt-returns-in-AssignEntry-clause-out g t c =
    let p = g.L.Lookup.program c.args.names.now in
    let around = g.L.Lookup.scope c.args.names.now in
    let s = inside c.args.loops.now.items around in
    let o = c.args.self.now in
    let r = c.in-AssignEntry.target in
    let k = told_callee p (entry_in p c.in-AssignEntry.mon c.in-AssignEntry.entry) in
    on_ok c.assign_entry.result c.assign_entry.ensures (λ e.
    e
    ∙ ap (λ es. put_of p (inside c.as_slice-around.result.now around) r (call_out k (λ rs. args_of p (inside c.as_slice-around.result.now around) es rs (index_of p (inside c.as_slice-around.result.now around) r o)) (index_of p (inside c.as_slice-around.result.now around) r o))) c.exprs.ensures
    ∙ ap (λ ls. put_of p (inside ls around) r (call_out k (λ rs. args_of p (inside ls around) c.in-AssignEntry.args rs (index_of p (inside ls around) r o)) (index_of p (inside ls around) r o))) c.as_slice-around.ensures.value
    ∙ sym (ap (λ y. stmt_out p s (plain_stmt y) o) (ap placed_stmt c.in-AssignEntry.is ∙ stmt-AssignEntry r c.in-AssignEntry.mon c.in-AssignEntry.mon_place c.in-AssignEntry.entry c.in-AssignEntry.entry_place c.in-AssignEntry.args)))

pub stmt-returns-in-AssignEmpty-clause-out : goal.stmt-returns-in-AssignEmpty-clause-out
stmt-returns-in-AssignEmpty-clause-out g t c =
    let p = g.L.Lookup.program c.args.names.now in
    let around = g.L.Lookup.scope c.args.names.now in
    let s = inside c.args.loops.now.items around in
    let o = c.args.self.now in
    let r = c.in-AssignEmpty.target in
    let x = c.in-AssignEmpty.cond in
    on_ok c.assign_empty.result c.assign_empty.ensures (λ e.
    e
    ∙ ap (λ ls. store_of p (inside ls around) r (push (index_of p (inside ls around) r o) (i.Empty (condition_told p (inside ls around) x)))) c.as_slice-around.ensures.value
    ∙ sym (ap (λ y. stmt_out p s (plain_stmt y) o) (ap placed_stmt c.in-AssignEmpty.is ∙ stmt-AssignEmpty r x c.in-AssignEmpty.cond_place)))

pub stmt-returns-in-CallEntry-clause-out : goal.stmt-returns-in-CallEntry-clause-out
stmt-returns-in-CallEntry-clause-out g t c =
    let p = g.L.Lookup.program c.args.names.now in
    let around = g.L.Lookup.scope c.args.names.now in
    let s = inside c.args.loops.now.items around in
    let o = c.args.self.now in
    let k = option_copied c.entry.result in
    on_ok c.called-in-CallEntry.result c.called-in-CallEntry.ensures (λ e.
    e
    ∙ ap (λ ls. call_out k (λ rs. args_of p (inside ls around) c.exprs-in-CallEntry.result.now rs o) o) c.as_slice-around.ensures.value
    ∙ ap (λ es. call_out k (λ rs. args_of p s es rs o) o) c.exprs-in-CallEntry.ensures
    ∙ ap (λ k. call_out k (λ rs. args_of p s c.in-CallEntry.args rs o) o) c.entry.ensures
    ∙ sym (ap (λ y. stmt_out p s (plain_stmt y) o) (ap placed_stmt c.in-CallEntry.is ∙ stmt-CallEntry c.in-CallEntry.place c.in-CallEntry.mon c.in-CallEntry.entry c.in-CallEntry.entry_place c.in-CallEntry.args)))

pub stmt-returns-in-Get-clause-out : goal.stmt-returns-in-Get-clause-out
stmt-returns-in-Get-clause-out g t c =
    let p = g.L.Lookup.program c.args.names.now in
    let around = g.L.Lookup.scope c.args.names.now in
    let s = inside c.args.loops.now.items around in
    let o = c.args.self.now in
    let r = c.in-Get.target in
    on_ok c.get.result c.get.ensures (λ e.
    e
    ∙ ap (λ ls. put_of p (inside ls around) r (push (index_of p (inside ls around) r o) (i.In (fit (pos (device_number p c.in-Get.device)))))) c.as_slice-around.ensures.value
    ∙ sym (ap (λ y. stmt_out p s (plain_stmt y) o) (ap placed_stmt c.in-Get.is ∙ stmt-Get c.in-Get.place c.in-Get.device c.in-Get.device_place r)))

pub stmt-returns-in-Put-clause-out : goal.stmt-returns-in-Put-clause-out
stmt-returns-in-Put-clause-out g t c =
    let p = g.L.Lookup.program c.args.names.now in
    let around = g.L.Lookup.scope c.args.names.now in
    let s = inside c.args.loops.now.items around in
    let o = c.args.self.now in
    let v = c.in-Put.value in
    on_ok c.output.result c.output.ensures (λ e.
    e
    ∙ ap (λ ls. push (expr_of p (inside ls around) v o) (i.Out (fit (pos (device_number p c.in-Put.device))))) c.as_slice-around.ensures.value
    ∙ sym (ap (λ y. stmt_out p s (plain_stmt y) o) (ap placed_stmt c.in-Put.is ∙ stmt-Put c.in-Put.place c.in-Put.device c.in-Put.device_place v)))
