use Rattle.std.proofs.lemmas.Grind.{common_steps}
use Rattle.std.proofs.Common.{◌≡◌, arith, rules, ◌+◌, ◌++◌, ◌∷◌, [], length, drop, sym, ap, ◌∙◌}
use Rattle.std.proofs.lemmas.List.{length-append}
use Rattle.std.proofs.lemmas.Slice.Zip.{zip_turn, zip_end}
use Rattle.std.specs.Iterator.Adapters.{zip_first, zip_second}
use Rattle.std.specs.Slice.Iter.{iter_rest}
use Rattle.std.specs.Option.{option_copied}
use Rattle.syntax_tree.specs.Placed.{op_of, placed_expr, placed_exprs, placed_operands, plain_expr, plain_exprs, plain_operands}
use Rattle.syntax_tree.proofs.Views.{expr-Call, expr-Chain}
use Rattle.code_spec.specs.Code.{op_instr}
use Rattle.codegen_spec.specs.Told.{inside}
use Rattle.codegen_spec.specs.Made.{args_out, call_out, expr_out, row_out, push, range_out}
use Rattle.codegen.proofs.Steps.{args_end, called_is, turned, turned_both, on_ok}
use Rattle.codegen.proofs.code_builder.CodeBuilder.+expr.Goals as goal
use Rattle.code_cost.proofs.Steps.{owner_inside}

pub operands-loop-operand-preserved : goal.operands-loop-operand-preserved
operands-loop-operand-preserved g t c =
    let x = c.operand-item.result in
    let p = g.L.Lookup.program c.args.names.now in
    let s = inside c.args.loops.now (g.L.Lookup.scope c.args.names.now) in
    let rest = plain_operands (placed_operands (drop (c.loop-operand.operand-index + 1) c.args.operands.now)) in
    turned (λ o ys. row_out p s (plain_operands (placed_operands ys)) o) c.args.operands.now c.loop-operand.operand-index x c.loop-operand.self c.push.new.self _ c.loop-operand-test.true c.operand-item.is
    c.loop-operand.invariant
    (ap (row_out p s rest) (sym (c.in-Ok-push.ensures ∙ ap (λ j. push c.expr.new.self j) c.instr_of.ensures ∙ ap (λ o. push o (op_instr (op_of x.0))) c.in-Ok.ensures)))

pub expr-returns-in-Ok-expr-3 : goal.expr-returns-in-Ok-expr-3
expr-returns-in-Ok-expr-3 g t c =
    on_ok c.operands.result c.operands.ensures (λ e.
    let v = expr-Chain c.in-Chain.first c.in-Chain.rest in
    grind (arith, common_steps))

pub expr-returns-in-Call : goal.expr-returns-in-Call
expr-returns-in-Call g t c =
    let p = g.L.Lookup.program c.args.names.now in
    let s = inside c.args.loops.now (g.L.Lookup.scope c.args.names.now) in
    let o = c.args.self.now in
    on_ok c.called.result c.called.ensures (λ e.
    e
    ∙ ap (λ es. call_out (option_copied c.routine.result) (λ rs. args_out p s (plain_exprs (placed_exprs es)) rs o) o) c.as_slice.ensures
    ∙ called_is p (g.L.Lookup.scope c.args.names.now) s c.in-Call.name (plain_exprs (placed_exprs c.in-Call.args)) _ o (owner_inside c.args.loops.now _) c.routine.ensures
    ∙ sym (ap (λ x. expr_out p s (plain_expr x) o) (ap placed_expr c.in-Call.is ∙ expr-Call c.in-Call.place c.in-Call.name c.in-Call.args)))

pub args-loop-arg-preserved : goal.args-loop-arg-preserved
args-loop-arg-preserved g t c =
    let p = g.L.Lookup.program c.args.names.now in
    let s = inside c.args.loops.now (g.L.Lookup.scope c.args.names.now) in
    let done = c.loop-arg.yielded in
    let first : iter_rest (zip_first c.into_iter-arg-iterator.result) ≡ c.args.args.now = search rules in
    let second : iter_rest (zip_second c.into_iter-arg-iterator.result) ≡ c.args.ranges.now = search rules in
    let at = zip_turn c.args.args.now c.args.ranges.now done c.into_iter-arg-iterator.result c.loop-arg.arg-iterator c.next.new.self c.next.result first second
    c.loop-arg.yielded_by (c.in-Some.arg, c.in-Some.range) c.in-Some.is c.next.ensures.steps in
    let next : length (done ++ (c.in-Some.arg, c.in-Some.range) ∷ []) ≡ length done + 1 = length-append done _ in
    turned_both (λ o es rs. args_out p s (plain_exprs (placed_exprs es)) rs o) c.args.args.now c.args.ranges.now (length done) _
    c.in-Some.arg.now c.in-Some.range.now c.loop-arg.self c.range.new.self _ at.0 at.1 (at.2 c.in-Some.arg.now) (at.3 c.in-Some.range.now) next
    c.loop-arg.invariant
    (ap (args_out p s (plain_exprs (placed_exprs (drop (length done + 1) c.args.args.now))) (drop (length done + 1) c.args.ranges.now))
    (sym (c.in-Ok-range.ensures ∙ ap (range_out c.in-Some.range.now) c.in-Ok.ensures)))

pub args-returns : goal.args-returns
args-returns g t c =
    let p = g.L.Lookup.program c.args.names.now in
    let s = inside c.args.loops.now (g.L.Lookup.scope c.args.names.now) in
    let first : iter_rest (zip_first c.into_iter-arg-iterator.result) ≡ c.args.args.now = search rules in
    let second : iter_rest (zip_second c.into_iter-arg-iterator.result) ≡ c.args.ranges.now = search rules in
    let all = zip_end c.args.args.now c.args.ranges.now c.loop-arg.yielded c.into_iter-arg-iterator.result c.loop-arg.arg-iterator c.next.new.self c.next.result first second
    c.loop-arg.yielded_by c.in-None.is c.next.ensures.steps in
    sym (args_end p s c.args.args.now c.args.ranges.now (length c.loop-arg.yielded) c.loop-arg.self all) ∙ c.loop-arg.invariant
