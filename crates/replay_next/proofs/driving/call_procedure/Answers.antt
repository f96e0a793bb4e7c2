use Rattle.std.specs.Prelude.{[]}
use Rattle.std.proofs.Common.{◌≡◌, ◌∙◌, ◌+◌, ◌-◌, ap, refl, arith}
use Rattle.std.specs.Global.{Vec}
use Rattle.syntax_tree.specs.Placed.{placed, placed_process, plain, plain_process}
use Rattle.source_semantics.specs.Run as run
use Rattle.replay_state.specs.View.{home_of, vars_of}
use Rattle.replay_state.specs.declared.call.Item.{Item}
use Rattle.replay_state.specs.declared.variables.Slot as code_slot
use Rattle.replay_calls.specs.Lookups.{found_of}
use Rattle.replay_calls.specs.Reach.{memory_of}
use Rattle.replay_next.specs.Driving.{callers_run, callers_weight, caller_weight, others_of, rest_of, then_items}
use Rattle.replay_next.specs.Remains.{stmts_of}
use Rattle.replay_next.specs.Weights.{costs, items_weight, stmts_weight}
use Rattle.replay_next.specs.declared.remains.Caller.TheVariants as caller_is
use Rattle.replay_next.specs.declared.remains.ProcedureCaller.{ProcedureCaller}
use Rattle.replay_next.proofs.Deeper as deeper
use Rattle.replay_next.proofs.Stack as stack
use Rattle.replay_next.proofs.Waiting as waiting
use Rattle.replay_next.proofs.Weighing as weighing
use Rattle.replay_next.proofs.driving.call_procedure.Goals as goal

pub returns-then-depth-eq0-clause-run : goal.returns-then-depth-eq0-clause-run
returns-then-depth-eq0-clause-run c =
    let s = c.args.scope.now in
    let p = c.args.running.now in
    let m = memory_of c.args.memory.now in
    let site = deeper.site_in (plain (placed s.declarations.now)) (plain_process (placed_process s.process.now)) (home_of p.home) p.depth in
    ap (λ r. callers_run s p.callers.items (others_of p.kept c.args.memory.now) (then_items site (rest_of p.rest.items) r))
    (deeper.part_none (plain (placed s.declarations.now)) (plain_process (placed_process s.process.now)) p.depth (found_of c.args.called.found) m (vars_of c.args.called.own.items) c.if-depth-eq0.true)

pub returns-then-depth-eq0-clause-falls : goal.returns-then-depth-eq0-clause-falls
returns-then-depth-eq0-clause-falls c =
    let s = c.args.scope.now in
    let some = weighing.found_none (plain (placed s.declarations.now)) (plain_process (placed_process s.process.now)) c.args.running.now.depth (found_of c.args.called.found) in
    omega (arith, some)

pub returns-clause-run : goal.returns-clause-run
returns-clause-run c =
    let s = c.args.scope.now in
    let g = plain (placed s.declarations.now) in
    let q = plain_process (placed_process s.process.now) in
    let p = c.args.running.now in
    let d = p.depth in
    let f = found_of c.args.called.found in
    let vs = vars_of c.args.called.own.items in
    let m = memory_of c.args.memory.now in
    let its = home_of c.home_in-callee.result in
    let m1 = deeper.inside (vars_of c.replace-own.new.dest.items) m.process m.monitor in
    let same = ap (λ (own : Vec code_slot.Slot). deeper.inside (vars_of own.items) m.process m.monitor) c.replace-own.ensures.after in
    let back = ap (λ (own : Vec code_slot.Slot). vars_of own.items) c.replace-own.ensures.value in
    let b = stmts_of c.statements-body.result.now in
    let body = ap stmts_of c.statements-body.ensures in
    let site = deeper.site_in g q its (d - 1) in
    let part = deeper.part_ran g q d f its m m1 (vars_of c.replace-own.result.items) vs b (run.run_all site m1 b) c.if-depth-eq0.false c.home_in-callee.ensures body same back refl in
    let none : rest_of c.replace-rest.new.dest.items ≡ [] = ap (λ (l : Vec Item). rest_of l.items) c.replace-rest.ensures.after ∙ ap rest_of c.new.ensures.items in
    let items = ap (λ (l : Vec Item). rest_of l.items) c.replace-rest.ensures.value in
    let caller : ProcedureCaller = record { callee = c.home_in-callee.result; home = p.home; depth = d; own = c.replace-own.result; rest = c.replace-rest.result } in
    waiting.procedure_begins s p.callers.items c.push.new.self.items caller (others_of p.kept c.args.memory.now) site (rest_of c.replace-rest.new.dest.items) (run.run_all site m1 b) _ c.in_ok-push.ensures.items none part
    ∙ ap (λ l. callers_run s p.callers.items (others_of p.kept c.args.memory.now) (then_items (deeper.site_in g q (home_of p.home) d) l (run.within_caller f.home m.own ((deeper.site_in g q (home_of p.home) d).calls.run f (run.with_own m vs))))) items

pub returns-clause-falls : goal.returns-clause-falls
returns-clause-falls c =
    let s = c.args.scope.now in
    let g = plain (placed s.declarations.now) in
    let q = plain_process (placed_process s.process.now) in
    let p = c.args.running.now in
    let d = p.depth in
    let f = found_of c.args.called.found in
    let caller : ProcedureCaller = record { callee = c.home_in-callee.result; home = p.home; depth = d; own = c.replace-own.result; rest = c.replace-rest.result } in
    let weight : callers_weight s c.push.new.self.items ≡ callers_weight s p.callers.items + caller_weight s (caller_is.OfProcedure caller) = ap (callers_weight s) c.in_ok-push.ensures.items ∙ stack.last_weighs s p.callers.items (caller_is.OfProcedure caller) in
    let body = ap (λ l. stmts_weight (costs s (d - 1)) (stmts_of l)) c.statements-body.ensures in
    let deep = weighing.found_deeper g q d f c.if-depth-eq0.false in
    let none : items_weight (costs s (d - 1)) c.replace-rest.new.dest.items ≡ 0 = ap (λ (l : Vec Item). items_weight (costs s (d - 1)) l.items) c.replace-rest.ensures.after ∙ ap (items_weight (costs s (d - 1))) c.new.ensures.items in
    let items = ap (λ (l : Vec Item). items_weight (costs s d) l.items) c.replace-rest.ensures.value in
    omega (arith, weight, body, deep, none, items)
