use Rattle.std.specs.Prelude.{[], None, Option, option_map}
use Rattle.std.proofs.Common.{◌≡◌, ◌∙◌, ◌+◌, ◌-◌, ap, refl, arith}
use Rattle.std.specs.Global.{Vec}
use Rattle.syntax_tree.specs.Placed.{placed, placed_process, plain, plain_process}
use Rattle.source_semantics.specs.Run as run
use Rattle.replay_state.specs.View.{answers_of, home_of, vars_of}
use Rattle.replay_state.specs.declared.call.Item.{Item}
use Rattle.replay_state.specs.declared.variables.Slot as code_slot
use Rattle.replay_calls.specs.Lookups.{found_of}
use Rattle.replay_calls.specs.Reach.{memory_of}
use Rattle.replay_next.specs.Driving.{Others, callers_run, callers_weight, caller_weight, memory_in, others_in, others_of, rest_of, then_items}
use Rattle.replay_next.specs.Remains.{stmts_of, told}
use Rattle.replay_next.specs.Weights.{answers_weight, costs, items_weight, stmts_weight}
use Rattle.replay_next.specs.declared.remains.Beside.{Beside}
use Rattle.replay_next.specs.declared.remains.Caller.TheVariants as caller_is
use Rattle.replay_next.specs.declared.remains.FunctionCaller.{FunctionCaller}
use Rattle.replay_next.proofs.Deeper as deeper
use Rattle.replay_next.proofs.Stack as stack
use Rattle.replay_next.proofs.Waiting as waiting
use Rattle.replay_next.proofs.Weighing as weighing
use Rattle.replay_next.proofs.driving.call_function.Goals as goal

pub returns-then-depth-eq0-clause-run : goal.returns-then-depth-eq0-clause-run
returns-then-depth-eq0-clause-run c =
    let s = c.args.scope.now in
    let g = plain (placed s.declarations.now) in
    let q = plain_process (placed_process s.process.now) in
    let p = c.args.running.now in
    let m = memory_of c.args.memory.now in
    let site = deeper.site_in g q (home_of p.home) p.depth in
    ap (λ a. callers_run s p.callers.items (others_of p.kept c.args.memory.now) (then_items site (rest_of p.rest.items) (told site m c.args.remains a)))
    (deeper.answer_none g q p.depth (found_of c.args.called.found) (run.with_own m (vars_of c.args.called.own.items)) c.if-depth-eq0.true)

pub returns-then-depth-eq0-clause-falls : goal.returns-then-depth-eq0-clause-falls
returns-then-depth-eq0-clause-falls c =
    let s = c.args.scope.now in
    let some = weighing.found_none (plain (placed s.declarations.now)) (plain_process (placed_process s.process.now)) c.args.running.now.depth (found_of c.args.called.found) in
    omega (arith, some)

pub returns-clause-run : goal.returns-clause-run
returns-clause-run c =
    let s = c.args.scope.now in
    let g = plain (placed s.declarations.now) in
    let q = plain_process (placed_process s.process.now) in
    let p = c.args.running.now in
    let d = p.depth in
    let f = found_of c.args.called.found in
    let vs = vars_of c.args.called.own.items in
    let m = memory_of c.args.memory.now in
    let its = home_of c.home_in-callee.result in
    let m1 = deeper.inside (vars_of c.replace-own.new.dest.items) m.process m.monitor in
    let same = ap (λ (own : Vec code_slot.Slot). deeper.inside (vars_of own.items) m.process m.monitor) c.replace-own.ensures.after in
    let b = stmts_of c.statements-body.result.now in
    let body = ap stmts_of c.statements-body.ensures in
    let site = deeper.site_in g q its (d - 1) in
    let r1 = run.run_all site m1 b in
    let o = option_map answers_of c.answering-result.result in
    let answer = deeper.call_ran g q d f its (run.with_own m vs) m1 o b r1 c.if-depth-eq0.false c.home_in-callee.ensures c.answering-result.ensures body same refl in
    let none : rest_of c.replace-rest.new.dest.items ≡ [] = ap (λ (l : Vec Item). rest_of l.items) c.replace-rest.ensures.after ∙ ap rest_of c.new.ensures.items in
    let items = ap (λ (l : Vec Item). rest_of l.items) c.replace-rest.ensures.value in
    let now : Others = others_of None c.args.memory.now in
    let fresh : others_in c.replace-kept.new.dest now ≡ now = ap (λ (k : Option Beside). others_in k now) c.replace-kept.ensures.after in
    let outside : others_in c.replace-kept.result now ≡ others_of p.kept c.args.memory.now = ap (λ (k : Option Beside). others_in k now) c.replace-kept.ensures.value in
    let here : memory_in (vars_of c.replace-own.result.items) now ≡ m = ap (λ (own : Vec code_slot.Slot). memory_in (vars_of own.items) now) c.replace-own.ensures.value in
    let caller : FunctionCaller = record { callee = c.home_in-callee.result; result = c.answering-result.result; home = p.home; depth = d; own = c.replace-own.result; rest = c.replace-rest.result; remains = c.args.remains; kept = c.replace-kept.result } in
    let a = (deeper.site_in g q (home_of p.home) d).calls.answer f (run.with_own m vs) in
    ap (λ k. callers_run s c.push.new.self.items k (then_items site (rest_of c.replace-rest.new.dest.items) r1)) fresh
    ∙ (waiting.function_begins s p.callers.items c.push.new.self.items caller now (others_of p.kept c.args.memory.now) m site (rest_of c.replace-rest.new.dest.items) r1 a c.in_ok-push.ensures.items none outside here answer
    ∙ ap (λ l. callers_run s p.callers.items (others_of p.kept c.args.memory.now) (then_items (deeper.site_in g q (home_of p.home) d) l (told (deeper.site_in g q (home_of p.home) d) m c.args.remains a))) items)

pub returns-clause-falls : goal.returns-clause-falls
returns-clause-falls c =
    let s = c.args.scope.now in
    let g = plain (placed s.declarations.now) in
    let q = plain_process (placed_process s.process.now) in
    let p = c.args.running.now in
    let d = p.depth in
    let f = found_of c.args.called.found in
    let caller : FunctionCaller = record { callee = c.home_in-callee.result; result = c.answering-result.result; home = p.home; depth = d; own = c.replace-own.result; rest = c.replace-rest.result; remains = c.args.remains; kept = c.replace-kept.result } in
    let weight : callers_weight s c.push.new.self.items ≡ callers_weight s p.callers.items + caller_weight s (caller_is.OfFunction caller) = ap (callers_weight s) c.in_ok-push.ensures.items ∙ stack.last_weighs s p.callers.items (caller_is.OfFunction caller) in
    let body = ap (λ l. stmts_weight (costs s (d - 1)) (stmts_of l)) c.statements-body.ensures in
    let result = ap (answers_weight (costs s (d - 1))) c.answering-result.ensures in
    let deep = weighing.found_deeper g q d f c.if-depth-eq0.false in
    let none : items_weight (costs s (d - 1)) c.replace-rest.new.dest.items ≡ 0 = ap (λ (l : Vec Item). items_weight (costs s (d - 1)) l.items) c.replace-rest.ensures.after ∙ ap (items_weight (costs s (d - 1))) c.new.ensures.items in
    let items = ap (λ (l : Vec Item). items_weight (costs s d) l.items) c.replace-rest.ensures.value in
    omega (arith, weight, body, result, deep, none, items)
