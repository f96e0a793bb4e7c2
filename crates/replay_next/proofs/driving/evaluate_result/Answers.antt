use Rattle.std.specs.Prelude.{None}
use Rattle.std.proofs.Common.{◌≡◌, ◌∙◌, ◌+◌, ◌-◌, ap, sym, refl, arith, ℕ}
use Rattle.source_semantics.specs.Run as run
use Rattle.replay_calls.specs.Reach.{memory_of, site_of}
use Rattle.replay_next.specs.Driving.{callers_run, callers_weight, caller_weight, others_in, others_of, rest_of, then_items}
use Rattle.replay_next.specs.Remains.{expr_of, in_type, step_of}
use Rattle.replay_next.specs.Weights.{costs, items_weight}
use Rattle.replay_next.specs.declared.remains.Caller.TheVariants as caller_is
use Rattle.replay_next.specs.declared.remains.FunctionCaller.{FunctionCaller}
use Rattle.replay_next.proofs.Stack as stack
use Rattle.replay_next.proofs.Waiting as waiting
use Rattle.replay_next.proofs.driving.evaluate_result.Goals as goal

pub returns-clause-run : goal.returns-clause-run
returns-clause-run c = λ s.
    let p = c.args.running.now in
    let f = c.args.caller in
    let m = memory_of c.args.memory.now in
    let now = others_of p.kept c.args.memory.now in
    let caller : FunctionCaller = record { callee = f.callee; result = None; home = f.home; depth = f.depth; own = f.own; rest = f.rest; remains = f.remains; kept = f.kept } in
    let d = c.saturating_sub-running.result in
    let site = site_of s f.callee d in
    let deeper = site_of s f.callee (f.depth - 1) in
    let step = c.evaluates.result in
    let v = c.args.value in
    let a = in_type deeper v.kind.now (run.value deeper m (expr_of v.value.now)) in
    let here : step_of site step m ≡ run.with_value a m (λ w. run.answers w m) =
    c.evaluates.ensures.run site m ∙ ap (λ (n : ℕ). let k = site_of s f.callee n in run.with_value (in_type k v.kind.now (run.value k m (expr_of v.value.now))) m (λ w. run.answers w m)) c.saturating_sub-running.ensures in
    ap (λ r. callers_run s c.push.new.self.items now (then_items site (rest_of c.new.result.items) r)) here
    ∙ waiting.function_begins s p.callers.items c.push.new.self.items caller now (others_in f.kept now) _ site (rest_of c.new.result.items) (run.with_value a m (λ w. run.answers w m)) a
    c.in_ok-push.ensures.items (ap rest_of c.new.ensures.items) refl refl (waiting.result_value deeper m a)

pub returns-clause-falls : goal.returns-clause-falls
returns-clause-falls c = λ s.
    let p = c.args.running.now in
    let f = c.args.caller in
    let caller : FunctionCaller = record { callee = f.callee; result = None; home = f.home; depth = f.depth; own = f.own; rest = f.rest; remains = f.remains; kept = f.kept } in
    let d = c.saturating_sub-running.result in
    let weight : callers_weight s c.push.new.self.items ≡ callers_weight s p.callers.items + caller_weight s (caller_is.OfFunction caller) = ap (callers_weight s) c.in_ok-push.ensures.items ∙ stack.last_weighs s p.callers.items (caller_is.OfFunction caller) in
    let none : items_weight (costs s d) c.new.result.items ≡ 0 = ap (items_weight (costs s d)) c.new.ensures.items in
    let step = c.evaluates.ensures.falls (costs s d) in
    rw (sym c.saturating_sub-running.ensures) (omega (arith, weight, none, step))
