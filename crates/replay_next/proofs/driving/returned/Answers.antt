use Rattle.std.specs.Prelude.{[], ◌∷◌, ◌++◌, List, Some}
use Rattle.std.proofs.Common.{◌≡◌, ◌∙◌, ◌+◌, ap, sym, arith}
use Rattle.replay_calls.specs.Reach.{memory_of}
use Rattle.replay_next.specs.Driving.{callers_run, callers_weight, caller_weight, others_of}
use Rattle.replay_next.specs.Remains.{came_of}
use Rattle.replay_next.specs.declared.remains.Caller.{Caller}
use Rattle.replay_next.specs.declared.remains.Caller.TheVariants as caller_is
use Rattle.replay_next.proofs.Stack.{last_popped, last_runs, last_weighs}
use Rattle.replay_next.proofs.driving.returned.Goals as goal

pub returns-in_ok-procedure_over-in-Some-OfProcedure-clause-run : goal.returns-in_ok-procedure_over-in-Some-OfProcedure-clause-run
returns-in_ok-procedure_over-in-Some-OfProcedure-clause-run c =
    let s = c.args.scope.now in
    let p = c.args.running.now in
    let now = others_of p.kept c.args.memory.now in
    let r = came_of c.args.came (memory_of c.args.memory.now) in
    let w = c.in-Some-OfProcedure in
    let some = w.is in
    let caller = w.field-0-is in
    let held = w.caller-is in
    let last : c.pop.result ≡ Some (caller_is.OfProcedure w.caller) = cc in
    let left = c.pop.new.self.items in
    let all : p.callers.items ≡ left ++ caller_is.OfProcedure w.caller ∷ [] = last_popped p.callers.items left c.pop.result (caller_is.OfProcedure w.caller) c.pop.ensures.items last in
    c.in_ok-procedure_over-in-Some-OfProcedure.ensures.run
    ∙ (sym (last_runs s left (caller_is.OfProcedure w.caller) now r) ∙ sym (ap (λ (l : List Caller). callers_run s l now r) all))

pub returns-in_ok-procedure_over-in-Some-OfProcedure-clause-falls : goal.returns-in_ok-procedure_over-in-Some-OfProcedure-clause-falls
returns-in_ok-procedure_over-in-Some-OfProcedure-clause-falls c =
    let s = c.args.scope.now in
    let p = c.args.running.now in
    let w = c.in-Some-OfProcedure in
    let some = w.is in
    let caller = w.field-0-is in
    let held = w.caller-is in
    let last : c.pop.result ≡ Some (caller_is.OfProcedure w.caller) = cc in
    let left = c.pop.new.self.items in
    let all : p.callers.items ≡ left ++ caller_is.OfProcedure w.caller ∷ [] = last_popped p.callers.items left c.pop.result (caller_is.OfProcedure w.caller) c.pop.ensures.items last in
    let weight : callers_weight s p.callers.items ≡ callers_weight s left + caller_weight s (caller_is.OfProcedure w.caller) = ap (callers_weight s) all ∙ last_weighs s left (caller_is.OfProcedure w.caller) in
    let less = c.in_ok-procedure_over-in-Some-OfProcedure.ensures.falls in
    omega (arith, weight, less)

pub returns-in_ok-function_over-in-Some-OfFunction-clause-run : goal.returns-in_ok-function_over-in-Some-OfFunction-clause-run
returns-in_ok-function_over-in-Some-OfFunction-clause-run c =
    let s = c.args.scope.now in
    let p = c.args.running.now in
    let now = others_of p.kept c.args.memory.now in
    let r = came_of c.args.came (memory_of c.args.memory.now) in
    let w = c.in-Some-OfFunction in
    let some = w.is in
    let caller = w.field-0-is in
    let held = w.caller-is in
    let last : c.pop.result ≡ Some (caller_is.OfFunction w.caller) = cc in
    let left = c.pop.new.self.items in
    let all : p.callers.items ≡ left ++ caller_is.OfFunction w.caller ∷ [] = last_popped p.callers.items left c.pop.result (caller_is.OfFunction w.caller) c.pop.ensures.items last in
    c.in_ok-function_over-in-Some-OfFunction.ensures.run s
    ∙ (sym (last_runs s left (caller_is.OfFunction w.caller) now r) ∙ sym (ap (λ (l : List Caller). callers_run s l now r) all))

pub returns-in_ok-function_over-in-Some-OfFunction-clause-falls : goal.returns-in_ok-function_over-in-Some-OfFunction-clause-falls
returns-in_ok-function_over-in-Some-OfFunction-clause-falls c =
    let s = c.args.scope.now in
    let p = c.args.running.now in
    let w = c.in-Some-OfFunction in
    let some = w.is in
    let caller = w.field-0-is in
    let held = w.caller-is in
    let last : c.pop.result ≡ Some (caller_is.OfFunction w.caller) = cc in
    let left = c.pop.new.self.items in
    let all : p.callers.items ≡ left ++ caller_is.OfFunction w.caller ∷ [] = last_popped p.callers.items left c.pop.result (caller_is.OfFunction w.caller) c.pop.ensures.items last in
    let weight : callers_weight s p.callers.items ≡ callers_weight s left + caller_weight s (caller_is.OfFunction w.caller) = ap (callers_weight s) all ∙ last_weighs s left (caller_is.OfFunction w.caller) in
    let less = c.in_ok-function_over-in-Some-OfFunction.ensures.falls s in
    omega (arith, weight, less)
