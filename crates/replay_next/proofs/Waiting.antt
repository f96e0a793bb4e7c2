-- Calls that begin, and callers that go on.
use Rattle.std.specs.Prelude.{◌≡◌, ◌-◌, List, [], ◌∷◌, ◌++◌, Option, None, option_map}
use Rattle.std.proofs.Common.{refl, ◌∙◌, ap}
use Rattle.base.specs.Words.{Answer, word, raised}
use Rattle.source_semantics.specs.Next.{answer_after}
use Rattle.source_semantics.specs.Store.{Vars}
use Rattle.source_semantics.specs.Run as run
use Rattle.replay_state.specs.View.{answers_of, home_of, vars_of}
use Rattle.replay_calls.specs.declared.lookup.EvalContext as code_scope
use Rattle.replay_calls.specs.Reach.{site_of}
use Rattle.replay_next.specs.declared.remains.Beside.{Beside}
use Rattle.replay_next.specs.declared.remains.Caller.{Caller}
use Rattle.replay_next.specs.declared.remains.Caller.TheVariants as caller_is
use Rattle.replay_next.specs.declared.remains.FunctionCaller.{FunctionCaller}
use Rattle.replay_next.specs.declared.remains.ProcedureCaller.{ProcedureCaller}
use Rattle.replay_next.specs.Driving.{Others, answer_within, callers_run, function_within, memory_in, others_in, rest_of, then_items}
use Rattle.replay_next.specs.Remains.{told}
use Rattle.replay_next.proofs.Stack.{last_runs}
use Rattle.replay_next.proofs.Stepping.{then_none}

-- a procedure's run is its caller's
pub procedure_begins : (s : code_scope.EvalContext) (fs gs : List Caller) (f : ProcedureCaller) (now : Others) (c : run.Site) (js : List run.Item) (r1 r : run.Run)
    → gs ≡ fs ++ caller_is.OfProcedure f ∷ [] → js ≡ [] → run.within_caller (home_of f.callee) (vars_of f.own.items) r1 ≡ r
    → callers_run s gs now (then_items c js r1) ≡ callers_run s fs now (then_items (site_of s f.home f.depth) (rest_of f.rest.items) r)
procedure_begins s fs gs f now c js r1 r all none part =
    let outer = λ (x : run.Run). callers_run s fs now (then_items (site_of s f.home f.depth) (rest_of f.rest.items) x) in
    ap (λ (l : List Caller). callers_run s l now (then_items c js r1)) all
    ∙ (last_runs s fs (caller_is.OfProcedure f) now (then_items c js r1)
    ∙ (ap (λ x. outer (run.within_caller (home_of f.callee) (vars_of f.own.items) x)) (ap (λ l. then_items c l r1) none ∙ then_none c r1) ∙ ap outer part))

-- a function's answer goes into its caller's expression
pub function_begins : (s : code_scope.EvalContext) (fs gs : List Caller) (f : FunctionCaller) (now out : Others) (m : run.Memory) (c : run.Site) (js : List run.Item) (r1 : run.Run) (a : Answer)
    → gs ≡ fs ++ caller_is.OfFunction f ∷ [] → js ≡ [] → others_in f.kept now ≡ out → memory_in (vars_of f.own.items) now ≡ m
    → answer_after (site_of s f.callee (f.depth - 1)) (option_map answers_of f.result) r1 ≡ a
    → callers_run s gs now (then_items c js r1) ≡ callers_run s fs out (then_items (site_of s f.home f.depth) (rest_of f.rest.items) (told (site_of s f.home f.depth) m f.remains a))
function_begins s fs gs f now out m c js r1 a all none outside here answer =
    let site = site_of s f.home f.depth in
    let items = rest_of f.rest.items in
    ap (λ (l : List Caller). callers_run s l now (then_items c js r1)) all
    ∙ (last_runs s fs (caller_is.OfFunction f) now (then_items c js r1)
    ∙ (ap (λ x. callers_run s fs (others_in f.kept now) (function_within s f now x)) (ap (λ l. then_items c l r1) none ∙ then_none c r1)
    ∙ (ap (λ k. callers_run s fs k (function_within s f now r1)) outside
    ∙ (ap (λ k. callers_run s fs out (then_items site items (told site k f.remains (answer_after (site_of s f.callee (f.depth - 1)) (option_map answers_of f.result) r1)))) here
    ∙ ap (λ k. callers_run s fs out (then_items site items (told site m f.remains k))) answer))))

-- the caller's variables are in reach again
pub answer_goes : (s : code_scope.EvalContext) (fs : List Caller) (f : FunctionCaller) (now : Others) (kept : Option Beside) (p q : Vars) (a : Answer)
    → p ≡ now.process → q ≡ now.monitor → kept ≡ f.kept
    → callers_run s fs (others_in kept (record { process = p; monitor = q })) (answer_within s f (record { process = p; monitor = q }) a)
    ≡ callers_run s fs (others_in f.kept now) (answer_within s f now a)
answer_goes s fs f now kept p q a first second same =
    ap (λ k. callers_run s fs (others_in k (record { process = p; monitor = q })) (answer_within s f (record { process = p; monitor = q }) a)) same
    ∙ (ap (λ k. callers_run s fs (others_in f.kept (record { process = k; monitor = q })) (answer_within s f (record { process = k; monitor = q }) a)) first
    ∙ ap (λ k. callers_run s fs (others_in f.kept (record { process = now.process; monitor = k })) (answer_within s f (record { process = now.process; monitor = k }) a)) second)

-- the value of a result is the function's answer
pub result_value : (c : run.Site) (m : run.Memory) (a : Answer) → answer_after c None (run.with_value a m (λ v. run.answers v m)) ≡ a
result_value c m (word v) = refl
result_value c m (raised n) = refl
