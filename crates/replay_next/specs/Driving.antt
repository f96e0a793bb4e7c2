-- The call that runs, and the callers that wait for it, the outermost first.
use Rattle.std.specs.Prelude.{◌≡◌, true, is_some, ℕ, suc, ◌+◌, ◌-◌, ◌<◌, List, [], ◌∷◌, map, option_map, reverse, Option, Some, None}
use Rattle.source_semantics.specs.Next.{answer_after, leave_loop, run_items}
use Rattle.source_semantics.specs.Store.{Vars, slot_named}
use Rattle.syntax_tree.specs.Plain.{Name}
use Rattle.source_semantics.specs.Run as run
use Rattle.base.specs.Words as w
use Rattle.replay_state.specs.View.{answers_of, home_of, item_of, vars_of}
use Rattle.replay_state.specs.declared.call.Item as code_item
use Rattle.replay_calls.specs.declared.lookup.EvalContext as code_scope
use Rattle.replay_calls.specs.declared.memory.Memory as code_memory
use Rattle.replay_calls.specs.Reach.{area_of, memory_of, site_of}
use Rattle.replay_next.specs.Remains.{came_of, step_of, told}
use Rattle.replay_calls.specs.Seen.{answer_of}
use Rattle.replay_next.specs.Weights.{Costs, answers_weight, costs, items_weight, remains_weight, step_weight}
use Rattle.replay_next.specs.declared.remains.Beside as code_beside
use Rattle.replay_next.specs.declared.remains.Step as code_step
use Rattle.replay_next.specs.declared.remains.ProcedureCaller as code_procedure
use Rattle.replay_next.specs.declared.remains.FunctionCaller as code_function
use Rattle.replay_next.specs.declared.remains.Caller as code_caller
use Rattle.replay_next.specs.declared.remains.Caller.TheVariants as caller_is
use Rattle.replay_next.specs.declared.remains.Running as code_running
use Rattle.replay_next.specs.declared.remains.FunctionEnd as code_end
use Rattle.replay_next.specs.declared.remains.FunctionEnd.TheVariants as end_is
use Rattle.replay_next.specs.declared.remains.Driven as code_driven
use Rattle.replay_next.specs.declared.remains.Driven.TheVariants as driven_is

-- the variables of the process and of the monitor
pub record Others : Type 0 where
  pub process : Vars
  pub monitor : Vars

abbrev pub others_in : Option code_beside.Beside → Others → Others
others_in None now = now
others_in (Some k) now = record { process = area_of k.process; monitor = area_of k.monitor }

-- those that the caller of the innermost function has
abbrev pub others_of : Option code_beside.Beside → code_memory.Memory → Others
others_of kept m = others_in kept (record { process = area_of m.process; monitor = area_of m.monitor })

-- these are kept, or a store to the variable changes none of them
abbrev pub IsGuarded : Option code_beside.Beside → Name → Vars → Type 0
IsGuarded (Some k) x own = Unit {0}
IsGuarded None x own = is_some (slot_named x own) ≡ true

-- the items that remain, of which the code has the outermost first
abbrev pub rest_of : List code_item.Item → List run.Item
rest_of is = map item_of (reverse is)

-- items that follow a run
abbrev pub then_items : run.Site → List run.Item → run.Run → run.Run
then_items c is r = run.followed r (λ k. run_items c k is) (λ k. leave_loop c k is) is

abbrev pub procedure_within : code_scope.EvalContext → code_procedure.ProcedureCaller → run.Run → run.Run
procedure_within s f r = then_items (site_of s f.home f.depth) (rest_of f.rest.items) (run.within_caller (home_of f.callee) (vars_of f.own.items) r)

abbrev pub memory_in : Vars → Others → run.Memory
memory_in own now = record { own = own; process = now.process; monitor = now.monitor }

-- the function's answer goes into what remains of its caller's expression
abbrev pub answer_within : code_scope.EvalContext → code_function.FunctionCaller → Others → w.Answer → run.Run
answer_within s f now a =
    let c = site_of s f.home f.depth in
    then_items c (rest_of f.rest.items) (told c (memory_in (vars_of f.own.items) now) f.remains a)

abbrev pub function_within : code_scope.EvalContext → code_function.FunctionCaller → Others → run.Run → run.Run
function_within s f now r = answer_within s f now (answer_after (site_of s f.callee (f.depth - 1)) (option_map answers_of f.result) r)

abbrev pub within : code_scope.EvalContext → code_caller.Caller → Others → run.Run → run.Run
within s (caller_is.OfProcedure f) now r = procedure_within s f r
within s (caller_is.OfFunction f) now r = function_within s f now r

-- what the next function's caller has, once this caller has gone on
abbrev pub outside : code_caller.Caller → Others → Others
outside (caller_is.OfProcedure f) now = now
outside (caller_is.OfFunction f) now = others_in f.kept now

abbrev pub outside_all : List code_caller.Caller → Others → Others
outside_all [] now = now
outside_all (f ∷ fs) now = outside f (outside_all fs now)

abbrev pub callers_run : code_scope.EvalContext → List code_caller.Caller → Others → run.Run → run.Run
callers_run s [] now r = r
callers_run s (f ∷ fs) now r = within s f (outside_all fs now) (callers_run s fs now r)

-- what the outermost call comes to where the one that runs came to this, and its items remain
abbrev pub after_run : code_scope.EvalContext → code_running.Running → code_memory.Memory → run.Run → run.Run
after_run s p m r = callers_run s p.callers.items (others_of p.kept m) (then_items (site_of s p.home p.depth) (rest_of p.rest.items) r)

-- and from this step of it
abbrev pub running_run : code_scope.EvalContext → code_running.Running → code_step.Step → code_memory.Memory → run.Run
running_run s p step m = after_run s p m (step_of (site_of s p.home p.depth) step (memory_of m))

-- where no caller is left the run is over
abbrev pub driven_run : code_scope.EvalContext → code_running.Running → code_driven.Driven → code_memory.Memory → run.Run
driven_run s p (driven_is.Over came) m = came_of came (memory_of m)
driven_run s p (driven_is.At step) m = running_run s p step m

-- how a function is over: its answer, its result being evaluated
abbrev pub end_answer : run.Site → code_end.FunctionEnd → run.Memory → w.Answer
end_answer c (end_is.Evaluates a) m = answer_after c (Some (answers_of a)) (run.goes m)
end_answer c (end_is.Answers a) m = answer_of a

-- ---- how much is left to do

abbrev pub end_weight : Costs → code_end.FunctionEnd → ℕ
end_weight k (end_is.Evaluates a) = answers_weight k (Some (answers_of a))
end_weight k (end_is.Answers a) = 0

abbrev pub procedure_weight : code_scope.EvalContext → code_procedure.ProcedureCaller → ℕ
procedure_weight s f = suc (items_weight (costs s f.depth) f.rest.items)

-- of a caller beside the function's result
abbrev pub waiting_weight : code_scope.EvalContext → code_function.FunctionCaller → ℕ
waiting_weight s f = suc (items_weight (costs s f.depth) f.rest.items + remains_weight (costs s f.depth) f.remains)

abbrev pub function_weight : code_scope.EvalContext → code_function.FunctionCaller → ℕ
function_weight s f = waiting_weight s f + answers_weight (costs s (f.depth - 1)) (option_map answers_of f.result)

abbrev pub caller_weight : code_scope.EvalContext → code_caller.Caller → ℕ
caller_weight s (caller_is.OfProcedure f) = procedure_weight s f
caller_weight s (caller_is.OfFunction f) = function_weight s f

abbrev pub callers_weight : code_scope.EvalContext → List code_caller.Caller → ℕ
callers_weight s [] = 0
callers_weight s (f ∷ fs) = caller_weight s f + callers_weight s fs

abbrev pub running_weight : code_scope.EvalContext → code_running.Running → code_step.Step → ℕ
running_weight s p step = callers_weight s p.callers.items + (items_weight (costs s p.depth) p.rest.items + step_weight (costs s p.depth) step)

-- beside the step
abbrev pub after_weight : code_scope.EvalContext → code_running.Running → ℕ
after_weight s p = callers_weight s p.callers.items + items_weight (costs s p.depth) p.rest.items

-- less is left to do than this
abbrev pub HasGone : code_scope.EvalContext → code_running.Running → code_driven.Driven → ℕ → Type 0
HasGone s p (driven_is.Over came) n = Unit {0}
HasGone s p (driven_is.At step) n = running_weight s p step < n
