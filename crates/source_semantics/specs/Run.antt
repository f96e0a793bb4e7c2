-- The value of an expression, and what statements come to: silently to their end, or up to the next
-- visible action.
use Rattle.std.specs.Prelude.{ℕ, zero, suc, cond, not, List, [], ◌∷◌, ◌++◌, Option, Some, None, ℤ, pos, ◌-ℤ◌, ◌+ℤ◌, map, option_map}
use Rattle.syntax_tree.specs.Plain.{Name, Param, Expr, literal, truth, variable, element, call, minus, negation, paren, row, Exprs, no_exprs, exprs, Operands, no_operands, operand, Ref, whole, part, Stmt, assign, assign_entry, assign_empty, perform, perform_entry, when, when_else, loop, exit_when, get, put, wait, signal, broadcast, except, assert, Stmts, no_stmts, stmts, Answers, Routine, Monitor, Process, Program}
use Rattle.base.specs.Words.{Answer, word, raised, with_word, negated, of_bool, is_true}
use Rattle.source_semantics.specs.Operators.{operated}
use Rattle.source_semantics.specs.Names.{named, constants, constant_value, count_value, routines, monitors, device_number, monitor_number, condition_number}
use Rattle.source_semantics.specs.Store.{Held, one, Slot, Vars, range_of, checked, fresh, slot_named, replaced, read, read_at, stored, up_to}

-- whose text a call is in, which says which variables it names beside its own
pub data Home : Type 0 where
  of_program : Home
  of_process : Home
  of_monitor : (mon : ℕ) → Home

-- the variables in reach: the call's own, the process's, and those of the monitor that it is inside
pub record Memory : Type 0 where
  pub own : Vars
  pub process : Vars
  pub monitor : Vars

-- a variable to be stored to, its index evaluated
pub record Target : Type 0 where
  pub name : Name
  pub index : Option ℤ

-- what a process does that others can see
pub data Action : Type 0 where
  gets : (dev : ℕ) → Action
  puts : (dev : ℕ) → ℤ → Action
  enters : (mon : ℕ) → Action
  leaves : (mon : ℕ) → Action
  waits : (cond limit number : ℕ) → Action
  signals : (cond : ℕ) → Action
  broadcasts : (cond : ℕ) → Action
  asks_empty : (cond : ℕ) → Action
  raises : (number : ℕ) → Action
  ends : Action

-- what remains to be done in a call
pub data Item : Type 0 where
  do_all : Stmts → Item
  -- a loop with turns left, and the value of its variable in the next
  turns_left : Name → ℤ → ℕ → Stmts → Item
  -- a store whose value is still to come, or has come
  receive : Target → Item
  store : Target → ℤ → Item
  -- the end of a wait
  enter_again : (mon : ℕ) → Item
  -- the end of an entry: its answer, if any, and the monitor is left
  leave_with : Option Answers → (mon : ℕ) → Item
  give : ℤ → Item

-- a call in progress
pub record Call : Type 0 where
  pub home : Home
  pub own : Vars
  pub rest : List Item

-- what statements come to
pub data Run : Type 0 where
  goes : Memory → Run
  -- an exit from the innermost loop
  exits : Memory → Run
  -- an exception
  fails : (number : ℕ) → Memory → Run
  -- the call is over and gives a value
  answers : ℤ → Memory → Run
  -- a visible action; after it remain calls inside this one, innermost first, and items of this one
  stops : Action → (inside : List Call) → (rest : List Item) → Memory → Run

-- what a run is followed by where it goes on, where it exits, and what remains after it where it
-- stops
abbrev pub followed : Run → (Memory → Run) → (Memory → Run) → List Item → Run
followed (goes m) next out rest = next m
followed (exits m) next out rest = out m
followed (fails n m) next out rest = fails n m
followed (answers v m) next out rest = answers v m
followed (stops a inside is m) next out rest = stops a inside (is ++ rest) m

-- the memory of the caller, whose own variables come back
abbrev pub back_to : Vars → Memory → Memory
back_to own m = record { own = own; process = m.process; monitor = m.monitor }

-- a procedure's run as a part of its caller's
abbrev pub within_caller : Home → Vars → Run → Run
within_caller h own (goes m) = goes (back_to own m)
within_caller h own (exits m) = goes (back_to own m)
within_caller h own (answers v m) = goes (back_to own m)
within_caller h own (fails n m) = fails n (back_to own m)
within_caller h own (stops a inside is m) = stops a (inside ++ record { home = h; own = m.own; rest = is } ∷ []) [] (back_to own m)

-- a routine with the home that its text has
pub record Found : Type 0 where
  pub home : Home
  pub routine : Routine

-- what calls come to: the answer of a function and the run of a procedure, with its own variables
-- in the memory
pub record Calls : Type 0 where
  pub answer : Found → Memory → Answer
  pub run : Found → Memory → Run

-- where statements stand: the program, the process that runs, whose text it is, and what calls come
-- to
pub record Site : Type 0 where
  pub program : Program
  pub process : Process
  pub home : Home
  pub calls : Calls

abbrev pub entry_name : Routine → Name
entry_name r = r.name

abbrev pub or_else : {A : Type 0} → Option A → Option A → Option A
or_else (Some x) y = Some x
or_else None y = y

-- the routine of that name, of the process or of the program
abbrev pub routine_named : Program → Process → Name → Option Found
routine_named g p f = or_else
    (option_map (λ r. record { home = of_process; routine = r }) (named entry_name f p.routines))
    (option_map (λ r. record { home = of_program; routine = r }) (named entry_name f (routines g)))

abbrev pub entry_of : ℕ → Name → Option Monitor → Option Found
entry_of m e None = None
entry_of m e (Some k) = option_map (λ r. record { home = of_monitor m; routine = r }) (named entry_name e k.entries)

-- the entry of that name, of the monitor of that name
abbrev pub entry_named : Program → Name → Name → Option Found
entry_named g m e = entry_of (monitor_number g m) e (named (λ k. k.name) m (monitors g))

-- the variables in reach beside the call's own
abbrev pub outer : Home → Memory → Vars
outer of_program m = []
outer of_process m = m.process
outer (of_monitor k) m = m.monitor

abbrev pub with_outer : Home → Memory → Vars → Memory
with_outer of_program m vs = m
with_outer of_process m vs = record { own = m.own; process = vs; monitor = m.monitor }
with_outer (of_monitor k) m vs = record { own = m.own; process = m.process; monitor = vs }

abbrev pub with_own : Memory → Vars → Memory
with_own m vs = record { own = vs; process = m.process; monitor = m.monitor }

abbrev pub slot_in : Home → Memory → Name → Option Slot
slot_in h m x = or_else (slot_named x m.own) (slot_named x (outer h m))

-- the value of a name: what the variable in reach holds, else that of the constant; a constant is
-- in reach only after its declaration, so a variable may have the name of a later one
abbrev pub name_value : Option Slot → Option (Name × ℤ) → Answer
name_value (Some s) k = read s.held
name_value None (Some k) = word k.1
name_value None None = word (pos 0)

abbrev pub value_of : Site → Memory → Name → Answer
value_of c m x = name_value (slot_in c.home m x) (named (λ k. k.0) x (constants c.program))

abbrev pub read_element : Option Slot → ℤ → Answer
read_element None i = word (pos 0)
read_element (Some s) i = read_at s.held i

-- the arguments as the parameters' variables, or the exception of one of them
pub data Bound : Type 0 where
  bound : Vars → Bound
  unbound : (number : ℕ) → Bound

abbrev pub with_argument : Program → Param → Answer → (ℤ → Bound) → Bound
with_argument g p (raised n) next = unbound n
with_argument g p (word v) next = elim (checked (range_of g p.kind) v) [ word w ↦ next w | raised n ↦ unbound n ]

abbrev pub added : Program → Param → ℤ → Bound → Bound
added g p v (unbound n) = unbound n
added g p v (bound vs) = bound (record { name = p.name; range = range_of g p.kind; held = one v } ∷ vs)

-- the parameters and then the other variables of a routine
abbrev pub own_vars : Program → Routine → Vars → Vars
own_vars g r params = params ++ map (fresh g) r.vars

abbrev pub answer_of : Site → Memory → Found → Bound → Answer
answer_of c m f (unbound n) = raised n
answer_of c m f (bound vs) = c.calls.answer f (with_own m (own_vars c.program f.routine vs))

abbrev pub called : Site → Memory → Option Found → (List Param → Bound) → Answer
called c m None arguments = word (pos 0)
called c m (Some f) arguments = answer_of c m f (arguments f.routine.params)

abbrev pub operated_not : ℤ → Answer
operated_not v = word (of_bool (not (is_true v)))

-- The value of an expression, from left to right.
abbrev mutual
  pub value : Site → Memory → Expr → Answer
  value c m (literal n) = word (pos n)
  value c m (truth b) = word (of_bool b)
  value c m (variable x) = value_of c m x
  value c m (element x i) = with_word (value c m i) (λ v. read_element (slot_in c.home m x) v)
  value c m (call f es) = called c m (routine_named c.program c.process f) (λ ps. arguments c m es ps)
  value c m (minus e) = with_word (value c m e) (λ v. negated v)
  value c m (negation e) = with_word (value c m e) (λ v. operated_not v)
  value c m (paren e) = value c m e
  value c m (row e r) = with_word (value c m e) (λ v. row_value c m r v)

  pub row_value : Site → Memory → Operands → ℤ → Answer
  row_value c m no_operands v = word v
  row_value c m (operand op e r) v = with_word (value c m e) (λ w. with_word (operated op v w) (λ u. row_value c m r u))

  pub arguments : Site → Memory → Exprs → List Param → Bound
  arguments c m no_exprs ps = bound []
  arguments c m (exprs e es) [] = bound []
  arguments c m (exprs e es) (p ∷ ps) = with_argument c.program p (value c m e) (λ v. added c.program p v (arguments c m es ps))

abbrev pub with_value : Answer → Memory → (ℤ → Run) → Run
with_value (word v) m next = next v
with_value (raised n) m next = fails n m

-- the variable to be stored to: its index is evaluated first
abbrev pub with_target : Site → Memory → Ref → (Target → Run) → Run
with_target c m (whole x) next = next (record { name = x; index = None })
with_target c m (part x i) next = with_value (value c m i) m (λ v. next (record { name = x; index = Some v }))

-- the memory after a store, in the call's own variables or in the others
abbrev pub memory_after : Home → Memory → Name → Option Slot → Held → Memory
memory_after h m x (Some own) held = with_own m (replaced x held m.own)
memory_after h m x None held = with_outer h m (replaced x held (outer h m))

abbrev pub stored_held : Home → Memory → Name → Option Held → Run
stored_held h m x None = fails 3 m
stored_held h m x (Some held) = goes (memory_after h m x (slot_named x m.own) held)

-- a store: the range is checked before the index
abbrev pub stored_slot : Home → Memory → Target → ℤ → Option Slot → Run
stored_slot h m t v None = goes m
stored_slot h m t v (Some s) = with_value (checked s.range v) m (λ w. stored_held h m t.name (stored s.held t.index w))

abbrev pub store_to : Home → Memory → Target → ℤ → Run
store_to h m t v = stored_slot h m t v (slot_in h m t.name)

-- a call of an entry enters its monitor, and after it remain its body and the leaving
abbrev pub entry_call : Found → ℕ → Vars → Call
entry_call f mon own = record { home = f.home; own = own; rest = do_all f.routine.body ∷ leave_with f.routine.answers mon ∷ [] }

abbrev pub entered : Site → Memory → Found → ℕ → Bound → List Item → Run
entered c m f mon (unbound n) rest = fails n m
entered c m f mon (bound vs) rest = stops (enters mon) (entry_call f mon (own_vars c.program f.routine vs) ∷ []) rest m

abbrev pub enter_found : Site → Memory → ℕ → Option Found → (List Param → Bound) → List Item → Run
enter_found c m mon None args rest = goes m
enter_found c m mon (Some f) args rest = entered c m f mon (args f.routine.params) rest

abbrev pub performed : Site → Memory → Found → Bound → Run
performed c m f (unbound n) = fails n m
performed c m f (bound vs) = within_caller f.home m.own (c.calls.run f (with_own m (own_vars c.program f.routine vs)))

abbrev pub perform_found : Site → Memory → Option Found → (List Param → Bound) → Run
perform_found c m None args = goes m
perform_found c m (Some f) args = performed c m f (args f.routine.params)

abbrev pub enter_named : Site → Memory → Name → Name → Exprs → List Item → Run
enter_named c m mon e es rest = enter_found c m (monitor_number c.program mon) (entry_named c.program mon e) (λ ps. arguments c m es ps) rest

abbrev pub perform_named : Site → Memory → Name → Exprs → Run
perform_named c m f es = perform_found c m (routine_named c.program c.process f) (λ ps. arguments c m es ps)

-- the loop's variable is in reach in its body
abbrev pub with_turn : Name → ℤ → Memory → Memory
with_turn i v m = with_own m (record { name = i; range = None; held = one v } ∷ m.own)

abbrev pub without_turn : Memory → Memory
without_turn m = with_own m (rest_of m.own)
  where
    rest_of : Vars → Vars
    rest_of [] = []
    rest_of (s ∷ ss) = ss

-- a loop with so many turns left, where body is the run of one turn
abbrev pub turns : (Memory → Run) → Name → Stmts → ℕ → ℤ → Memory → Run
turns body i ss zero v m = goes m
turns body i ss (suc n) v m =
    followed (body (with_turn i v m)) (λ k. turns body i ss n (v +ℤ pos 1) (without_turn k)) (λ k. goes (without_turn k)) (turns_left i (v +ℤ pos 1) n ss ∷ [])

abbrev pub turn_count : Site → ℤ → ℤ → ℕ
turn_count c low high = up_to (high -ℤ low)

-- the condition of the monitor whose text this is
abbrev pub condition_here : Site → Name → ℕ
condition_here c x = elim c.home [ of_monitor m ↦ condition_number c.program m x | of_process ↦ 0 | of_program ↦ 0 ]

abbrev pub waits_here : Site → Name → ℕ → ℕ → Memory → Run
waits_here c x limit number m = elim c.home [
  | of_monitor mon ↦ stops (waits (condition_number c.program mon x) limit number) [] (enter_again mon ∷ []) m
  | of_process ↦ goes m
  | of_program ↦ goes m
]

-- What statements come to.
abbrev mutual
  pub run : Site → Memory → Stmt → Run
  run c m (assign r e) = with_target c m r (λ t. with_value (value c m e) m (λ v. store_to c.home m t v))
  run c m (assign_entry r mon e es) = with_target c m r (λ t. enter_named c m mon e es (receive t ∷ []))
  run c m (assign_empty r x) = with_target c m r (λ t. stops (asks_empty (condition_here c x)) [] (receive t ∷ []) m)
  run c m (perform f es) = perform_named c m f es
  run c m (perform_entry mon e es) = enter_named c m mon e es []
  run c m (when e a) = with_value (value c m e) m (λ v. cond (is_true v) (run_all c m a) (goes m))
  run c m (when_else e a b) = with_value (value c m e) m (λ v. cond (is_true v) (run_all c m a) (run_all c m b))
  run c m (loop i low high ss) =
      turns (λ k. run_all c k ss) i ss (turn_count c (constant_value c.program low) (constant_value c.program high)) (constant_value c.program low) m
  run c m (exit_when e) = with_value (value c m e) m (λ v. cond (is_true v) (exits m) (goes m))
  run c m (get d r) = with_target c m r (λ t. stops (gets (device_number c.program d)) [] (receive t ∷ []) m)
  run c m (put d e) = with_value (value c m e) m (λ v. stops (puts (device_number c.program d) v) [] [] m)
  run c m (wait x limit number) = waits_here c x (count_value c.program limit) (count_value c.program number) m
  run c m (signal x) = stops (signals (condition_here c x)) [] [] m
  run c m (broadcast x) = stops (broadcasts (condition_here c x)) [] [] m
  run c m (except n) = fails (count_value c.program n) m
  run c m (assert e) = with_value (value c m e) m (λ v. cond (is_true v) (goes m) (fails 4 m))

  pub run_all : Site → Memory → Stmts → Run
  run_all c m no_stmts = goes m
  run_all c m (stmts s ss) = followed (run c m s) (λ k. run_all c k ss) (λ k. exits k) (do_all ss ∷ [])
