-- What is wrong with where a statement or a result stands, or with the direction of its device: the
-- first that is, in the order of the text, and what stands inside before what is around it.
use Rattle.std.specs.Prelude.{ℕ, Bool, true, false, ◌==◌, Option, Some, None, if◌then◌else◌}
use Rattle.std.specs.Option.{option_or}
use Rattle.syntax_tree.specs.Plain.{Name}
use Rattle.syntax_tree.specs.Placed.{Expr, literal, truth, variable, element, call, minus, negation, paren, row, Exprs, no_exprs, exprs, Operands, no_operands, operand, Ref, whole, part, Stmt, assign, assign_entry, assign_empty, perform, perform_entry, when, when_else, exit_when, get, put, wait, signal, broadcast, assert}
use Rattle.syntax_tree.specs.declared.place.Place.{Place}
use Rattle.static_declarations.specs.declared.home.StmtContext.{StmtContext}
use Rattle.static_declarations.specs.declared.home.StmtContext.TheVariants as home_is
use Rattle.static_declarations.specs.declared.home.Where.{Where}
use Rattle.static_declarations.specs.Things.{Thing, routine_thing}
use Rattle.static_declarations.specs.Parts.{Part, statement, answer}
use Rattle.static_types.specs.Sorts.{Named}
use Rattle.static_types.specs.Conduct.{is_function, is_procedure, is_foreign, in_entry, is_device}
use Rattle.message_conduct.specs.declared.stray.Word.{Word}
use Rattle.message_conduct.specs.declared.stray.Word.TheVariants as word_is

-- what a function that is no entry may not do: call an entry or a procedure, have a `get` or a
-- `put`, and change the variable of this name, which is not its own
pub data Deed : Type 0 where
  calls_entry : Deed
  calls_procedure : Deed
  moves : Deed
  changes : Name → Deed

-- what is wrong; an entry is named with its monitor where it is called so
pub data Fault : Type 0 where
  -- what entries alone have, by its word
  outside_entry : Word → Fault
  -- an entry or a procedure is called inside an entry
  entry_inside : Fault
  procedure_inside : Fault
  -- a function that is no entry, by the place of its name, and what it does
  by_function : Place → Deed → Fault
  -- a function is called as a statement
  as_statement : (monitor : Option Name) → (name : Name) → Fault
  -- a value is asked of a procedure
  no_value : (monitor : Option Name) → (name : Name) → Fault
  -- an exit outside a loop
  outside_loop : Fault
  -- a get from an out device, and a put to an in device
  out_device : Name → Fault
  in_device : Name → Fault

-- ---- what is wrong with a call, or with what stands in a routine of that kind

-- entries alone have it
abbrev pub word_fault : StmtContext → Word → Option Fault
word_fault home word = if in_entry home then None else Some (outside_entry word)

-- a function that is no entry does it
abbrev pub function_fault : StmtContext → Deed → Option Fault
function_fault home_is.Free deed = None
function_fault home_is.Entry deed = None
function_fault (home_is.Function own) deed = Some (by_function own deed)

-- an entry is called inside an entry
abbrev pub entry_fault : StmtContext → Option Fault
entry_fault home = if in_entry home then Some entry_inside else None

-- a procedure is called inside an entry
abbrev pub procedure_fault : StmtContext → Option Fault
procedure_fault home = if in_entry home then Some procedure_inside else None

-- a function is called as a statement
abbrev pub statement_fault : (monitor : Option Name) → (name : Name) → Option Thing → Option Fault
statement_fault monitor name thing = if is_function thing then Some (as_statement monitor name) else None

-- a value is asked of a procedure
abbrev pub value_fault : (monitor : Option Name) → (name : Name) → Option Thing → Option Fault
value_fault monitor name thing = if is_procedure thing then Some (no_value monitor name) else None

abbrev pub is_entry : Option Thing → Bool
is_entry (Some (routine_thing entry r)) = entry
is_entry _ = false

-- a call in an expression: of a procedure, or of an entry by its bare name, which is in reach only
-- inside the entries of its monitor
abbrev pub term_fault : Name → Option Thing → Option Fault
term_fault name thing = option_or (value_fault None name thing) (if is_entry thing then Some entry_inside else None)

-- a statement that calls a routine by its bare name
abbrev pub call_fault : StmtContext → Name → Option Thing → Option Fault
call_fault home name thing =
    option_or (if is_entry thing then entry_fault home else None)
    (option_or (statement_fault None name thing)
    (option_or (procedure_fault home)
    (function_fault home calls_procedure)))

-- a statement that calls an entry of a monitor
abbrev pub entry_call_fault : StmtContext → (monitor name : Name) → Option Thing → Option Fault
entry_call_fault home monitor name thing =
    option_or (entry_fault home)
    (option_or (statement_fault (Some monitor) name thing)
    (function_fault home calls_entry))

-- an assignment of what an entry of a monitor answers
abbrev pub entry_value_fault : StmtContext → (monitor name : Name) → Option Thing → Option Fault
entry_value_fault home monitor name thing =
    option_or (entry_fault home)
    (option_or (value_fault (Some monitor) name thing)
    (function_fault home calls_entry))

-- an exit outside a loop
abbrev pub exit_fault : Where → Option Fault
exit_fault here = if here.in_loop then None else Some outside_loop

-- ---- the first that is wrong in an expression, a target, a statement

abbrev mutual
  pub expr_fault : Named → Expr Place → Option Fault
  expr_fault named (literal p n) = None
  expr_fault named (truth p b) = None
  expr_fault named (variable p name) = None
  expr_fault named (element p name i) = expr_fault named i
  expr_fault named (call p name es) = option_or (exprs_fault named es) (term_fault name (named p))
  expr_fault named (minus p e) = expr_fault named e
  expr_fault named (negation p e) = expr_fault named e
  expr_fault named (paren p e) = expr_fault named e
  expr_fault named (row e rs) = option_or (expr_fault named e) (operands_fault named rs)

  pub exprs_fault : Named → Exprs Place → Option Fault
  exprs_fault named no_exprs = None
  exprs_fault named (exprs e es) = option_or (expr_fault named e) (exprs_fault named es)

  pub operands_fault : Named → Operands Place → Option Fault
  operands_fault named no_operands = None
  operands_fault named (operand op e rs) = option_or (expr_fault named e) (operands_fault named rs)

-- a function that is no entry changes a variable that is not its own
abbrev pub change_fault : StmtContext → Name → Option Thing → Option Fault
change_fault home name thing = if is_foreign home thing then function_fault home (changes name) else None

-- what is assigned to: its index, and then the variable
abbrev pub target_fault : Named → StmtContext → Ref Place → Option Fault
target_fault named home (whole p name) = change_fault home name (named p)
target_fault named home (part p name i) = option_or (expr_fault named i) (change_fault home name (named p))

-- what stands in a statement: its target, and then its expressions
abbrev pub inner_fault : Named → StmtContext → Stmt Place → Option Fault
inner_fault named home (assign r e) = option_or (target_fault named home r) (expr_fault named e)
inner_fault named home (assign_entry r mon p entry q es) = option_or (target_fault named home r) (exprs_fault named es)
inner_fault named home (assign_empty r cond p) = target_fault named home r
inner_fault named home (perform p name es) = exprs_fault named es
inner_fault named home (perform_entry p mon entry q es) = exprs_fault named es
inner_fault named home (when p e a) = expr_fault named e
inner_fault named home (when_else p e a b) = expr_fault named e
inner_fault named home (exit_when p e) = expr_fault named e
inner_fault named home (get p dev q r) = target_fault named home r
inner_fault named home (put p dev q e) = expr_fault named e
inner_fault named home (assert p e) = expr_fault named e
inner_fault named home _ = None

-- the statement itself, by where it stands
abbrev pub outer_fault : Named → Where → Stmt Place → Option Fault
outer_fault named here (assign_entry r mon p entry q es) = entry_value_fault here.home mon entry (named q)
outer_fault named here (assign_empty r cond p) = word_fault here.home word_is.Empty
outer_fault named here (perform p name es) = call_fault here.home name (named p)
outer_fault named here (perform_entry p mon entry q es) = entry_call_fault here.home mon entry (named q)
outer_fault named here (exit_when p e) = exit_fault here
outer_fault named here (get p dev q r) = function_fault here.home moves
outer_fault named here (put p dev q e) = function_fault here.home moves
outer_fault named here (wait p cond q limit number) = word_fault here.home word_is.Wait
outer_fault named here (signal p cond q) = word_fault here.home word_is.Signal
outer_fault named here (broadcast p cond q) = word_fault here.home word_is.Broadcast
outer_fault named here _ = None

-- a statement, its inner statements aside
abbrev pub stmt_fault : Named → Where → Stmt Place → Option Fault
stmt_fault named here s = option_or (inner_fault named here.home s) (outer_fault named here s)

-- ---- by rule

-- where a part stands
abbrev pub conduct_fault : Named → Part → Option Fault
conduct_fault named (statement here s) = stmt_fault named here s
conduct_fault named (answer name s e) = expr_fault named e

-- the direction of a device
abbrev pub direction_fault : Named → Part → Option Fault
direction_fault named (statement here (get p dev q r)) = if is_device true (named q) then Some (out_device dev) else None
direction_fault named (statement here (put p dev q e)) = if is_device false (named q) then Some (in_device dev) else None
direction_fault named _ = None

-- the rule with that number
abbrev pub part_fault : Named → (number : ℕ) → Part → Option Fault
part_fault named number x = if number == 34 then conduct_fault named x else (if number == 38 then direction_fault named x else None)
