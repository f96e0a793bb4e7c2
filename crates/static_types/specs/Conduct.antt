-- What may stand where: the rules for calls, exits, waits and signals, and for the direction of
-- devices.
use Rattle.std.specs.Prelude.{Bool, true, false, not, ◌||◌, Option, Some, None, if◌then◌else◌}
use Rattle.syntax_tree.specs.Placed.{Expr, literal, truth, variable, element, call, minus, negation, paren, row, Exprs, no_exprs, exprs, Operands, no_operands, operand, Ref, whole, part, Stmt, assign, assign_entry, assign_empty, perform, perform_entry, when, when_else, loop, exit_when, get, put, wait, signal, broadcast, except, assert, RoutineKind, procedure, function}
use Rattle.syntax_tree.specs.declared.place.Place.{Place}
use Rattle.syntax_tree.specs.Parts.{same_place}
use Rattle.static_declarations.specs.declared.home.StmtContext.{StmtContext}
use Rattle.static_declarations.specs.declared.home.StmtContext.TheVariants as home_is
use Rattle.static_declarations.specs.Things.{Thing, device_thing, routine_thing, variable_thing}
use Rattle.static_declarations.specs.declared.home.Where.{Where}
use Rattle.static_types.specs.Sorts.{Named}
use Rattle.static_declarations.specs.Parts.{Part, statement, answer, stmt_place}

abbrev pub is_function_kind : RoutineKind → Bool
is_function_kind procedure = false
is_function_kind function = true

-- a function, be it an entry or not
abbrev pub is_function : Option Thing → Bool
is_function (Some (routine_thing is_entry r)) = is_function_kind r.kind
is_function _ = false

-- a procedure, be it an entry or not
abbrev pub is_procedure : Option Thing → Bool
is_procedure (Some (routine_thing is_entry r)) = not (is_function_kind r.kind)
is_procedure _ = false

-- a routine that an expression may not call: a procedure, or an entry by its bare name
abbrev pub is_barred : Option Thing → Bool
is_barred (Some (routine_thing is_entry r)) = is_entry || not (is_function_kind r.kind)
is_barred _ = false

abbrev mutual
  -- a procedure, or an entry by its bare name, is called in the expression
  pub strays : Named → Expr Place → Bool
  strays named (literal p n) = false
  strays named (truth p b) = false
  strays named (variable p name) = false
  strays named (element p name i) = strays named i
  strays named (call p name es) = is_barred (named p) || exprs_stray named es
  strays named (minus p e) = strays named e
  strays named (negation p e) = strays named e
  strays named (paren p e) = strays named e
  strays named (row e rs) = strays named e || operands_stray named rs

  pub exprs_stray : Named → Exprs Place → Bool
  exprs_stray named no_exprs = false
  exprs_stray named (exprs e es) = strays named e || exprs_stray named es

  pub operands_stray : Named → Operands Place → Bool
  operands_stray named no_operands = false
  operands_stray named (operand op e rs) = strays named e || operands_stray named rs

abbrev pub ref_strays : Named → Ref Place → Bool
ref_strays named (whole p name) = false
ref_strays named (part p name i) = strays named i

abbrev pub is_at : Place → Option Place → Bool
is_at place None = false
is_at place (Some p) = same_place p place

-- the function, if it stands in one that is no entry, assigns to a variable that is not its own
abbrev pub is_foreign : StmtContext → Option Thing → Bool
is_foreign (home_is.Function own) (Some (variable_thing owner shape)) = not (is_at own owner)
is_foreign _ _ = false

abbrev pub target_place : Ref Place → Place
target_place (whole p name) = p
target_place (part p name i) = p

abbrev pub target_strays : Named → StmtContext → Ref Place → Bool
target_strays named home r = is_foreign home (named (target_place r)) || ref_strays named r

abbrev pub in_entry : StmtContext → Bool
in_entry home_is.Free = false
in_entry home_is.Entry = true
in_entry (home_is.Function own) = false

abbrev pub in_function : StmtContext → Bool
in_function home_is.Free = false
in_function home_is.Entry = false
in_function (home_is.Function own) = true

-- neither an entry nor a function may call entries and procedures
abbrev pub calls_nothing : StmtContext → Bool
calls_nothing home = in_entry home || in_function home

-- the statement, or an expression of it, stands where it may not; its inner statements are left
-- aside
abbrev pub stmt_strays : Named → Where → Stmt Place → Bool
stmt_strays named here (assign r e) = target_strays named here.home r || strays named e
stmt_strays named here (assign_entry r mon p entry q es) = calls_nothing here.home || (is_procedure (named q) || (target_strays named here.home r || exprs_stray named es))
stmt_strays named here (assign_empty r cond p) = not (in_entry here.home) || target_strays named here.home r
stmt_strays named here (perform p name es) = calls_nothing here.home || (is_function (named p) || exprs_stray named es)
stmt_strays named here (perform_entry p mon entry q es) = calls_nothing here.home || (is_function (named q) || exprs_stray named es)
stmt_strays named here (when p e a) = strays named e
stmt_strays named here (when_else p e a b) = strays named e
stmt_strays named here (loop p name q low high a) = false
stmt_strays named here (exit_when p e) = not here.in_loop || strays named e
stmt_strays named here (get p dev q r) = in_function here.home || target_strays named here.home r
stmt_strays named here (put p dev q e) = in_function here.home || strays named e
stmt_strays named here (wait p cond q limit number) = not (in_entry here.home)
stmt_strays named here (signal p cond q) = not (in_entry here.home)
stmt_strays named here (broadcast p cond q) = not (in_entry here.home)
stmt_strays named here (except p number) = false
stmt_strays named here (assert p e) = strays named e

-- a statement, or what a result calls, stands where it may not: at the statement, or at the
-- function's name
abbrev pub misplaced : Named → Part → Option Place
misplaced named (statement here s) = if stmt_strays named here s then Some (stmt_place s) else None
misplaced named (answer name s e) = if strays named e then Some name else None

abbrev pub is_device : Bool → Option Thing → Bool
is_device true (Some (device_thing is_out)) = is_out
is_device false (Some (device_thing is_out)) = not is_out
is_device _ _ = false

-- a get from an out device, or a put to an in device
abbrev pub misdirected : Named → Part → Option Place
misdirected named (statement here (get p dev q r)) = if is_device true (named q) then Some p else None
misdirected named (statement here (put p dev q e)) = if is_device false (named q) then Some p else None
misdirected named _ = None
