-- Each name that stands in a program, with what it does there, in the order of the text.
use Rattle.std.specs.Prelude.{Bool, true, false, List, [], ◌∷◌, ◌++◌, flat_map}
use Rattle.std.specs.Option.{option_map_or}
use Rattle.syntax_tree.specs.Plain.{Name}
use Rattle.syntax_tree.specs.Placed.{Constant, literal_constant, named_constant, Scalar, int, boolean, subrange, Kind, scalar, array, Var, Param, Expr, literal, truth, variable, element, call, minus, negation, paren, row, Exprs, no_exprs, exprs, Operands, no_operands, operand, Ref, whole, part, Stmt, assign, assign_entry, assign_empty, perform, perform_entry, when, when_else, loop, exit_when, get, put, wait, signal, broadcast, except, assert, Stmts, no_stmts, stmts, RoutineKind, procedure, function, Routine, Member, variable_member, condition_member, Monitor, Activation, periodic, at_event, Handler, Process, Decl, constant, device, event, routine, monitor, process, Prog}
use Rattle.syntax_tree.specs.declared.place.Place.{Place}
use Rattle.message_names.specs.declared.role.What.{What}
use Rattle.message_names.specs.declared.role.What.TheVariants as what_is
use Rattle.message_names.specs.declared.role.Wanted.{Wanted}
use Rattle.message_names.specs.declared.role.Wanted.TheVariants as wanted_is
use Rattle.message_names.specs.declared.role.Scope.{Scope}
use Rattle.message_names.specs.declared.role.Role.{Role}
use Rattle.message_names.specs.declared.role.Role.TheVariants as role_is

-- a name at its place: it declares, is used, or closes
pub record Mention : Type 0 where
  pub name : Name
  pub place : Place
  pub role : Role

abbrev pub mention : Name → Place → Role → Mention
mention name place role = record { name = name; place = place; role = role }

abbrev pub uses : Wanted → Name → Place → Mention
uses wanted name place = mention name place (role_is.Uses wanted)

-- what reaches in all of its scope
abbrev pub declares : What → Scope → Name → Place → Mention
declares what scope name place = mention name place (role_is.Declares (record { what = what; scope = scope; from = scope.begin }))

-- a name that repeats the one at the other place
abbrev pub closes : Name → Place → (opening : Place) → Mention
closes name place opening = mention name place (role_is.Closes opening)

-- ---- constants, types and expressions

abbrev pub constant_mentions : Constant Place → List Mention
constant_mentions (literal_constant p is_minus n q) = []
constant_mentions (named_constant p is_minus name q) = uses wanted_is.Constant name q ∷ []

-- where its literal or name stands
abbrev pub value_place : Constant Place → Place
value_place (literal_constant p is_minus n q) = q
value_place (named_constant p is_minus name q) = q

abbrev pub bounds_mentions : (low high : Constant Place) → List Mention
bounds_mentions low high = constant_mentions low ++ constant_mentions high

abbrev pub scalar_mentions : Scalar Place → List Mention
scalar_mentions int = []
scalar_mentions boolean = []
scalar_mentions (subrange low high) = bounds_mentions low high

abbrev pub kind_mentions : Kind Place → List Mention
kind_mentions (scalar s) = scalar_mentions s
kind_mentions (array low high s) = bounds_mentions low high ++ scalar_mentions s

abbrev mutual
  pub expr_mentions : Expr Place → List Mention
  expr_mentions (literal p n) = []
  expr_mentions (truth p b) = []
  expr_mentions (variable p name) = uses wanted_is.Value name p ∷ []
  expr_mentions (element p name i) = uses wanted_is.Value name p ∷ expr_mentions i
  expr_mentions (call p name es) = uses wanted_is.Routine name p ∷ exprs_mentions es
  expr_mentions (minus p e) = expr_mentions e
  expr_mentions (negation p e) = expr_mentions e
  expr_mentions (paren p e) = expr_mentions e
  expr_mentions (row e rs) = expr_mentions e ++ operands_mentions rs

  pub exprs_mentions : Exprs Place → List Mention
  exprs_mentions no_exprs = []
  exprs_mentions (exprs e es) = expr_mentions e ++ exprs_mentions es

  pub operands_mentions : Operands Place → List Mention
  operands_mentions no_operands = []
  operands_mentions (operand op e rs) = expr_mentions e ++ operands_mentions rs

-- what is assigned to
abbrev pub ref_mentions : Ref Place → List Mention
ref_mentions (whole p name) = uses wanted_is.Target name p ∷ []
ref_mentions (part p name i) = uses wanted_is.Target name p ∷ expr_mentions i

-- ---- statements

-- a monitor, behind the full stop one of its entries, and what it is called with
abbrev pub entry_mentions : (monitor : Name) (p : Place) (entry : Name) (q : Place) → Exprs Place → List Mention
entry_mentions mon p entry q es = uses wanted_is.Monitor mon p ∷ uses (wanted_is.Entry p) entry q ∷ exprs_mentions es

abbrev pub last_place : Place → List Mention → Place
last_place p [] = p
last_place p (m ∷ ms) = last_place m.place ms

-- a loop's variable reaches behind its bounds, up to the last name of the loop
abbrev pub loop_mentions : Name → Place → (high : Constant Place) → (inner : List Mention) → List Mention
loop_mentions name place high inner =
    declares what_is.LoopVariable (record { begin = value_place high; end = last_place place inner }) name place ∷ inner

abbrev mutual
  pub stmt_mentions : Stmt Place → List Mention
  stmt_mentions (assign r e) = ref_mentions r ++ expr_mentions e
  stmt_mentions (assign_entry r mon p entry q es) = ref_mentions r ++ entry_mentions mon p entry q es
  stmt_mentions (assign_empty r cond p) = ref_mentions r ++ uses wanted_is.Condition cond p ∷ []
  stmt_mentions (perform p name es) = uses wanted_is.Routine name p ∷ exprs_mentions es
  stmt_mentions (perform_entry p mon entry q es) = entry_mentions mon p entry q es
  stmt_mentions (when p e a) = expr_mentions e ++ stmts_mentions a
  stmt_mentions (when_else p e a b) = expr_mentions e ++ (stmts_mentions a ++ stmts_mentions b)
  stmt_mentions (loop p name q low high a) = loop_mentions name q high (bounds_mentions low high ++ stmts_mentions a)
  stmt_mentions (exit_when p e) = expr_mentions e
  stmt_mentions (get p dev q r) = uses wanted_is.Device dev q ∷ ref_mentions r
  stmt_mentions (put p dev q e) = uses wanted_is.Device dev q ∷ expr_mentions e
  stmt_mentions (wait p cond q limit number) = uses wanted_is.Condition cond q ∷ bounds_mentions limit number
  stmt_mentions (signal p cond q) = uses wanted_is.Condition cond q ∷ []
  stmt_mentions (broadcast p cond q) = uses wanted_is.Condition cond q ∷ []
  stmt_mentions (except p number) = constant_mentions number
  stmt_mentions (assert p e) = expr_mentions e

  pub stmts_mentions : Stmts Place → List Mention
  stmts_mentions no_stmts = []
  stmts_mentions (stmts s ss) = stmt_mentions s ++ stmts_mentions ss

-- ---- routines, monitors and processes

abbrev pub var_mentions : Scope → Var Place → List Mention
var_mentions scope v = declares what_is.Variable scope v.name v.place ∷ kind_mentions v.kind

abbrev pub param_mentions : Scope → Param Place → List Mention
param_mentions scope v = declares what_is.Parameter scope v.name v.place ∷ scalar_mentions v.kind

abbrev pub member_mentions : Scope → Member Place → List Mention
member_mentions scope (variable_member v) = var_mentions scope v
member_mentions scope (condition_member name place) = declares what_is.Condition scope name place ∷ []

-- the names of a routine, a monitor or a process reach behind its name, up to its closing name
abbrev pub scope_from : (place close_place : Place) → Scope
scope_from place close_place = record { begin = place; end = close_place }

-- all behind the name of a routine
abbrev pub routine_inner : Routine Place → List Mention
routine_inner r = let scope = scope_from r.place r.close_place in
    flat_map (param_mentions scope) r.params
    ++ (option_map_or scalar_mentions r.result []
    ++ (flat_map (var_mentions scope) r.vars
    ++ (stmts_mentions r.body
    ++ (option_map_or expr_mentions r.value []
    ++ closes r.close r.close_place r.place ∷ []))))

abbrev pub routine_what : (is_entry : Bool) → RoutineKind → What
routine_what true kind = what_is.Entry
routine_what false procedure = what_is.Procedure
routine_what false function = what_is.Function

abbrev pub routine_mentions : (is_entry : Bool) → Scope → Routine Place → List Mention
routine_mentions is_entry scope r = declares (routine_what is_entry r.kind) scope r.name r.place ∷ routine_inner r

abbrev pub monitor_mentions : Scope → Monitor Place → List Mention
monitor_mentions outer m = let scope = scope_from m.place m.close_place in
    declares what_is.Monitor outer m.name m.place
    ∷ (flat_map (member_mentions scope) m.members
    ++ (flat_map (routine_mentions true scope) m.entries
    ++ closes m.close m.close_place m.place ∷ []))

abbrev pub activation_mentions : Activation Place → List Mention
activation_mentions (periodic frame deadline first) =
    constant_mentions frame ++ (option_map_or constant_mentions deadline [] ++ option_map_or constant_mentions first [])
activation_mentions (at_event name place frame deadline) =
    uses wanted_is.Event name place ∷ (constant_mentions frame ++ option_map_or constant_mentions deadline [])

abbrev pub handler_mentions : Handler Place → List Mention
handler_mentions h = flat_map constant_mentions h.numbers ++ stmts_mentions h.body

abbrev pub process_mentions : Scope → Process Place → List Mention
process_mentions outer p = let scope = scope_from p.place p.close_place in
    declares what_is.Process outer p.name p.place
    ∷ (activation_mentions p.activation
    ++ (flat_map (var_mentions scope) p.vars
    ++ (flat_map (routine_mentions false scope) p.routines
    ++ (stmts_mentions p.body
    ++ (option_map_or handler_mentions p.handler []
    ++ closes p.close p.close_place p.place ∷ [])))))

-- ---- the program

-- a constant of the program reaches only behind its value
abbrev pub constant_declares : Scope → Name → Place → (from : Place) → Mention
constant_declares scope name place from = mention name place (role_is.Declares (record { what = what_is.Constant; scope = scope; from = from }))

abbrev pub decl_mentions : Scope → Decl Place → List Mention
decl_mentions scope (constant name place c) = constant_declares scope name place (value_place c) ∷ constant_mentions c
decl_mentions scope (device name place is_out) = declares what_is.Device scope name place ∷ []
decl_mentions scope (event name place) = declares what_is.Event scope name place ∷ []
decl_mentions scope (routine r) = routine_mentions false scope r
decl_mentions scope (monitor m) = monitor_mentions scope m
decl_mentions scope (process p) = process_mentions scope p

-- before the first place of a text
abbrev pub before_all : Place
before_all = record { line = 0; col = 0 }

-- the program's own name and those of its declarations reach everywhere
abbrev pub mentions : Prog Place → List Mention
mentions g = let scope = scope_from before_all g.close_place in
    declares what_is.Program scope g.name g.place
    ∷ (flat_map (decl_mentions scope) g.decls ++ closes g.close g.close_place g.place ∷ [])
