-- The names of a program: each name that stands in the tree, with what it does there. It declares,
-- it closes, or it is used. Each definition gives the names of its part, and then `more`. Their
-- order has no meaning: each has its place.
use Rattle.std.specs.Prelude.{Bool, false, ◌||◌, List, [], ◌∷◌, ◌++◌, map, Option, Some, None, is_some, if◌then◌else◌}
use Rattle.syntax_tree.specs.Plain.{Name}
use Rattle.syntax_tree.specs.Placed.{Constant, literal_constant, named_constant, Scalar, int, boolean, subrange, Kind, scalar, array, Var, Param, Expr, literal, truth, variable, element, call, minus, negation, paren, row, Exprs, no_exprs, exprs, Operands, no_operands, operand, Ref, whole, part, Stmt, assign, assign_entry, assign_empty, perform, perform_entry, when, when_else, loop, exit_when, get, put, wait, signal, broadcast, except, assert, Stmts, no_stmts, stmts, Routine, Member, variable_member, condition_member, Monitor, Activation, periodic, at_event, Handler, Process, Decl, constant, device, event, routine, monitor, process, Prog}
use Rattle.syntax_tree.specs.declared.place.Place.{Place}
use Rattle.static_names.specs.declared.kind.Declared.{Declared}
use Rattle.static_names.specs.declared.kind.Kind.TheVariants as kind_is
use Rattle.static_names.specs.declared.kind.NameUse.{NameUse}
use Rattle.static_names.specs.declared.kind.NameUse.TheVariants as want_is
use Rattle.syntax_tree.specs.Parts.{same_place}
use Rattle.static_names.specs.Reach.{Names, Reach, first, or_else, Site, inside, inside_monitor, through}

-- a name that is declared, and whether the same name is in reach there already; a name that closes,
-- and the name that it has to repeat; or a name that is used, with what it is used as and what it
-- means there
pub data Occurrence : Type 0 where
  declares : Name → Place → (taken : Bool) → Occurrence
  closes : Name → Place → (opening : Name) → Occurrence
  used : Name → Place → NameUse → (means : Option Declared) → Occurrence

-- where a name that is used at the place is declared, as far as these names tell; a later one
-- counts before an earlier one
abbrev pub declared_at : List Occurrence → Place → Option Place
declared_at [] p = None
declared_at (declares name q taken ∷ os) p = declared_at os p
declared_at (closes name q opening ∷ os) p = declared_at os p
declared_at (used name q want None ∷ os) p = declared_at os p
declared_at (used name q want (Some d) ∷ os) p = or_else (declared_at os p) (if same_place q p then Some d.place else None)

-- a name that is used where it stands
abbrev pub uses : Site → Name → Place → NameUse → Occurrence
uses here name place want = used name place want (here.means name)

-- the names of one scope, those before it in the scope being `earlier`: each is taken where it is
-- in reach from outside, or is declared earlier in the scope
abbrev pub declarations : (outside : Reach) → (earlier : Names) → Names → List Occurrence → List Occurrence
declarations outside earlier [] more = more
declarations outside earlier (d ∷ ds) more = declares d.0 d.1.place (is_some (first earlier d.0) || is_some (outside d.0)) ∷ declarations outside (earlier ++ d ∷ []) ds more

abbrev pub constant_names : Site → Constant Place → List Occurrence → List Occurrence
constant_names here (literal_constant p is_minus n q) more = more
constant_names here (named_constant p is_minus name q) more = uses here name q want_is.Constant ∷ more

abbrev pub constants_names : Site → List (Constant Place) → List Occurrence → List Occurrence
constants_names here [] more = more
constants_names here (c ∷ cs) more = constant_names here c (constants_names here cs more)

abbrev pub scalar_names : Site → Scalar Place → List Occurrence → List Occurrence
scalar_names here int more = more
scalar_names here boolean more = more
scalar_names here (subrange low high) more = constant_names here low (constant_names here high more)

abbrev pub kind_names : Site → Kind Place → List Occurrence → List Occurrence
kind_names here (scalar s) more = scalar_names here s more
kind_names here (array low high s) more = constant_names here low (constant_names here high (scalar_names here s more))

-- ---- expressions and statements

abbrev mutual
  pub expr_names : Site → Expr Place → List Occurrence → List Occurrence
  expr_names here (literal p n) more = more
  expr_names here (truth p b) more = more
  expr_names here (variable p name) more = uses here name p want_is.Value ∷ more
  expr_names here (element p name i) more = uses here name p want_is.Value ∷ expr_names here i more
  expr_names here (call p name es) more = uses here name p want_is.Routine ∷ exprs_names here es more
  expr_names here (minus p e) more = expr_names here e more
  expr_names here (negation p e) more = expr_names here e more
  expr_names here (paren p e) more = expr_names here e more
  expr_names here (row e rs) more = expr_names here e (operands_names here rs more)

  pub exprs_names : Site → Exprs Place → List Occurrence → List Occurrence
  exprs_names here no_exprs more = more
  exprs_names here (exprs e es) more = expr_names here e (exprs_names here es more)

  pub operands_names : Site → Operands Place → List Occurrence → List Occurrence
  operands_names here no_operands more = more
  operands_names here (operand op e rs) more = expr_names here e (operands_names here rs more)

-- what is assigned to
abbrev pub ref_names : Site → Ref Place → List Occurrence → List Occurrence
ref_names here (whole p name) more = uses here name p want_is.Target ∷ more
ref_names here (part p name i) more = uses here name p want_is.Target ∷ expr_names here i more

-- a monitor, and behind the full stop one of its entries
abbrev pub entry_names : Site → Name → Place → Name → Place → List Occurrence → List Occurrence
entry_names here mon p entry q more = uses here mon p want_is.Monitor ∷ used entry q want_is.Entry (through here mon entry) ∷ more

-- a loop variable
abbrev pub loop_name : Name → Place → Name × Declared
loop_name name place = (name, record { place = place; kind = kind_is.LoopVariable })

abbrev mutual
  pub stmt_names : Site → Stmt Place → List Occurrence → List Occurrence
  stmt_names here (assign r e) more = ref_names here r (expr_names here e more)
  stmt_names here (assign_entry r mon p entry q es) more = ref_names here r (entry_names here mon p entry q (exprs_names here es more))
  stmt_names here (assign_empty r cond p) more = ref_names here r (uses here cond p want_is.Condition ∷ more)
  stmt_names here (perform p name es) more = uses here name p want_is.Routine ∷ exprs_names here es more
  stmt_names here (perform_entry p mon entry q es) more = entry_names here mon p entry q (exprs_names here es more)
  stmt_names here (when p e a) more = expr_names here e (stmts_names here a more)
  stmt_names here (when_else p e a b) more = expr_names here e (stmts_names here a (stmts_names here b more))
  stmt_names here (loop p name q low high a) more = declarations here.means [] (loop_name name q ∷ []) (constant_names here low (constant_names here high (stmts_names (inside (loop_name name q ∷ []) here) a more)))
  stmt_names here (exit_when p e) more = expr_names here e more
  stmt_names here (get p dev q r) more = uses here dev q want_is.Device ∷ ref_names here r more
  stmt_names here (put p dev q e) more = uses here dev q want_is.Device ∷ expr_names here e more
  stmt_names here (wait p cond q limit number) more = uses here cond q want_is.Condition ∷ constant_names here limit (constant_names here number more)
  stmt_names here (signal p cond q) more = uses here cond q want_is.Condition ∷ more
  stmt_names here (broadcast p cond q) more = uses here cond q want_is.Condition ∷ more
  stmt_names here (except p number) more = constant_names here number more
  stmt_names here (assert p e) more = expr_names here e more

  pub stmts_names : Site → Stmts Place → List Occurrence → List Occurrence
  stmts_names here no_stmts more = more
  stmts_names here (stmts s ss) more = stmt_names here s (stmts_names here ss more)

-- ---- routines, monitors and processes

abbrev pub var_name : Var Place → Name × Declared
var_name v = (v.name, record { place = v.place; kind = kind_is.Variable })

abbrev pub param_name : Param Place → Name × Declared
param_name v = (v.name, record { place = v.place; kind = kind_is.Variable })

abbrev pub routine_name : Routine Place → Name × Declared
routine_name r = (r.name, record { place = r.place; kind = kind_is.Routine })

abbrev pub entry_name : Routine Place → Name × Declared
entry_name r = (r.name, record { place = r.place; kind = kind_is.Entry })

abbrev pub member_name : Member Place → Name × Declared
member_name (variable_member v) = var_name v
member_name (condition_member name place) = (name, record { place = place; kind = kind_is.Condition })

abbrev pub vars_names : Site → List (Var Place) → List Occurrence → List Occurrence
vars_names here [] more = more
vars_names here (v ∷ vs) more = kind_names here v.kind (vars_names here vs more)

abbrev pub params_names : Site → List (Param Place) → List Occurrence → List Occurrence
params_names here [] more = more
params_names here (v ∷ vs) more = scalar_names here v.kind (params_names here vs more)

abbrev pub member_inner : Site → Member Place → List Occurrence → List Occurrence
member_inner here (variable_member v) more = kind_names here v.kind more
member_inner here (condition_member name p) more = more

abbrev pub members_names : Site → List (Member Place) → List Occurrence → List Occurrence
members_names here [] more = more
members_names here (m ∷ ms) more = member_inner here m (members_names here ms more)

abbrev pub optional_names : {X : Type 0} → (X → List Occurrence → List Occurrence) → Option X → List Occurrence → List Occurrence
optional_names names None more = more
optional_names names (Some x) more = names x more

-- the parameters and variables of a routine are one scope, in which all but its name stands
abbrev pub routine_scope : Routine Place → Names
routine_scope r = map param_name r.params ++ map var_name r.vars

-- all but the declarations of its scope
abbrev pub routine_inner : Site → Routine Place → List Occurrence → List Occurrence
routine_inner here r more = params_names here r.params (optional_names (scalar_names here) r.result (vars_names here r.vars (stmts_names here r.body (optional_names (expr_names here) r.value (closes r.close r.close_place r.name ∷ more)))))

abbrev pub routine_names : Site → Routine Place → List Occurrence → List Occurrence
routine_names outer r more = declarations outer.means [] (routine_scope r) (routine_inner (inside (routine_scope r) outer) r more)

abbrev pub routines_names : Site → List (Routine Place) → List Occurrence → List Occurrence
routines_names outer [] more = more
routines_names outer (r ∷ rs) more = routine_names outer r (routines_names outer rs more)

-- the variables, conditions and entries of a monitor are one scope
abbrev pub monitor_scope : Monitor Place → Names
monitor_scope m = map member_name m.members ++ map entry_name m.entries

abbrev pub monitor_inner : Site → Monitor Place → List Occurrence → List Occurrence
monitor_inner here m more = members_names here m.members (routines_names here m.entries (closes m.close m.close_place m.name ∷ more))

abbrev pub monitor_names : Site → Monitor Place → List Occurrence → List Occurrence
monitor_names outer m more = declarations outer.means [] (monitor_scope m) (monitor_inner (inside_monitor m.place (monitor_scope m) outer) m more)

abbrev pub activation_names : Site → Activation Place → List Occurrence → List Occurrence
activation_names here (periodic frame deadline start) more =
    constant_names here frame (optional_names (constant_names here) deadline (optional_names (constant_names here) start more))
activation_names here (at_event name place frame deadline) more =
    uses here name place want_is.Event ∷ constant_names here frame (optional_names (constant_names here) deadline more)

abbrev pub handler_names : Site → Handler Place → List Occurrence → List Occurrence
handler_names here h more = constants_names here h.numbers (stmts_names here h.body more)

-- the variables and routines of a process are one scope, in which its header too stands
abbrev pub process_scope : Process Place → Names
process_scope p = map var_name p.vars ++ map routine_name p.routines

abbrev pub process_inner : Site → Process Place → List Occurrence → List Occurrence
process_inner here p more = activation_names here p.activation (vars_names here p.vars (routines_names here p.routines (stmts_names here p.body (optional_names (handler_names here) p.handler (closes p.close p.close_place p.name ∷ more)))))

abbrev pub process_names : Site → Process Place → List Occurrence → List Occurrence
process_names outer p more = declarations outer.means [] (process_scope p) (process_inner (inside (process_scope p) outer) p more)

-- ---- the program

abbrev pub decl_name : Decl Place → Name × Declared
decl_name (constant name place c) = (name, record { place = place; kind = kind_is.Constant })
decl_name (device name place is_out) = (name, record { place = place; kind = kind_is.Device })
decl_name (event name place) = (name, record { place = place; kind = kind_is.Event })
decl_name (routine r) = routine_name r
decl_name (monitor m) = (m.name, record { place = m.place; kind = kind_is.Monitor })
decl_name (process p) = (p.name, record { place = p.place; kind = kind_is.Process })

-- the declarations that reach also before they stand: all but constants
abbrev pub others : List (Decl Place) → Names
others [] = []
others (constant name place c ∷ ds) = others ds
others (device name place is_out ∷ ds) = decl_name (device name place is_out) ∷ others ds
others (event name place ∷ ds) = decl_name (event name place) ∷ others ds
others (routine r ∷ ds) = decl_name (routine r) ∷ others ds
others (monitor m ∷ ds) = decl_name (monitor m) ∷ others ds
others (process p ∷ ds) = decl_name (process p) ∷ others ds

-- the entries of the monitor whose name stands at the place
abbrev pub entries_at : List (Decl Place) → Place → Names
entries_at [] place = []
entries_at (constant name p c ∷ ds) place = entries_at ds place
entries_at (device name p is_out ∷ ds) place = entries_at ds place
entries_at (event name p ∷ ds) place = entries_at ds place
entries_at (routine r ∷ ds) place = entries_at ds place
entries_at (monitor m ∷ ds) place = if same_place place m.place then map entry_name m.entries ++ entries_at ds place else entries_at ds place
entries_at (process p ∷ ds) place = entries_at ds place

-- the names in a declaration, its own aside
abbrev pub inner_names : Site → Decl Place → List Occurrence → List Occurrence
inner_names here (constant name place c) more = constant_names here c more
inner_names here (device name place is_out) more = more
inner_names here (event name place) more = more
inner_names here (routine r) more = routine_names here r more
inner_names here (monitor m) more = monitor_names here m more
inner_names here (process p) more = process_names here p more

-- the names of declarations, those before them being `earlier`. In each reach all names that stand
-- before it, and of those from it on all but constants.
abbrev pub decls_names : (members : Place → Reach) → (earlier : Names) → List (Decl Place) → List Occurrence → List Occurrence
decls_names members earlier [] more = more
decls_names members earlier (d ∷ ds) more = let here : Site = record { means = first (earlier ++ others (d ∷ ds)); members = members } in
    declares (decl_name d).0 (decl_name d).1.place (is_some (first earlier (decl_name d).0)) ∷ inner_names here d (decls_names members (earlier ++ decl_name d ∷ []) ds more)

abbrev pub program_name : Prog Place → Name × Declared
program_name g = (g.name, record { place = g.place; kind = kind_is.Program })

-- the names of a program. Its own comes before all others.
abbrev pub names : Prog Place → List Occurrence
names g = declares g.name g.place false ∷ decls_names (λ place. first (entries_at g.decls place)) (program_name g ∷ []) g.decls (closes g.close g.close_place g.name ∷ [])
