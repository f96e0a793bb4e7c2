-- The names of declarations and programs stand where the names among their tokens do.
use Rattle.std.proofs.Common.{◌≤◌, ◌≡◌, ℕ, ◌+◌, List, [], ◌∷◌, ◌++◌, map, Option, Some, None, arith, is_some, false, true, Bool}
use Rattle.syntax_tree.specs.Placed.{Constant, Scalar, int, boolean, subrange, Kind, scalar, array, Var, Param, Expr, RoutineKind, procedure, function, Routine, Member, variable_member, condition_member, Monitor, Activation, periodic, at_event, Handler, Process, Decl, constant, device, event, routine, monitor, process, Prog}
use Rattle.syntax_tree.specs.declared.place.Place.{Place}
use Rattle.syntax.specs.Words as w
use Rattle.syntax.specs.Words.{Word, named, Tok}
use Rattle.syntax.specs.ExprGrammar.{a, ◌▷◌, Each, Listed, SomeListed, IsConstant}
use Rattle.syntax.specs.Grammar.{MOST_LEVELS, IsScalar, IsKind, IsVar, IsParam, kind_word, IsResult, IsValue, IsRoutine, IsMember, IsEntry, IsMonitor, IsDeadline, IsFirst, IsActivation, IsHandler, IsProcess, way_word, IsDecl, IsProg}
use Rattle.static_names.specs.declared.kind.NameUse.TheVariants as want_is
use Rattle.syntax_tree.specs.Parts.{same_place}
use Rattle.static_names.specs.Reach.{Names, Reach, first, Site, inside, inside_monitor}
use Rattle.static_names.specs.Occurrences.{Occurrence, declares, closes, uses, declarations, constant_names, constants_names, scalar_names, kind_names, expr_names, var_name, param_name, routine_name, entry_name, member_name, vars_names, params_names, member_inner, members_names, optional_names, routine_scope, routine_inner, routine_names, routines_names, monitor_scope, monitor_inner, monitor_names, activation_names, handler_names, process_scope, process_inner, process_names, decl_name, others, entries_at, inner_names, decls_names, program_name, names}
use Rattle.wellformed_law.proofs.WellformedNamesCounts.{one, standing}
use Rattle.wellformed_law.proofs.Parts.{named_at, Keeps, Owes, ◌▸◌, owe_first, owe_next, owe_both, settle, none, owe_none, quiet, name, owed}
use Rattle.wellformed_law.proofs.ExprParts.{constant-keeps, expr-keeps, stmts-keep}

-- ---- scopes

-- how many of these declarations stand at the place
abbrev pub declared : Place → Names → ℕ
declared z [] = 0
declared z (d ∷ ds) = one (same_place d.1.place z) + declared z ds

declared-append : (z : Place) (ds es : Names) → declared z (ds ++ es) ≡ declared z ds + declared z es
declared-append z [] es = omega arith
declared-append z (d ∷ ds) es = let e = declared-append z ds es in omega arith

declarations-stand : (z : Place) (outside : Reach) (earlier ds : Names) (more : List Occurrence) → standing z (declarations outside earlier ds more) ≡ declared z ds + standing z more
declarations-stand z outside earlier [] more = omega arith
declarations-stand z outside earlier (d ∷ ds) more = let e = declarations-stand z outside (earlier ++ d ∷ []) ds more in omega arith

-- what the two parts of a scope owe is given by its declarations
scoped : {z : Place} {n : ℕ} {R : List (Tok Place) → List (Tok Place) → Type 0} {f : List Occurrence → List Occurrence} (outside : Reach) (ds es : Names)
    → Owes z (n + (declared z ds + declared z es)) R f → Owes z n R (λ more. declarations outside [] (ds ++ es) (f more))
scoped {z} {f = f} outside ds es k = record {
  counts = λ ts us more t. let x = k.counts ts us more t in let y = declarations-stand z outside [] (ds ++ es) (f more) in let e = declared-append z ds es in omega arith;
}

-- ---- types, variables and parameters

scalar-keeps : {z : Place} (here : Site) (s : Scalar Place) → Keeps z (IsScalar s) (scalar_names here s)
scalar-keeps here int = quiet w.INT
scalar-keeps here boolean = quiet w.BOOLEAN
scalar-keeps here (subrange low high) = constant-keeps here low ▸ quiet w.RANGE ▸ constant-keeps here high

kind-keeps : {z : Place} (here : Site) (k : Kind Place) → Keeps z (IsKind k) (kind_names here k)
kind-keeps here (scalar s) = scalar-keeps here s
kind-keeps here (array low high s) = quiet w.ARRAY ▸ constant-keeps here low ▸ quiet w.RANGE ▸ constant-keeps here high ▸ quiet w.OF ▸ scalar-keeps here s

var-owes : {z : Place} (here : Site) (v : Var Place) → Owes z (one (same_place v.place z)) (IsVar v) (kind_names here v.kind)
var-owes here v = owe_next (quiet w.VAR) (owe_first (owed v.name v.place) (quiet w.COLON ▸ kind-keeps here v.kind))

param-owes : {z : Place} (here : Site) (v : Param Place) → Owes z (one (same_place v.place z)) (IsParam v) (scalar_names here v.kind)
param-owes here v = owe_first (owed v.name v.place) (quiet w.COLON ▸ scalar-keeps here v.kind)

vars-owe : {z : Place} (here : Site) (vs : List (Var Place)) → Owes z (declared z (map var_name vs)) (Each IsVar vs) (vars_names here vs)
vars-owe here [] = owe_none
vars-owe here (v ∷ vs) = owe_both (var-owes here v) (vars-owe here vs)

more-params-owe : {z : Place} (here : Site) (vs : List (Param Place)) → Owes z (declared z (map param_name vs)) (Each (λ v. a w.COMMA ▷ IsParam v) vs) (params_names here vs)
more-params-owe here [] = owe_none
more-params-owe here (v ∷ vs) = owe_both (owe_next (quiet w.COMMA) (param-owes here v)) (more-params-owe here vs)

params-owe : {z : Place} (here : Site) (vs : List (Param Place)) → Owes z (declared z (map param_name vs)) (SomeListed IsParam vs) (params_names here vs)
params-owe here [] = owe_none
params-owe here (v ∷ vs) = owe_both (param-owes here v) (more-params-owe here vs)

-- ---- routines

result-keeps : {z : Place} (here : Site) (k : RoutineKind) (s : Option (Scalar Place)) → Keeps z (IsResult k s) (optional_names (scalar_names here) s)
result-keeps here procedure None = none
result-keeps here procedure (Some s) = record { counts = λ ts us more t. absurd t }
result-keeps here function None = record { counts = λ ts us more t. absurd t }
result-keeps here function (Some s) = quiet w.RETURNS ▸ scalar-keeps here s

value-keeps : {z : Place} (here : Site) (k : RoutineKind) (e : Option (Expr Place)) → Keeps z (IsValue k e) (optional_names (expr_names here) e)
value-keeps here procedure None = none
value-keeps here procedure (Some e) = record { counts = λ ts us more t. absurd t }
value-keeps here function None = record { counts = λ ts us more t. absurd t }
value-keeps here function (Some e) = quiet w.RETURN ▸ expr-keeps here 5 MOST_LEVELS e

routine-inner : {z : Place} (here : Site) (r : Routine Place)
    → Owes z (one (same_place r.place z) + (declared z (map param_name r.params) + declared z (map var_name r.vars))) (IsRoutine r) (routine_inner here r)
routine-inner here r =
    owe_next (quiet (kind_word r.kind)) (owe_both (owed r.name r.place) (owe_next (quiet w.LEFT_PAREN) (owe_both (params-owe here r.params)
    (owe_next (quiet w.RIGHT_PAREN) (owe_next (result-keeps here r.kind r.result) (owe_first (vars-owe here r.vars)
    (quiet w.BEGIN ▸ stmts-keep here MOST_LEVELS r.body ▸ value-keeps here r.kind r.value ▸ quiet w.END ▸ name r.close (closes r.close r.close_place r.name))))))))

routine-owes : {z : Place} (outer : Site) (r : Routine Place) → Owes z (one (same_place r.place z)) (IsRoutine r) (routine_names outer r)
routine-owes outer r = scoped outer.means (map param_name r.params) (map var_name r.vars) (routine-inner (inside (routine_scope r) outer) r)

routines-owe : {z : Place} (outer : Site) (rs : List (Routine Place)) → Owes z (declared z (map routine_name rs)) (Each IsRoutine rs) (routines_names outer rs)
routines-owe outer [] = owe_none
routines-owe outer (r ∷ rs) = owe_both (routine-owes outer r) (routines-owe outer rs)

entries-owe : {z : Place} (outer : Site) (rs : List (Routine Place)) → Owes z (declared z (map entry_name rs)) (Each IsEntry rs) (routines_names outer rs)
entries-owe outer [] = owe_none
entries-owe outer (r ∷ rs) = owe_both (owe_next (quiet w.ENTRY) (routine-owes outer r)) (entries-owe outer rs)

-- ---- monitors

member-owes : {z : Place} (here : Site) (m : Member Place) → Owes z (one (same_place (member_name m).1.place z)) (IsMember m) (member_inner here m)
member-owes here (variable_member v) = var-owes here v
member-owes here (condition_member n p) = owe_next (quiet w.CONDITION) (owed n p)

members-owe : {z : Place} (here : Site) (ms : List (Member Place)) → Owes z (declared z (map member_name ms)) (Each IsMember ms) (members_names here ms)
members-owe here [] = owe_none
members-owe here (m ∷ ms) = owe_both (member-owes here m) (members-owe here ms)

monitor-inner : {z : Place} (here : Site) (m : Monitor Place)
    → Owes z (one (same_place m.place z) + (declared z (map member_name m.members) + declared z (map entry_name m.entries))) (IsMonitor m) (monitor_inner here m)
monitor-inner here m =
    owe_next (quiet w.MONITOR) (owe_both (owed m.name m.place) (owe_both (members-owe here m.members) (owe_first (entries-owe here m.entries)
    (quiet w.END ▸ name m.close (closes m.close m.close_place m.name)))))

monitor-owes : {z : Place} (outer : Site) (m : Monitor Place) → Owes z (one (same_place m.place z)) (IsMonitor m) (monitor_names outer m)
monitor-owes outer m = scoped outer.means (map member_name m.members) (map entry_name m.entries) (monitor-inner (inside_monitor m.place (monitor_scope m) outer) m)

-- ---- processes

deadline-keeps : {z : Place} (here : Site) (c : Option (Constant Place)) → Keeps z (IsDeadline c) (optional_names (constant_names here) c)
deadline-keeps here None = none
deadline-keeps here (Some c) = quiet w.DEADLINE ▸ constant-keeps here c

first-keeps : {z : Place} (here : Site) (c : Option (Constant Place)) → Keeps z (IsFirst c) (optional_names (constant_names here) c)
first-keeps here None = none
first-keeps here (Some c) = quiet w.FIRST ▸ quiet w.ACTIVATION ▸ quiet w.AT_TIME ▸ constant-keeps here c

activation-keeps : {z : Place} (here : Site) (x : Activation Place) → Keeps z (IsActivation x) (activation_names here x)
activation-keeps here (periodic frame deadline start) = quiet w.PERIODIC ▸ quiet w.FRAME ▸ constant-keeps here frame ▸ deadline-keeps here deadline ▸ first-keeps here start
activation-keeps here (at_event e p frame deadline) = quiet w.AT_EVENT ▸ name e (uses here e p want_is.Event) ▸ quiet w.FRAME ▸ constant-keeps here frame ▸ deadline-keeps here deadline

more-numbers-keep : {z : Place} (here : Site) (cs : List (Constant Place)) → Keeps z (Each (λ c. a w.COMMA ▷ IsConstant c) cs) (constants_names here cs)
more-numbers-keep here [] = none
more-numbers-keep here (c ∷ cs) = (quiet w.COMMA ▸ constant-keeps here c) ▸ more-numbers-keep here cs

numbers-keep : {z : Place} (here : Site) (cs : List (Constant Place)) → Keeps z (Listed IsConstant cs) (constants_names here cs)
numbers-keep here [] = record { counts = λ ts us more t. absurd t }
numbers-keep here (c ∷ cs) = constant-keeps here c ▸ more-numbers-keep here cs

handler-keeps : {z : Place} (here : Site) (h : Option (Handler Place)) → Keeps z (IsHandler h) (optional_names (handler_names here) h)
handler-keeps here None = none
handler-keeps here (Some h) = quiet w.HANDLER ▸ quiet w.LEFT_PAREN ▸ numbers-keep here h.numbers ▸ quiet w.RIGHT_PAREN ▸ stmts-keep here MOST_LEVELS h.body

process-inner : {z : Place} (here : Site) (p : Process Place)
    → Owes z (one (same_place p.place z) + (declared z (map var_name p.vars) + declared z (map routine_name p.routines))) (IsProcess p) (process_inner here p)
process-inner here p =
    owe_next (quiet w.PROCESS) (owe_both (owed p.name p.place) (owe_next (quiet w.COLON) (owe_next (activation-keeps here p.activation) (owe_both (vars-owe here p.vars) (owe_first (routines-owe here p.routines)
    (quiet w.BEGIN ▸ stmts-keep here MOST_LEVELS p.body ▸ handler-keeps here p.handler ▸ quiet w.END ▸ name p.close (closes p.close p.close_place p.name)))))))

process-owes : {z : Place} (outer : Site) (p : Process Place) → Owes z (one (same_place p.place z)) (IsProcess p) (process_names outer p)
process-owes outer p = scoped outer.means (map var_name p.vars) (map routine_name p.routines) (process-inner (inside (process_scope p) outer) p)

-- ---- programs

decl-owes : {z : Place} (here : Site) (d : Decl Place) → Owes z (one (same_place (decl_name d).1.place z)) (IsDecl d) (inner_names here d)
decl-owes here (constant n p c) = owe_next (quiet w.CONST) (owe_first (owed n p) (quiet w.ASSIGN ▸ constant-keeps here c))
decl-owes here (device n p is_out) = owe_next (quiet w.DEVICE) (owe_first (owed n p) (quiet w.COLON ▸ quiet (way_word is_out)))
decl-owes here (event n p) = owe_next (quiet w.EVENT) (owed n p)
decl-owes here (routine r) = routine-owes here r
decl-owes here (monitor m) = monitor-owes here m
decl-owes here (process p) = process-owes here p

decls-keep : {z : Place} (members : Place → Reach) (earlier : Names) (ds : List (Decl Place)) → Keeps z (Each IsDecl ds) (decls_names members earlier ds)
decls-keep members earlier [] = none
decls-keep members earlier (d ∷ ds) =
    let here : Site = record { means = first (earlier ++ others (d ∷ ds)); members = members } in
    settle (declares (decl_name d).0 (decl_name d).1.place (is_some (first earlier (decl_name d).0))) (decl-owes here d) ▸ decls-keep members (earlier ++ decl_name d ∷ []) ds

-- at each place stand at most as many names of a program as of its tokens
pub program-keeps : (z : Place) (g : Prog Place) (ts : List (Tok Place)) → IsProg g ts [] → standing z (names g) ≤ named_at z ts
program-keeps z g ts took = let x = (all z).counts ts [] [] took in omega arith
  where
    all : (z : Place) → Keeps z (IsProg g) (λ more. declares g.name g.place false ∷ decls_names (λ place. first (entries_at g.decls place)) (program_name g ∷ []) g.decls (closes g.close g.close_place g.name ∷ more))
    all z = quiet w.PROGRAM ▸ name g.name (declares g.name g.place false) ▸ decls-keep (λ place. first (entries_at g.decls place)) (program_name g ∷ []) g.decls ▸ quiet w.END ▸ name g.close (closes g.close g.close_place g.name)
