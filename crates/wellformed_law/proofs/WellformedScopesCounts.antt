-- Each declaration, and each variable of a loop, is a name that is declared at its place: at a place stand as many of them
-- as names are declared there.
use Rattle.std.proofs.Common.{◌≡◌, ℕ, ◌+◌, Bool, true, false, cond, List, [], ◌∷◌, ◌++◌, map, Option, Some, None, refl, ◌∙◌, arith}
use Rattle.syntax_tree.specs.Placed.{Constant, literal_constant, named_constant, Scalar, int, boolean, subrange, Kind, scalar, array, Var, Param, Expr, literal, truth, variable, element, call, minus, negation, paren, row, Exprs, no_exprs, exprs, Operands, no_operands, operand, Ref, whole, part, Stmt, assign, assign_entry, assign_empty, perform, perform_entry, when, when_else, loop, exit_when, get, put, wait, signal, broadcast, except, assert, Stmts, no_stmts, stmts, Routine, Member, variable_member, condition_member, Monitor, Activation, periodic, at_event, Handler, Process, Decl, constant, device, event, routine, monitor, process, Prog}
use Rattle.syntax_tree.specs.declared.place.Place.{Place}
use Rattle.syntax_tree.specs.Parts.{same_place}
use Rattle.static_names.specs.Reach.{Names, Reach, Site, first, inside, inside_monitor}
use Rattle.static_names.specs.Occurrences.{Occurrence, declares, closes, used, declarations, constant_names, constants_names, scalar_names, kind_names, expr_names, exprs_names, operands_names, ref_names, entry_names, loop_name, stmt_names, stmts_names, var_name, param_name, routine_name, entry_name, member_name, vars_names, params_names, member_inner, members_names, optional_names, routine_scope, routine_inner, routine_names, routines_names, monitor_scope, monitor_inner, monitor_names, activation_names, handler_names, process_scope, process_inner, process_names, decl_name, others, entries_at, inner_names, decls_names, program_name, names}
use Rattle.static_declarations.specs.declared.home.StmtContext.TheVariants as home_is
use Rattle.static_declarations.specs.Things.{Thing, other_thing, vars_things, params_things, routine_things, routines_things, members_things, decl_things, decls_things}
use Rattle.static_declarations.specs.declared.home.Where.{Where}
use Rattle.static_declarations.specs.Parts.{Part, statement, answer, looped, stmt_parts, stmts_parts, home_of, outside_loops, answer_parts, routine_parts, routines_parts, handler_parts, decl_parts, decls_parts, parts}
use Rattle.static_semantics.specs.Things.{things}

-- 1 where the places are one
pub stands : Place → Place → ℕ
stands q p = cond (same_place q p) 1 0

pub stands-is : (q p : Place) → stands q p ≡ cond (same_place q p) 1 0
unfolding stands
stands-is q p = refl

-- how many of these things stand at the place
abbrev pub standing : Place → List (Place × Thing) → ℕ
standing q [] = 0
standing q (d ∷ ds) = stands q d.0 + standing q ds

-- how many of these statements are loops whose variable stands at the place
abbrev pub stmt_loops : Place → Stmt Place → ℕ
stmt_loops q (loop p name place low high body) = stands q place
stmt_loops q s = 0

abbrev pub part_loops : Place → Part → ℕ
part_loops q (statement here s) = stmt_loops q s
part_loops q (answer name s e) = 0

abbrev pub loops : Place → List Part → ℕ
loops q [] = 0
loops q (x ∷ xs) = part_loops q x + loops q xs

-- how many of these names are declared at the place
abbrev pub declares_at : Place → Occurrence → ℕ
declares_at q (declares name place taken) = stands q place
declares_at q (closes name place opening) = 0
declares_at q (used name place want means) = 0

abbrev pub declared : Place → List Occurrence → ℕ
declared q [] = 0
declared q (o ∷ os) = declares_at q o + declared q os

-- how many names of a scope stand at the place
abbrev named : Place → Names → ℕ
named q [] = 0
named q (d ∷ ds) = stands q d.1.place + named q ds

named-append : (q : Place) (xs ys : Names) → named q (xs ++ ys) ≡ named q xs + named q ys
named-append q [] ys = omega arith
named-append q (x ∷ xs) ys = omega (arith, named-append q xs ys)

-- ---- what declares nothing

abbrev Silent : (List Occurrence → List Occurrence) → Type 0
Silent f = (q : Place) (more : List Occurrence) → declared q (f more) ≡ declared q more

constant_silent : (here : Site) (c : Constant Place) → Silent (constant_names here c)
constant_silent here (literal_constant p is_minus n r) q more = refl
constant_silent here (named_constant p is_minus name r) q more = omega arith

constants_silent : (here : Site) (cs : List (Constant Place)) → Silent (constants_names here cs)
constants_silent here [] q more = refl
constants_silent here (c ∷ cs) q more = constant_silent here c q (constants_names here cs more) ∙ constants_silent here cs q more

scalar_silent : (here : Site) (s : Scalar Place) → Silent (scalar_names here s)
scalar_silent here int q more = refl
scalar_silent here boolean q more = refl
scalar_silent here (subrange low high) q more = constant_silent here low q (constant_names here high more) ∙ constant_silent here high q more

kind_silent : (here : Site) (k : Kind Place) → Silent (kind_names here k)
kind_silent here (scalar s) q more = scalar_silent here s q more
kind_silent here (array low high s) q more =
    constant_silent here low q (constant_names here high (scalar_names here s more)) ∙ constant_silent here high q (scalar_names here s more) ∙ scalar_silent here s q more

mutual
  expr_silent : (here : Site) (e : Expr Place) → Silent (expr_names here e)
  expr_silent here (literal p n) q more = refl
  expr_silent here (truth p t) q more = refl
  expr_silent here (variable p name) q more = omega arith
  expr_silent here (element p name i) q more = omega (arith, expr_silent here i q more)
  expr_silent here (call p name es) q more = omega (arith, exprs_silent here es q more)
  expr_silent here (minus p e) q more = expr_silent here e q more
  expr_silent here (negation p e) q more = expr_silent here e q more
  expr_silent here (paren p e) q more = expr_silent here e q more
  expr_silent here (row e rs) q more = expr_silent here e q (operands_names here rs more) ∙ operands_silent here rs q more

  exprs_silent : (here : Site) (es : Exprs Place) → Silent (exprs_names here es)
  exprs_silent here no_exprs q more = refl
  exprs_silent here (exprs e es) q more = expr_silent here e q (exprs_names here es more) ∙ exprs_silent here es q more

  operands_silent : (here : Site) (rs : Operands Place) → Silent (operands_names here rs)
  operands_silent here no_operands q more = refl
  operands_silent here (operand op e rs) q more = expr_silent here e q (operands_names here rs more) ∙ operands_silent here rs q more

ref_silent : (here : Site) (r : Ref Place) → Silent (ref_names here r)
ref_silent here (whole p name) q more = omega arith
ref_silent here (part p name i) q more = omega (arith, expr_silent here i q more)

vars_silent : (here : Site) (vs : List (Var Place)) → Silent (vars_names here vs)
vars_silent here [] q more = refl
vars_silent here (v ∷ vs) q more = kind_silent here v.kind q (vars_names here vs more) ∙ vars_silent here vs q more

params_silent : (here : Site) (vs : List (Param Place)) → Silent (params_names here vs)
params_silent here [] q more = refl
params_silent here (v ∷ vs) q more = scalar_silent here v.kind q (params_names here vs more) ∙ params_silent here vs q more

member_silent : (here : Site) (m : Member Place) → Silent (member_inner here m)
member_silent here (variable_member v) q more = kind_silent here v.kind q more
member_silent here (condition_member name p) q more = refl

members_silent : (here : Site) (ms : List (Member Place)) → Silent (members_names here ms)
members_silent here [] q more = refl
members_silent here (m ∷ ms) q more = member_silent here m q (members_names here ms more) ∙ members_silent here ms q more

optional_silent : {X : Type 0} (f : X → List Occurrence → List Occurrence) → ((x : X) → Silent (f x)) → (o : Option X) → Silent (optional_names f o)
optional_silent f silent None q more = refl
optional_silent f silent (Some x) q more = silent x q more

activation_silent : (here : Site) (x : Activation Place) → Silent (activation_names here x)
activation_silent here (periodic frame deadline start) q more =
    constant_silent here frame q (optional_names (constant_names here) deadline (optional_names (constant_names here) start more))
    ∙ optional_silent (constant_names here) (constant_silent here) deadline q (optional_names (constant_names here) start more)
    ∙ optional_silent (constant_names here) (constant_silent here) start q more
activation_silent here (at_event name place frame deadline) q more =
    omega (arith, constant_silent here frame q (optional_names (constant_names here) deadline more), optional_silent (constant_names here) (constant_silent here) deadline q more)

-- ---- statements

-- a part declares as many names at each place as it has loops there
abbrev Counted : (List Occurrence → List Occurrence) → (List Part → List Part) → Type 0
Counted f h = (q : Place) (os : List Occurrence) (xs : List Part) → loops q (h xs) + declared q os ≡ declared q (f os) + loops q xs

mutual
  stmt_counted : (here : Site) (at : Where) (s : Stmt Place) → Counted (stmt_names here s) (stmt_parts at s)
  stmt_counted here at (assign r e) q os xs = omega (arith, ref_silent here r q (expr_names here e os), expr_silent here e q os)
  stmt_counted here at (assign_entry r mon p entry t es) q os xs = omega (arith, ref_silent here r q (entry_names here mon p entry t (exprs_names here es os)), exprs_silent here es q os)
  stmt_counted here at (assign_empty r cond p) q os xs = omega (arith, ref_silent here r q)
  stmt_counted here at (perform p name es) q os xs = omega (arith, exprs_silent here es q os)
  stmt_counted here at (perform_entry p mon entry t es) q os xs = omega (arith, exprs_silent here es q os)
  stmt_counted here at (when p e a) q os xs = omega (arith, expr_silent here e q (stmts_names here a os), stmts_counted here at a q os xs)
  stmt_counted here at (when_else p e a b) q os xs =
      omega (arith, expr_silent here e q (stmts_names here a (stmts_names here b os)), stmts_counted here at a q (stmts_names here b os) (stmts_parts at b xs), stmts_counted here at b q os xs)
  stmt_counted here at (loop p name t low high a) q os xs =
      let within : Site = inside (loop_name name t ∷ []) here in
      omega (arith, constant_silent here low q (constant_names here high (stmts_names within a os)), constant_silent here high q (stmts_names within a os), stmts_counted within (looped at) a q os xs)
  stmt_counted here at (exit_when p e) q os xs = omega (arith, expr_silent here e q os)
  stmt_counted here at (get p dev t r) q os xs = omega (arith, ref_silent here r q os)
  stmt_counted here at (put p dev t e) q os xs = omega (arith, expr_silent here e q os)
  stmt_counted here at (wait p cond t limit number) q os xs = omega (arith, constant_silent here limit q (constant_names here number os), constant_silent here number q os)
  stmt_counted here at (signal p cond t) q os xs = omega arith
  stmt_counted here at (broadcast p cond t) q os xs = omega arith
  stmt_counted here at (except p number) q os xs = omega (arith, constant_silent here number q os)
  stmt_counted here at (assert p e) q os xs = omega (arith, expr_silent here e q os)

  stmts_counted : (here : Site) (at : Where) (ss : Stmts Place) → Counted (stmts_names here ss) (stmts_parts at ss)
  stmts_counted here at no_stmts q os xs = omega arith
  stmts_counted here at (stmts s ss) q os xs = omega (arith, stmt_counted here at s q (stmts_names here ss os) (stmts_parts at ss xs), stmts_counted here at ss q os xs)

-- ---- scopes

declarations_count : (outside : Reach) (earlier ds : Names) (q : Place) (more : List Occurrence) → declared q (declarations outside earlier ds more) ≡ named q ds + declared q more
declarations_count outside earlier [] q more = omega arith
declarations_count outside earlier (d ∷ ds) q more = omega (arith, declarations_count outside (earlier ++ d ∷ []) ds q more)

vars_stand : (owner : Option Place) (vs : List (Var Place)) (q : Place) (more : List (Place × Thing)) → standing q (vars_things owner vs more) ≡ named q (map var_name vs) + standing q more
vars_stand owner [] q more = omega arith
vars_stand owner (v ∷ vs) q more = omega (arith, vars_stand owner vs q more)

params_stand : (owner : Option Place) (vs : List (Param Place)) (q : Place) (more : List (Place × Thing)) → standing q (params_things owner vs more) ≡ named q (map param_name vs) + standing q more
params_stand owner [] q more = omega arith
params_stand owner (v ∷ vs) q more = omega (arith, params_stand owner vs q more)

members_stand : (ms : List (Member Place)) (q : Place) (more : List (Place × Thing)) → standing q (members_things ms more) ≡ named q (map member_name ms) + standing q more
members_stand [] q more = omega arith
members_stand (variable_member v ∷ ms) q more = omega (arith, members_stand ms q more)
members_stand (condition_member name place ∷ ms) q more = omega (arith, members_stand ms q more)

entries_named : (rs : List (Routine Place)) (q : Place) → named q (map entry_name rs) ≡ named q (map routine_name rs)
entries_named [] q = refl
entries_named (r ∷ rs) q = omega (arith, entries_named rs q)

-- ---- routines

answer_count : (name : Place) (s : Option (Scalar Place)) (e : Option (Expr Place)) (q : Place) (xs : List Part) → loops q (answer_parts name s e xs) ≡ loops q xs
answer_count name (Some s) (Some e) q xs = omega arith
answer_count name (Some s) None q xs = refl
answer_count name None e q xs = refl

routine_inner_counted : (here : Site) (is_entry : Bool) (r : Routine Place) → Counted (routine_inner here r) (routine_parts is_entry r)
routine_inner_counted here is_entry r q os xs =
    let at : Where = outside_loops (home_of is_entry r.kind r.place) in
    let closing : List Occurrence = closes r.close r.close_place r.name ∷ os in
    let valued : List Occurrence = optional_names (expr_names here) r.value closing in
    let bodied : List Occurrence = stmts_names here r.body valued in
    let typed : List Occurrence = vars_names here r.vars bodied in
    let resulting : List Occurrence = optional_names (scalar_names here) r.result typed in
    let e1 = params_silent here r.params q resulting in
    let e2 = optional_silent (scalar_names here) (scalar_silent here) r.result q typed in
    let e3 = vars_silent here r.vars q bodied in
    let e4 = stmts_counted here at r.body q valued (answer_parts r.place r.result r.value xs) in
    let e5 = optional_silent (expr_names here) (expr_silent here) r.value q closing in
    let e6 = answer_count r.place r.result r.value q xs in
    omega arith

routine_count : (outer : Site) (is_entry : Bool) (r : Routine Place) (q : Place) (ds : List (Place × Thing)) (os : List Occurrence) (xs : List Part)
    → (standing q (routine_things is_entry r ds) + loops q (routine_parts is_entry r xs)) + declared q os ≡ (stands q r.place + declared q (routine_names outer r os)) + (standing q ds + loops q xs)
routine_count outer is_entry r q ds os xs =
    let here : Site = inside (routine_scope r) outer in
    let e1 = params_stand (Some r.place) r.params q (vars_things (Some r.place) r.vars ds) in
    let e2 = vars_stand (Some r.place) r.vars q ds in
    let e3 = named-append q (map param_name r.params) (map var_name r.vars) in
    let e4 = declarations_count outer.means [] (routine_scope r) q (routine_inner here r os) in
    let e5 = routine_inner_counted here is_entry r q os xs in
    omega arith

routines_count : (outer : Site) (is_entry : Bool) (rs : List (Routine Place)) (q : Place) (ds : List (Place × Thing)) (os : List Occurrence) (xs : List Part)
    → (standing q (routines_things is_entry rs ds) + loops q (routines_parts is_entry rs xs)) + declared q os ≡ (named q (map routine_name rs) + declared q (routines_names outer rs os)) + (standing q ds + loops q xs)
routines_count outer is_entry [] q ds os xs = omega arith
routines_count outer is_entry (r ∷ rs) q ds os xs =
    let e1 = routine_count outer is_entry r q (routines_things is_entry rs ds) (routines_names outer rs os) (routines_parts is_entry rs xs) in
    let e2 = routines_count outer is_entry rs q ds os xs in
    omega arith

-- ---- monitors and processes

monitor_count : (outer : Site) (m : Monitor Place) (q : Place) (ds : List (Place × Thing)) (os : List Occurrence) (xs : List Part)
    → (standing q (members_things m.members (routines_things true m.entries ds)) + loops q (routines_parts true m.entries xs)) + declared q os ≡ declared q (monitor_names outer m os) + (standing q ds + loops q xs)
monitor_count outer m q ds os xs =
    let here : Site = inside_monitor m.place (monitor_scope m) outer in
    let closing : List Occurrence = closes m.close m.close_place m.name ∷ os in
    let e1 = declarations_count outer.means [] (monitor_scope m) q (monitor_inner here m os) in
    let e2 = named-append q (map member_name m.members) (map entry_name m.entries) in
    let e3 = entries_named m.entries q in
    let e4 = members_stand m.members q (routines_things true m.entries ds) in
    let e5 = members_silent here m.members q (routines_names here m.entries closing) in
    let e6 = routines_count here true m.entries q ds closing xs in
    omega arith

handler_counted : (here : Site) (h : Option (Handler Place)) → Counted (optional_names (handler_names here) h) (handler_parts h)
handler_counted here None q os xs = omega arith
handler_counted here (Some h) q os xs = omega (arith, constants_silent here h.numbers q (stmts_names here h.body os), stmts_counted here (outside_loops home_is.Free) h.body q os xs)

process_count : (outer : Site) (p : Process Place) (q : Place) (ds : List (Place × Thing)) (os : List Occurrence) (xs : List Part)
    → (standing q (vars_things None p.vars (routines_things false p.routines ds)) + loops q (decl_parts (process p) xs)) + declared q os ≡ declared q (process_names outer p os) + (standing q ds + loops q xs)
process_count outer p q ds os xs =
    let here : Site = inside (process_scope p) outer in
    let closing : List Occurrence = closes p.close p.close_place p.name ∷ os in
    let handled : List Occurrence = optional_names (handler_names here) p.handler closing in
    let bodied : List Occurrence = stmts_names here p.body handled in
    let free : Where = outside_loops home_is.Free in
    let e1 = declarations_count outer.means [] (process_scope p) q (process_inner here p os) in
    let e2 = named-append q (map var_name p.vars) (map routine_name p.routines) in
    let e3 = activation_silent here p.activation q (vars_names here p.vars (routines_names here p.routines bodied)) in
    let e4 = vars_silent here p.vars q (routines_names here p.routines bodied) in
    let e5 = vars_stand None p.vars q (routines_things false p.routines ds) in
    let e6 = routines_count here false p.routines q ds bodied (stmts_parts free p.body (handler_parts p.handler xs)) in
    let e7 = stmts_counted here free p.body q handled (handler_parts p.handler xs) in
    let e8 = handler_counted here p.handler q closing xs in
    omega arith

-- ---- declarations and the program

decl_count : (here : Site) (d : Decl Place) (q : Place) (ds : List (Place × Thing)) (os : List Occurrence) (xs : List Part)
    → (standing q (decl_things d ds) + loops q (decl_parts d xs)) + declared q os ≡ (stands q (decl_name d).1.place + declared q (inner_names here d os)) + (standing q ds + loops q xs)
decl_count here (constant name place c) q ds os xs = omega (arith, constant_silent here c q os)
decl_count here (device name place is_out) q ds os xs = omega arith
decl_count here (event name place) q ds os xs = omega arith
decl_count here (routine r) q ds os xs = routine_count here false r q ds os xs
decl_count here (monitor m) q ds os xs = omega (arith, monitor_count here m q ds os xs)
decl_count here (process p) q ds os xs = omega (arith, process_count here p q ds os xs)

decls_count : (members : Place → Reach) (earlier : Names) (all : List (Decl Place)) (q : Place) (ds : List (Place × Thing)) (os : List Occurrence) (xs : List Part)
    → (standing q (decls_things all ds) + loops q (decls_parts all xs)) + declared q os ≡ declared q (decls_names members earlier all os) + (standing q ds + loops q xs)
decls_count members earlier [] q ds os xs = omega arith
decls_count members earlier (d ∷ rest) q ds os xs =
    let here : Site = record { means = first (earlier ++ others (d ∷ rest)); members = members } in
    let e1 = decl_count here d q (decls_things rest ds) (decls_names members (earlier ++ decl_name d ∷ []) rest os) (decls_parts rest xs) in
    let e2 = decls_count members (earlier ++ decl_name d ∷ []) rest q ds os xs in
    omega arith

-- all declarations and all variables of loops are the names that are declared
pub program_count : (g : Prog Place) (q : Place) → standing q (things g) + loops q (parts g) ≡ declared q (names g)
program_count g q =
    let closing : List Occurrence = closes g.close g.close_place g.name ∷ [] in
    let e1 = decls_count (λ place. first (entries_at g.decls place)) (program_name g ∷ []) g.decls q ((g.place, other_thing) ∷ []) closing [] in
    omega arith
