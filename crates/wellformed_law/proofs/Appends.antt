-- The names and the parts of each part of a tree come before those that follow it: what follows is appended.
use Rattle.std.proofs.Common.{◌≡◌, Bool, true, false, List, [], ◌∷◌, ◌++◌, Option, Some, None, refl, ap, ◌∙◌}
use Rattle.syntax_tree.specs.Placed.{Constant, literal_constant, named_constant, Scalar, int, boolean, subrange, Kind, scalar, array, Var, Param, Expr, literal, truth, variable, element, call, minus, negation, paren, row, Exprs, no_exprs, exprs, Operands, no_operands, operand, Ref, whole, part, Stmt, assign, assign_entry, assign_empty, perform, perform_entry, when, when_else, loop, exit_when, get, put, wait, signal, broadcast, except, assert, Stmts, no_stmts, stmts, Routine, Member, variable_member, condition_member, Monitor, Activation, periodic, at_event, Handler, Process, Decl, constant, device, event, routine, monitor, process}
use Rattle.syntax_tree.specs.declared.place.Place.{Place}
use Rattle.static_names.specs.Reach.{Names, Reach, Site, inside, inside_monitor}
use Rattle.static_names.specs.Occurrences.{Occurrence, declarations, constant_names, constants_names, scalar_names, kind_names, expr_names, exprs_names, operands_names, ref_names, entry_names, loop_name, stmt_names, stmts_names, vars_names, params_names, member_inner, members_names, optional_names, routine_scope, routine_inner, routine_names, routines_names, monitor_scope, monitor_inner, monitor_names, activation_names, handler_names, process_scope, process_inner, process_names, inner_names}
use Rattle.static_declarations.specs.declared.home.Where.{Where}
use Rattle.static_declarations.specs.Parts.{looped, stmt_parts, stmts_parts, home_of, outside_loops, answer_parts, routine_parts, routines_parts, handler_parts, decl_parts}

-- what a part of a tree gives is put before what follows
abbrev pub Puts : {A : Type 0} → (List A → List A) → Type 0
Puts {A} f = (a b : List A) → f (a ++ b) ≡ f a ++ b

keep : {A : Type 0} {x : A} {l m : List A} → l ≡ m → x ∷ l ≡ x ∷ m
keep {x} e = ap (λ l. x ∷ l) e

-- one thing after another
then_puts : {A : Type 0} (f g : List A → List A) → Puts f → Puts g → Puts (λ more. f (g more))
then_puts f g first second a b = ap f (second a b) ∙ first (g a) b

one_puts : {A : Type 0} (x : A) (g : List A → List A) → Puts g → Puts (λ more. x ∷ g more)
one_puts x g second a b = ap (λ l. x ∷ l) (second a b)

none_puts : {A : Type 0} → Puts {A = A} (λ more. more)
none_puts a b = refl

-- ---- names

declarations_puts : (outside : Reach) (earlier : Names) (ds : Names) → Puts (declarations outside earlier ds)
declarations_puts outside earlier [] a b = refl
declarations_puts outside earlier (d ∷ ds) a b = keep (declarations_puts outside (earlier ++ d ∷ []) ds a b)

constant_puts : (here : Site) (c : Constant Place) → Puts (constant_names here c)
constant_puts here (literal_constant p is_minus n q) a b = refl
constant_puts here (named_constant p is_minus name q) a b = refl

constants_puts : (here : Site) (cs : List (Constant Place)) → Puts (constants_names here cs)
constants_puts here [] a b = refl
constants_puts here (c ∷ cs) a b = then_puts (constant_names here c) (constants_names here cs) (constant_puts here c) (constants_puts here cs) a b

scalar_puts : (here : Site) (s : Scalar Place) → Puts (scalar_names here s)
scalar_puts here int a b = refl
scalar_puts here boolean a b = refl
scalar_puts here (subrange low high) a b = then_puts (constant_names here low) (constant_names here high) (constant_puts here low) (constant_puts here high) a b

kind_puts : (here : Site) (k : Kind Place) → Puts (kind_names here k)
kind_puts here (scalar s) a b = scalar_puts here s a b
kind_puts here (array low high s) a b =
    then_puts (constant_names here low) (λ m. constant_names here high (scalar_names here s m)) (constant_puts here low)
    (then_puts (constant_names here high) (scalar_names here s) (constant_puts here high) (scalar_puts here s)) a b

mutual
  expr_puts : (here : Site) (e : Expr Place) → Puts (expr_names here e)
  expr_puts here (literal p n) a b = refl
  expr_puts here (truth p t) a b = refl
  expr_puts here (variable p name) a b = refl
  expr_puts here (element p name i) a b = keep (expr_puts here i a b)
  expr_puts here (call p name es) a b = keep (exprs_puts here es a b)
  expr_puts here (minus p e) a b = expr_puts here e a b
  expr_puts here (negation p e) a b = expr_puts here e a b
  expr_puts here (paren p e) a b = expr_puts here e a b
  expr_puts here (row e rs) a b = ap (expr_names here e) (operands_puts here rs a b) ∙ expr_puts here e (operands_names here rs a) b

  exprs_puts : (here : Site) (es : Exprs Place) → Puts (exprs_names here es)
  exprs_puts here no_exprs a b = refl
  exprs_puts here (exprs e es) a b = ap (expr_names here e) (exprs_puts here es a b) ∙ expr_puts here e (exprs_names here es a) b

  operands_puts : (here : Site) (rs : Operands Place) → Puts (operands_names here rs)
  operands_puts here no_operands a b = refl
  operands_puts here (operand op e rs) a b = ap (expr_names here e) (operands_puts here rs a b) ∙ expr_puts here e (operands_names here rs a) b

ref_puts : (here : Site) (r : Ref Place) → Puts (ref_names here r)
ref_puts here (whole p name) a b = refl
ref_puts here (part p name i) a b = keep (expr_puts here i a b)

mutual
  stmt_puts : (here : Site) (s : Stmt Place) → Puts (stmt_names here s)
  stmt_puts here (assign r e) a b = then_puts (ref_names here r) (expr_names here e) (ref_puts here r) (expr_puts here e) a b
  stmt_puts here (assign_entry r mon p entry q es) a b =
      ap (λ l. ref_names here r (entry_names here mon p entry q l)) (exprs_puts here es a b) ∙ ref_puts here r (entry_names here mon p entry q (exprs_names here es a)) b
  stmt_puts here (assign_empty r cond p) a b = ref_puts here r (_ ∷ a) b
  stmt_puts here (perform p name es) a b = keep (exprs_puts here es a b)
  stmt_puts here (perform_entry p mon entry q es) a b = keep (keep (exprs_puts here es a b))
  stmt_puts here (when p e s) a b = ap (expr_names here e) (stmts_puts here s a b) ∙ expr_puts here e (stmts_names here s a) b
  stmt_puts here (when_else p e s t) a b =
      ap (λ l. expr_names here e (stmts_names here s l)) (stmts_puts here t a b) ∙ ap (expr_names here e) (stmts_puts here s (stmts_names here t a) b)
      ∙ expr_puts here e (stmts_names here s (stmts_names here t a)) b
  stmt_puts here (loop p name q low high s) a b =
      let body : List Occurrence → List Occurrence = stmts_names (inside (loop_name name q ∷ []) here) s in
      keep (ap (λ l. constant_names here low (constant_names here high l)) (stmts_puts (inside (loop_name name q ∷ []) here) s a b)
      ∙ then_puts (constant_names here low) (constant_names here high) (constant_puts here low) (constant_puts here high) (body a) b)
  stmt_puts here (exit_when p e) a b = expr_puts here e a b
  stmt_puts here (get p dev q r) a b = keep (ref_puts here r a b)
  stmt_puts here (put p dev q e) a b = keep (expr_puts here e a b)
  stmt_puts here (wait p cond q limit number) a b = keep (then_puts (constant_names here limit) (constant_names here number) (constant_puts here limit) (constant_puts here number) a b)
  stmt_puts here (signal p cond q) a b = refl
  stmt_puts here (broadcast p cond q) a b = refl
  stmt_puts here (except p number) a b = constant_puts here number a b
  stmt_puts here (assert p e) a b = expr_puts here e a b

  stmts_puts : (here : Site) (ss : Stmts Place) → Puts (stmts_names here ss)
  stmts_puts here no_stmts a b = refl
  stmts_puts here (stmts s ss) a b = ap (stmt_names here s) (stmts_puts here ss a b) ∙ stmt_puts here s (stmts_names here ss a) b

vars_puts : (here : Site) (vs : List (Var Place)) → Puts (vars_names here vs)
vars_puts here [] a b = refl
vars_puts here (v ∷ vs) a b = then_puts (kind_names here v.kind) (vars_names here vs) (kind_puts here v.kind) (vars_puts here vs) a b

params_puts : (here : Site) (vs : List (Param Place)) → Puts (params_names here vs)
params_puts here [] a b = refl
params_puts here (v ∷ vs) a b = then_puts (scalar_names here v.kind) (params_names here vs) (scalar_puts here v.kind) (params_puts here vs) a b

member_puts : (here : Site) (m : Member Place) → Puts (member_inner here m)
member_puts here (variable_member v) a b = kind_puts here v.kind a b
member_puts here (condition_member name p) a b = refl

members_puts : (here : Site) (ms : List (Member Place)) → Puts (members_names here ms)
members_puts here [] a b = refl
members_puts here (m ∷ ms) a b = then_puts (member_inner here m) (members_names here ms) (member_puts here m) (members_puts here ms) a b

optional_puts : {X : Type 0} (f : X → List Occurrence → List Occurrence) → ((x : X) → Puts (f x)) → (o : Option X) → Puts (optional_names f o)
optional_puts f puts None a b = refl
optional_puts f puts (Some x) a b = puts x a b

routine_inner_puts : (here : Site) (r : Routine Place) → Puts (routine_inner here r)
routine_inner_puts here r =
    then_puts (params_names here r.params) _ (params_puts here r.params)
    (then_puts (optional_names (scalar_names here) r.result) _ (optional_puts (scalar_names here) (scalar_puts here) r.result)
    (then_puts (vars_names here r.vars) _ (vars_puts here r.vars)
    (then_puts (stmts_names here r.body) _ (stmts_puts here r.body)
    (then_puts (optional_names (expr_names here) r.value) (λ more. _ ∷ more) (optional_puts (expr_names here) (expr_puts here) r.value)
    (one_puts _ (λ more. more) none_puts)))))

routine_puts : (outer : Site) (r : Routine Place) → Puts (routine_names outer r)
routine_puts outer r =
    then_puts (declarations outer.means [] (routine_scope r)) (routine_inner (inside (routine_scope r) outer) r) (declarations_puts outer.means [] (routine_scope r))
    (routine_inner_puts (inside (routine_scope r) outer) r)

routines_puts : (outer : Site) (rs : List (Routine Place)) → Puts (routines_names outer rs)
routines_puts outer [] a b = refl
routines_puts outer (r ∷ rs) a b = then_puts (routine_names outer r) (routines_names outer rs) (routine_puts outer r) (routines_puts outer rs) a b

monitor_inner_puts : (here : Site) (m : Monitor Place) → Puts (monitor_inner here m)
monitor_inner_puts here m =
    then_puts (members_names here m.members) _ (members_puts here m.members)
    (then_puts (routines_names here m.entries) (λ more. _ ∷ more) (routines_puts here m.entries)
    (one_puts _ (λ more. more) none_puts))

monitor_puts : (outer : Site) (m : Monitor Place) → Puts (monitor_names outer m)
monitor_puts outer m =
    let here : Site = inside_monitor m.place (monitor_scope m) outer in
    then_puts (declarations outer.means [] (monitor_scope m)) (monitor_inner here m) (declarations_puts outer.means [] (monitor_scope m)) (monitor_inner_puts here m)

activation_puts : (here : Site) (x : Activation Place) → Puts (activation_names here x)
activation_puts here (periodic frame deadline start) a b =
    then_puts (constant_names here frame) (λ m. optional_names (constant_names here) deadline (optional_names (constant_names here) start m)) (constant_puts here frame)
    (then_puts (optional_names (constant_names here) deadline) (optional_names (constant_names here) start) (optional_puts (constant_names here) (constant_puts here) deadline)
    (optional_puts (constant_names here) (constant_puts here) start)) a b
activation_puts here (at_event name place frame deadline) a b =
    keep (then_puts (constant_names here frame) (optional_names (constant_names here) deadline) (constant_puts here frame) (optional_puts (constant_names here) (constant_puts here) deadline) a b)

handler_puts : (here : Site) (h : Handler Place) → Puts (handler_names here h)
handler_puts here h = then_puts (constants_names here h.numbers) (stmts_names here h.body) (constants_puts here h.numbers) (stmts_puts here h.body)

process_inner_puts : (here : Site) (p : Process Place) → Puts (process_inner here p)
process_inner_puts here p =
    then_puts (activation_names here p.activation) _ (activation_puts here p.activation)
    (then_puts (vars_names here p.vars) _ (vars_puts here p.vars)
    (then_puts (routines_names here p.routines) _ (routines_puts here p.routines)
    (then_puts (stmts_names here p.body) _ (stmts_puts here p.body)
    (then_puts (optional_names (handler_names here) p.handler) (λ more. _ ∷ more) (optional_puts (handler_names here) (handler_puts here) p.handler)
    (one_puts _ (λ more. more) none_puts)))))

process_puts : (outer : Site) (p : Process Place) → Puts (process_names outer p)
process_puts outer p =
    let here : Site = inside (process_scope p) outer in
    then_puts (declarations outer.means [] (process_scope p)) (process_inner here p) (declarations_puts outer.means [] (process_scope p)) (process_inner_puts here p)

pub inner_puts : (here : Site) (d : Decl Place) → Puts (inner_names here d)
inner_puts here (constant name place c) a b = constant_puts here c a b
inner_puts here (device name place is_out) a b = refl
inner_puts here (event name place) a b = refl
inner_puts here (routine r) a b = routine_puts here r a b
inner_puts here (monitor m) a b = monitor_puts here m a b
inner_puts here (process p) a b = process_puts here p a b

-- ---- parts

mutual
  stmt_parts_puts : (here : Where) (s : Stmt Place) → Puts (stmt_parts here s)
  stmt_parts_puts here (assign r e) a b = refl
  stmt_parts_puts here (assign_entry r mon p entry q es) a b = refl
  stmt_parts_puts here (assign_empty r cond p) a b = refl
  stmt_parts_puts here (perform p name es) a b = refl
  stmt_parts_puts here (perform_entry p mon entry q es) a b = refl
  stmt_parts_puts here (when p e s) a b = keep (stmts_parts_puts here s a b)
  stmt_parts_puts here (when_else p e s t) a b = keep (ap (stmts_parts here s) (stmts_parts_puts here t a b) ∙ stmts_parts_puts here s (stmts_parts here t a) b)
  stmt_parts_puts here (loop p name q low high s) a b = keep (stmts_parts_puts (looped here) s a b)
  stmt_parts_puts here (exit_when p e) a b = refl
  stmt_parts_puts here (get p dev q r) a b = refl
  stmt_parts_puts here (put p dev q e) a b = refl
  stmt_parts_puts here (wait p cond q limit number) a b = refl
  stmt_parts_puts here (signal p cond q) a b = refl
  stmt_parts_puts here (broadcast p cond q) a b = refl
  stmt_parts_puts here (except p number) a b = refl
  stmt_parts_puts here (assert p e) a b = refl

  stmts_parts_puts : (here : Where) (ss : Stmts Place) → Puts (stmts_parts here ss)
  stmts_parts_puts here no_stmts a b = refl
  stmts_parts_puts here (stmts s ss) a b = ap (stmt_parts here s) (stmts_parts_puts here ss a b) ∙ stmt_parts_puts here s (stmts_parts here ss a) b

answer_puts : (name : Place) (s : Option (Scalar Place)) (e : Option (Expr Place)) → Puts (answer_parts name s e)
answer_puts name (Some s) (Some e) a b = refl
answer_puts name (Some s) None a b = refl
answer_puts name None e a b = refl

routine_parts_puts : (is_entry : Bool) (r : Routine Place) → Puts (routine_parts is_entry r)
routine_parts_puts is_entry r =
    let here : Where = outside_loops (home_of is_entry r.kind r.place) in
    then_puts (stmts_parts here r.body) (answer_parts r.place r.result r.value) (stmts_parts_puts here r.body) (answer_puts r.place r.result r.value)

routines_parts_puts : (is_entry : Bool) (rs : List (Routine Place)) → Puts (routines_parts is_entry rs)
routines_parts_puts is_entry [] a b = refl
routines_parts_puts is_entry (r ∷ rs) a b = then_puts (routine_parts is_entry r) (routines_parts is_entry rs) (routine_parts_puts is_entry r) (routines_parts_puts is_entry rs) a b

handler_parts_puts : (h : Option (Handler Place)) → Puts (handler_parts h)
handler_parts_puts None a b = refl
handler_parts_puts (Some h) a b = stmts_parts_puts _ h.body a b

pub decl_parts_puts : (d : Decl Place) → Puts (decl_parts d)
decl_parts_puts (constant name p c) a b = refl
decl_parts_puts (device name p is_out) a b = refl
decl_parts_puts (event name p) a b = refl
decl_parts_puts (routine r) a b = routine_parts_puts false r a b
decl_parts_puts (monitor m) a b = routines_parts_puts true m.entries a b
decl_parts_puts (process p) a b =
    then_puts (routines_parts false p.routines) _ (routines_parts_puts false p.routines)
    (then_puts (stmts_parts _ p.body) (handler_parts p.handler) (stmts_parts_puts _ p.body) (handler_parts_puts p.handler)) a b
