-- The names that are told and those of the rules are weighed by their places: they come to the same, part by part.
use Rattle.std.proofs.Common.{◌≡◌, ℕ, ◌+◌, List, [], ◌∷◌, ◌++◌, map, Option, Some, None, arith}
use Rattle.std.specs.Prelude.{Bool, true, false, flat_map}
use Rattle.std.specs.Option.{option_map_or}
use Rattle.syntax_tree.specs.Placed.{Constant, literal_constant, named_constant, Scalar, int, boolean, subrange, Kind, scalar, array, Var, Param, Expr, literal, truth, variable, element, call, minus, negation, paren, row, Exprs, no_exprs, exprs, Operands, no_operands, operand, Ref, whole, part, Stmt, assign, assign_entry, assign_empty, perform, perform_entry, when, when_else, loop, exit_when, get, put, wait, signal, broadcast, except, assert, Stmts, no_stmts, stmts, Routine, Member, variable_member, condition_member, Monitor, Activation, periodic, at_event, Handler, Process, Decl, constant, device, event, routine, monitor, process, Prog}
use Rattle.syntax_tree.specs.declared.place.Place.{Place}
use Rattle.static_names.specs.Reach.{Names, Reach, Site, first, inside, inside_monitor}
use Rattle.static_names.specs.Occurrences as rule
use Rattle.static_names.specs.Occurrences.{Occurrence}
use Rattle.static_names.specs.Rules.{place_of}
use Rattle.message_names.specs.declared.role.Scope.{Scope}
use Rattle.message_names.specs.Mentions as told
use Rattle.message_names.specs.Mentions.{Mention}

-- what the names weigh that are told, those of the rules, and those of a scope
abbrev pub of_told : (Place → ℕ) → List Mention → ℕ
of_told w [] = 0
of_told w (m ∷ ms) = w m.place + of_told w ms

abbrev pub of_rules : (Place → ℕ) → List Occurrence → ℕ
of_rules w [] = 0
of_rules w (o ∷ os) = w (place_of o) + of_rules w os

abbrev of_scope : (Place → ℕ) → Names → ℕ
of_scope w [] = 0
of_scope w (d ∷ ds) = w d.1.place + of_scope w ds

told-append : (w : Place → ℕ) (ms ns : List Mention) → of_told w (ms ++ ns) ≡ of_told w ms + of_told w ns
told-append w [] ns = omega arith
told-append w (m ∷ ms) ns = let e = told-append w ms ns in omega arith

scope-append : (w : Place → ℕ) (ds es : Names) → of_scope w (ds ++ es) ≡ of_scope w ds + of_scope w es
scope-append w [] es = omega arith
scope-append w (d ∷ ds) es = let e = scope-append w ds es in omega arith

of-declarations : (w : Place → ℕ) (outside : Reach) (earlier ds : Names) (more : List Occurrence) → of_rules w (rule.declarations outside earlier ds more) ≡ of_scope w ds + of_rules w more
of-declarations w outside earlier [] more = omega arith
of-declarations w outside earlier (d ∷ ds) more = let e = of-declarations w outside (earlier ++ d ∷ []) ds more in omega arith

-- what the rules list of a part, before others, weighs what is told of the part
abbrev Weighs : (Place → ℕ) → (List Occurrence → List Occurrence) → List Mention → Type 0
Weighs w names ms = (more : List Occurrence) → of_rules w (names more) ≡ of_told w ms + of_rules w more

-- one part and then another
both : (w : Place → ℕ) (f g : List Occurrence → List Occurrence) (ms ns : List Mention) → Weighs w f ms → Weighs w g ns → Weighs w (λ more. f (g more)) (ms ++ ns)
both w f g ms ns one other more = let a = one (g more) in let b = other more in let e = told-append w ms ns in omega arith

-- ---- constants, types and expressions

of-constant : (w : Place → ℕ) (here : Site) (c : Constant Place) → Weighs w (rule.constant_names here c) (told.constant_mentions c)
of-constant w here (literal_constant p is_minus n q) more = omega arith
of-constant w here (named_constant p is_minus name q) more = omega arith

of-bounds : (w : Place → ℕ) (here : Site) (low high : Constant Place) → Weighs w (λ more. rule.constant_names here low (rule.constant_names here high more)) (told.bounds_mentions low high)
of-bounds w here low high = both w (rule.constant_names here low) (rule.constant_names here high) (told.constant_mentions low) (told.constant_mentions high) (of-constant w here low) (of-constant w here high)

of-scalar : (w : Place → ℕ) (here : Site) (s : Scalar Place) → Weighs w (rule.scalar_names here s) (told.scalar_mentions s)
of-scalar w here int more = omega arith
of-scalar w here boolean more = omega arith
of-scalar w here (subrange low high) more = of-bounds w here low high more

of-kind : (w : Place → ℕ) (here : Site) (k : Kind Place) → Weighs w (rule.kind_names here k) (told.kind_mentions k)
of-kind w here (scalar s) more = of-scalar w here s more
of-kind w here (array low high s) more =
    both w (λ rest. rule.constant_names here low (rule.constant_names here high rest)) (rule.scalar_names here s) (told.bounds_mentions low high) (told.scalar_mentions s) (of-bounds w here low high) (of-scalar w here s) more

mutual
  of-expr : (w : Place → ℕ) (here : Site) (e : Expr Place) → Weighs w (rule.expr_names here e) (told.expr_mentions e)
  of-expr w here (literal p n) more = omega arith
  of-expr w here (truth p b) more = omega arith
  of-expr w here (variable p name) more = omega arith
  of-expr w here (element p name i) more = let x = of-expr w here i more in omega arith
  of-expr w here (call p name es) more = let x = of-exprs w here es more in omega arith
  of-expr w here (minus p e) more = of-expr w here e more
  of-expr w here (negation p e) more = of-expr w here e more
  of-expr w here (paren p e) more = of-expr w here e more
  of-expr w here (row e rs) more = both w (rule.expr_names here e) (rule.operands_names here rs) (told.expr_mentions e) (told.operands_mentions rs) (of-expr w here e) (of-operands w here rs) more

  of-exprs : (w : Place → ℕ) (here : Site) (es : Exprs Place) → Weighs w (rule.exprs_names here es) (told.exprs_mentions es)
  of-exprs w here no_exprs more = omega arith
  of-exprs w here (exprs e es) more = both w (rule.expr_names here e) (rule.exprs_names here es) (told.expr_mentions e) (told.exprs_mentions es) (of-expr w here e) (of-exprs w here es) more

  of-operands : (w : Place → ℕ) (here : Site) (rs : Operands Place) → Weighs w (rule.operands_names here rs) (told.operands_mentions rs)
  of-operands w here no_operands more = omega arith
  of-operands w here (operand op e rs) more = both w (rule.expr_names here e) (rule.operands_names here rs) (told.expr_mentions e) (told.operands_mentions rs) (of-expr w here e) (of-operands w here rs) more

of-ref : (w : Place → ℕ) (here : Site) (r : Ref Place) → Weighs w (rule.ref_names here r) (told.ref_mentions r)
of-ref w here (whole p name) more = omega arith
of-ref w here (part p name i) more = let x = of-expr w here i more in omega arith

-- ---- statements

mutual
  of-stmt : (w : Place → ℕ) (here : Site) (s : Stmt Place) → Weighs w (rule.stmt_names here s) (told.stmt_mentions s)
  of-stmt w here (assign r e) more = both w (rule.ref_names here r) (rule.expr_names here e) (told.ref_mentions r) (told.expr_mentions e) (of-ref w here r) (of-expr w here e) more
  of-stmt w here (assign_entry r mon p entry q es) more =
      let x = of-ref w here r (rule.entry_names here mon p entry q (rule.exprs_names here es more)) in
      let y = of-exprs w here es more in
      let z = told-append w (told.ref_mentions r) (told.entry_mentions mon p entry q es) in omega arith
  of-stmt w here (assign_empty r cond p) more =
      let x = of-ref w here r (rule.stmt_names here (signal p cond p) more) in
      let z = told-append w (told.ref_mentions r) (told.stmt_mentions (signal p cond p)) in omega arith
  of-stmt w here (perform p name es) more = let x = of-exprs w here es more in omega arith
  of-stmt w here (perform_entry p mon entry q es) more = let x = of-exprs w here es more in omega arith
  of-stmt w here (when p e a) more = both w (rule.expr_names here e) (rule.stmts_names here a) (told.expr_mentions e) (told.stmts_mentions a) (of-expr w here e) (of-stmts w here a) more
  of-stmt w here (when_else p e a b) more =
      let x = of-expr w here e (rule.stmts_names here a (rule.stmts_names here b more)) in
      let y = of-stmts w here a (rule.stmts_names here b more) in
      let z = of-stmts w here b more in
      let u = told-append w (told.expr_mentions e) (told.stmts_mentions a ++ told.stmts_mentions b) in
      let v = told-append w (told.stmts_mentions a) (told.stmts_mentions b) in omega arith
  of-stmt w here (loop p name q low high a) more =
      let within = inside (rule.loop_name name q ∷ []) here in
      let x = of-bounds w here low high (rule.stmts_names within a more) in
      let y = of-stmts w within a more in
      let z = told-append w (told.bounds_mentions low high) (told.stmts_mentions a) in omega arith
  of-stmt w here (exit_when p e) more = of-expr w here e more
  of-stmt w here (get p dev q r) more = let x = of-ref w here r more in omega arith
  of-stmt w here (put p dev q e) more = let x = of-expr w here e more in omega arith
  of-stmt w here (wait p cond q limit number) more = let x = of-bounds w here limit number more in omega arith
  of-stmt w here (signal p cond q) more = omega arith
  of-stmt w here (broadcast p cond q) more = omega arith
  of-stmt w here (except p number) more = of-constant w here number more
  of-stmt w here (assert p e) more = of-expr w here e more

  of-stmts : (w : Place → ℕ) (here : Site) (ss : Stmts Place) → Weighs w (rule.stmts_names here ss) (told.stmts_mentions ss)
  of-stmts w here no_stmts more = omega arith
  of-stmts w here (stmts s ss) more = both w (rule.stmt_names here s) (rule.stmts_names here ss) (told.stmt_mentions s) (told.stmts_mentions ss) (of-stmt w here s) (of-stmts w here ss) more

-- ---- routines: the declarations of a scope are listed before its other names

of-vars : (w : Place → ℕ) (scope : Scope) (here : Site) (vs : List (Var Place)) (more : List Occurrence)
    → of_scope w (map rule.var_name vs) + of_rules w (rule.vars_names here vs more) ≡ of_told w (flat_map (told.var_mentions scope) vs) + of_rules w more
of-vars w scope here [] more = omega arith
of-vars w scope here (v ∷ vs) more =
    let x = of-kind w here v.kind (rule.vars_names here vs more) in
    let y = of-vars w scope here vs more in
    let z = told-append w (told.kind_mentions v.kind) (flat_map (told.var_mentions scope) vs) in omega arith

of-params : (w : Place → ℕ) (scope : Scope) (here : Site) (vs : List (Param Place)) (more : List Occurrence)
    → of_scope w (map rule.param_name vs) + of_rules w (rule.params_names here vs more) ≡ of_told w (flat_map (told.param_mentions scope) vs) + of_rules w more
of-params w scope here [] more = omega arith
of-params w scope here (v ∷ vs) more =
    let x = of-scalar w here v.kind (rule.params_names here vs more) in
    let y = of-params w scope here vs more in
    let z = told-append w (told.scalar_mentions v.kind) (flat_map (told.param_mentions scope) vs) in omega arith

of-optional : {X : Type 0} (w : Place → ℕ) (names : X → List Occurrence → List Occurrence) (mentions : X → List Mention)
    → ((x : X) → Weighs w (names x) (mentions x)) → (x : Option X) → Weighs w (rule.optional_names names x) (option_map_or mentions x [])
of-optional w names mentions each None more = omega arith
of-optional w names mentions each (Some x) more = each x more

of-inner : (w : Place → ℕ) (here : Site) (r : Routine Place) (more : List Occurrence)
    → of_scope w (rule.routine_scope r) + of_rules w (rule.routine_inner here r more) ≡ of_told w (told.routine_inner r) + of_rules w more
of-inner w here r more =
    let scope : Scope = told.scope_from r.place r.close_place in
    let end : List Mention = told.closes r.close r.close_place r.place ∷ [] in
    let value : List Mention = option_map_or told.expr_mentions r.value [] in
    let vars : List Mention = flat_map (told.var_mentions scope) r.vars in
    let result : List Mention = option_map_or told.scalar_mentions r.result [] in
    let ended : List Occurrence = rule.closes r.close r.close_place r.name ∷ more in
    let valued : List Occurrence = rule.optional_names (rule.expr_names here) r.value ended in
    let done : List Occurrence = rule.stmts_names here r.body valued in
    let kept : List Occurrence = rule.vars_names here r.vars done in
    let a = of-params w scope here r.params (rule.optional_names (rule.scalar_names here) r.result kept) in
    let b = of-optional w (rule.scalar_names here) told.scalar_mentions (of-scalar w here) r.result kept in
    let c = of-vars w scope here r.vars done in
    let d = of-stmts w here r.body valued in
    let e = of-optional w (rule.expr_names here) told.expr_mentions (of-expr w here) r.value ended in
    let f = scope-append w (map rule.param_name r.params) (map rule.var_name r.vars) in
    let g = told-append w (flat_map (told.param_mentions scope) r.params) (result ++ (vars ++ (told.stmts_mentions r.body ++ (value ++ end)))) in
    let h = told-append w result (vars ++ (told.stmts_mentions r.body ++ (value ++ end))) in
    let i = told-append w vars (told.stmts_mentions r.body ++ (value ++ end)) in
    let j = told-append w (told.stmts_mentions r.body) (value ++ end) in
    let k = told-append w value end in
    omega arith

of-routine : (w : Place → ℕ) (is_entry : Bool) (scope : Scope) (outer : Site) (r : Routine Place) (more : List Occurrence)
    → w r.place + of_rules w (rule.routine_names outer r more) ≡ of_told w (told.routine_mentions is_entry scope r) + of_rules w more
of-routine w is_entry scope outer r more =
    let here : Site = inside (rule.routine_scope r) outer in
    let x = of-declarations w outer.means [] (rule.routine_scope r) (rule.routine_inner here r more) in
    let y = of-inner w here r more in omega arith

of-routines : (w : Place → ℕ) (scope : Scope) (outer : Site) (rs : List (Routine Place)) (more : List Occurrence)
    → of_scope w (map rule.routine_name rs) + of_rules w (rule.routines_names outer rs more) ≡ of_told w (flat_map (told.routine_mentions false scope) rs) + of_rules w more
of-routines w scope outer [] more = omega arith
of-routines w scope outer (r ∷ rs) more =
    let x = of-routine w false scope outer r (rule.routines_names outer rs more) in
    let y = of-routines w scope outer rs more in
    let z = told-append w (told.routine_mentions false scope r) (flat_map (told.routine_mentions false scope) rs) in omega arith

of-entries : (w : Place → ℕ) (scope : Scope) (outer : Site) (rs : List (Routine Place)) (more : List Occurrence)
    → of_scope w (map rule.entry_name rs) + of_rules w (rule.routines_names outer rs more) ≡ of_told w (flat_map (told.routine_mentions true scope) rs) + of_rules w more
of-entries w scope outer [] more = omega arith
of-entries w scope outer (r ∷ rs) more =
    let x = of-routine w true scope outer r (rule.routines_names outer rs more) in
    let y = of-entries w scope outer rs more in
    let z = told-append w (told.routine_mentions true scope r) (flat_map (told.routine_mentions true scope) rs) in omega arith

-- ---- monitors and processes

of-member : (w : Place → ℕ) (scope : Scope) (here : Site) (m : Member Place) (more : List Occurrence)
    → w (rule.member_name m).1.place + of_rules w (rule.member_inner here m more) ≡ of_told w (told.member_mentions scope m) + of_rules w more
of-member w scope here (variable_member v) more = let x = of-kind w here v.kind more in omega arith
of-member w scope here (condition_member name p) more = omega arith

of-members : (w : Place → ℕ) (scope : Scope) (here : Site) (ms : List (Member Place)) (more : List Occurrence)
    → of_scope w (map rule.member_name ms) + of_rules w (rule.members_names here ms more) ≡ of_told w (flat_map (told.member_mentions scope) ms) + of_rules w more
of-members w scope here [] more = omega arith
of-members w scope here (m ∷ ms) more =
    let x = of-member w scope here m (rule.members_names here ms more) in
    let y = of-members w scope here ms more in
    let z = told-append w (told.member_mentions scope m) (flat_map (told.member_mentions scope) ms) in omega arith

of-monitor : (w : Place → ℕ) (around : Scope) (outer : Site) (m : Monitor Place) (more : List Occurrence)
    → w m.place + of_rules w (rule.monitor_names outer m more) ≡ of_told w (told.monitor_mentions around m) + of_rules w more
of-monitor w around outer m more =
    let scope : Scope = told.scope_from m.place m.close_place in
    let here : Site = inside_monitor m.place (rule.monitor_scope m) outer in
    let end : List Mention = told.closes m.close m.close_place m.place ∷ [] in
    let ended : List Occurrence = rule.closes m.close m.close_place m.name ∷ more in
    let entries : List Mention = flat_map (told.routine_mentions true scope) m.entries in
    let a = of-declarations w outer.means [] (rule.monitor_scope m) (rule.monitor_inner here m more) in
    let b = scope-append w (map rule.member_name m.members) (map rule.entry_name m.entries) in
    let c = of-members w scope here m.members (rule.routines_names here m.entries ended) in
    let d = of-entries w scope here m.entries ended in
    let e = told-append w (flat_map (told.member_mentions scope) m.members) (entries ++ end) in
    let f = told-append w entries end in omega arith

of-activation : (w : Place → ℕ) (here : Site) (x : Activation Place) → Weighs w (rule.activation_names here x) (told.activation_mentions x)
of-activation w here (periodic frame deadline start) more =
    let due : List Mention = option_map_or told.constant_mentions deadline [] in
    let from : List Mention = option_map_or told.constant_mentions start [] in
    let started : List Occurrence = rule.optional_names (rule.constant_names here) start more in
    let a = of-constant w here frame (rule.optional_names (rule.constant_names here) deadline started) in
    let b = of-optional w (rule.constant_names here) told.constant_mentions (of-constant w here) deadline started in
    let c = of-optional w (rule.constant_names here) told.constant_mentions (of-constant w here) start more in
    let d = told-append w (told.constant_mentions frame) (due ++ from) in
    let e = told-append w due from in omega arith
of-activation w here (at_event name place frame deadline) more =
    let a = of-constant w here frame (rule.optional_names (rule.constant_names here) deadline more) in
    let b = of-optional w (rule.constant_names here) told.constant_mentions (of-constant w here) deadline more in
    let c = told-append w (told.constant_mentions frame) (option_map_or told.constant_mentions deadline []) in omega arith

of-constants : (w : Place → ℕ) (here : Site) (cs : List (Constant Place)) → Weighs w (rule.constants_names here cs) (flat_map told.constant_mentions cs)
of-constants w here [] more = omega arith
of-constants w here (c ∷ cs) more =
    both w (rule.constant_names here c) (rule.constants_names here cs) (told.constant_mentions c) (flat_map told.constant_mentions cs) (of-constant w here c) (of-constants w here cs) more

of-handler : (w : Place → ℕ) (here : Site) (h : Handler Place) → Weighs w (rule.handler_names here h) (told.handler_mentions h)
of-handler w here h more =
    both w (rule.constants_names here h.numbers) (rule.stmts_names here h.body) (flat_map told.constant_mentions h.numbers) (told.stmts_mentions h.body) (of-constants w here h.numbers) (of-stmts w here h.body) more

of-process : (w : Place → ℕ) (around : Scope) (outer : Site) (p : Process Place) (more : List Occurrence)
    → w p.place + of_rules w (rule.process_names outer p more) ≡ of_told w (told.process_mentions around p) + of_rules w more
of-process w around outer p more =
    let scope : Scope = told.scope_from p.place p.close_place in
    let here : Site = inside (rule.process_scope p) outer in
    let end : List Mention = told.closes p.close p.close_place p.place ∷ [] in
    let ended : List Occurrence = rule.closes p.close p.close_place p.name ∷ more in
    let handled : List Mention = option_map_or told.handler_mentions p.handler [] in
    let handling : List Occurrence = rule.optional_names (rule.handler_names here) p.handler ended in
    let done : List Occurrence = rule.stmts_names here p.body handling in
    let routines : List Mention = flat_map (told.routine_mentions false scope) p.routines in
    let called : List Occurrence = rule.routines_names here p.routines done in
    let vars : List Mention = flat_map (told.var_mentions scope) p.vars in
    let a = of-declarations w outer.means [] (rule.process_scope p) (rule.process_inner here p more) in
    let b = scope-append w (map rule.var_name p.vars) (map rule.routine_name p.routines) in
    let c = of-activation w here p.activation (rule.vars_names here p.vars called) in
    let d = of-vars w scope here p.vars called in
    let e = of-routines w scope here p.routines done in
    let f = of-stmts w here p.body handling in
    let g = of-optional w (rule.handler_names here) told.handler_mentions (of-handler w here) p.handler ended in
    let h = told-append w (told.activation_mentions p.activation) (vars ++ (routines ++ (told.stmts_mentions p.body ++ (handled ++ end)))) in
    let i = told-append w vars (routines ++ (told.stmts_mentions p.body ++ (handled ++ end))) in
    let j = told-append w routines (told.stmts_mentions p.body ++ (handled ++ end)) in
    let k = told-append w (told.stmts_mentions p.body) (handled ++ end) in
    let l = told-append w handled end in omega arith

-- ---- the program

of-decl : (w : Place → ℕ) (scope : Scope) (here : Site) (d : Decl Place) (more : List Occurrence)
    → w (rule.decl_name d).1.place + of_rules w (rule.inner_names here d more) ≡ of_told w (told.decl_mentions scope d) + of_rules w more
of-decl w scope here (constant name place c) more = let x = of-constant w here c more in omega arith
of-decl w scope here (device name place is_out) more = omega arith
of-decl w scope here (event name place) more = omega arith
of-decl w scope here (routine r) more = of-routine w false scope here r more
of-decl w scope here (monitor m) more = of-monitor w scope here m more
of-decl w scope here (process p) more = of-process w scope here p more

of-decls : (w : Place → ℕ) (scope : Scope) (members : Place → Reach) (earlier : Names) (ds : List (Decl Place)) → Weighs w (rule.decls_names members earlier ds) (flat_map (told.decl_mentions scope) ds)
of-decls w scope members earlier [] more = omega arith
of-decls w scope members earlier (d ∷ ds) more =
    let here : Site = record { means = first (earlier ++ rule.others (d ∷ ds)); members = members } in
    let rest : List Occurrence = rule.decls_names members (earlier ++ rule.decl_name d ∷ []) ds more in
    let x = of-decl w scope here d rest in
    let y = of-decls w scope members (earlier ++ rule.decl_name d ∷ []) ds more in
    let z = told-append w (told.decl_mentions scope d) (flat_map (told.decl_mentions scope) ds) in omega arith

pub of-program : (w : Place → ℕ) (g : Prog Place) → of_rules w (rule.names g) ≡ of_told w (told.mentions g)
of-program w g =
    let scope : Scope = told.scope_from told.before_all g.close_place in
    let end : List Mention = told.closes g.close g.close_place g.place ∷ [] in
    let a = of-decls w scope (λ place. first (rule.entries_at g.decls place)) (rule.program_name g ∷ []) g.decls (rule.closes g.close g.close_place g.name ∷ []) in
    let b = told-append w (flat_map (told.decl_mentions scope) g.decls) end in omega arith
