-- Something is found wrong with a part exactly where the rule fails of it.
use Rattle.std.proofs.Common.{◌≡◌, Bool, true, false, not, ◌&&◌, ◌||◌, cond, Option, Some, None, refl, sym, ap, ◌∙◌, if◌then◌else◌}
use Rattle.std.specs.Option.{is_some, option_or}
use Rattle.std.proofs.Math.Bool.{or_comm, or-true}
use Rattle.syntax_tree.specs.Plain.{Name}
use Rattle.syntax_tree.specs.Placed.{Expr, literal, truth, variable, element, call, minus, negation, paren, row, Exprs, no_exprs, exprs, Operands, no_operands, operand, Ref, whole, part, Stmt, assign, assign_entry, assign_empty, perform, perform_entry, when, when_else, loop, exit_when, get, put, wait, signal, broadcast, except, assert}
use Rattle.syntax_tree.specs.declared.place.Place.{Place}
use Rattle.static_declarations.specs.declared.home.StmtContext.{StmtContext}
use Rattle.static_declarations.specs.declared.home.StmtContext.TheVariants as home_is
use Rattle.static_declarations.specs.declared.home.Where.{Where}
use Rattle.static_declarations.specs.Things.{Thing, constant_thing, device_thing, routine_thing, variable_thing, loop_thing, other_thing}
use Rattle.static_declarations.specs.Parts.{Part, statement, answer, stmt_place}
use Rattle.static_types.specs.Sorts.{Named}
use Rattle.static_types.specs.Conduct.{is_function_kind, is_function, is_procedure, is_barred, strays, exprs_stray, operands_stray, is_foreign, target_strays, in_entry, in_function, stmt_strays, misplaced, is_device, misdirected}
use Rattle.message_conduct.specs.Faults.{Deed, Fault, function_fault, entry_fault, is_entry, term_fault, call_fault, entry_call_fault, entry_value_fault, expr_fault, exprs_fault, operands_fault, change_fault, target_fault, stmt_fault, conduct_fault, direction_fault}
use Rattle.message_conduct.specs.Conduct.{part_place}

-- ---- choices

some-or : {X : Type 0} (x y : Option X) → is_some (option_or x y) ≡ (is_some x || is_some y)
some-or None y = refl
some-or (Some x) y = refl

-- the first of two, of which it is known whether they are there
either : {X : Type 0} {a b : Bool} (x y : Option X) → is_some x ≡ a → is_some y ≡ b → is_some (option_or x y) ≡ (a || b)
either x y one other = some-or x y ∙ (λ i. one i || other i)

some-if : {X : Type 0} (b : Bool) (x : X) → is_some (if b then Some x else None) ≡ b
some-if true x = refl
some-if false x = refl

some-unless : {X : Type 0} (b : Bool) (x : X) → is_some (if b then None else Some x) ≡ not b
some-unless true x = refl
some-unless false x = refl

-- ---- what stands in a routine of that kind

words : (home : StmtContext) (x : Fault) → is_some (if in_entry home then None else Some x) ≡ not (in_entry home)
words home x = some-unless (in_entry home) x

by_function : (home : StmtContext) (deed : Deed) → is_some (function_fault home deed) ≡ in_function home
by_function home_is.Free deed = refl
by_function home_is.Entry deed = refl
by_function (home_is.Function own) deed = refl

changed : (home : StmtContext) (name : Name) (thing : Option Thing) → is_some (change_fault home name thing) ≡ is_foreign home thing
changed home_is.Free name thing = refl
changed home_is.Entry name thing = refl
changed (home_is.Function own) name thing = some-if (is_foreign (home_is.Function own) thing) _

-- ---- calls

either-kind : {X : Type 0} (p e : Bool) (x y : X) → is_some (option_or (if p then Some x else None) (if e then Some y else None)) ≡ (e || p)
either-kind true true x y = refl
either-kind true false x y = refl
either-kind false true x y = refl
either-kind false false x y = refl

term : (name : Name) (thing : Option Thing) → is_some (term_fault name thing) ≡ is_barred thing
term name None = refl
term name (Some constant_thing) = refl
term name (Some (device_thing is_out)) = refl
term name (Some (routine_thing entry r)) = either-kind (not (is_function_kind r.kind)) entry _ _
term name (Some (variable_thing owner shape)) = refl
term name (Some loop_thing) = refl
term name (Some other_thing) = refl

-- an entry inside an entry, the kind, and the function around; and what stands in the call
around : (entry kind by inner : Bool) → (inner || (entry || (kind || by))) ≡ ((entry || by) || (kind || inner))
around entry kind by inner = or_comm inner (entry || (kind || by)) ∙ sorted entry kind
  where
    sorted : (entry kind : Bool) → ((entry || (kind || by)) || inner) ≡ ((entry || by) || (kind || inner))
    sorted true kind = refl
    sorted false true = sym (or-true by)
    sorted false false = refl

bare : (is entry kind by inner : Bool) → (inner || ((is && entry) || (kind || (entry || by)))) ≡ ((entry || by) || (kind || inner))
bare is entry kind by inner = ap (λ b. inner || b) (once is entry) ∙ around entry kind by inner
  where
    once : (is entry : Bool) → ((is && entry) || (kind || (entry || by))) ≡ (entry || (kind || by))
    once true true = refl
    once false true = or-true kind
    once true false = refl
    once false false = refl

called : (is : Bool) (home : StmtContext) → is_some (if is then entry_fault home else None) ≡ (is && in_entry home)
called true home = some-if (in_entry home) _
called false home = refl

bare-call : (home : StmtContext) (name : Name) (thing : Option Thing) → is_some (call_fault home name thing) ≡ ((is_entry thing && in_entry home) || (is_function thing || (in_entry home || in_function home)))
bare-call home name thing =
    either _ _ (called (is_entry thing) home)
    (either _ _ (some-if (is_function thing) _)
    (either _ _ (some-if (in_entry home) _) (by_function home _)))

entry-call : (home : StmtContext) (mon name : Name) (thing : Option Thing) → is_some (entry_call_fault home mon name thing) ≡ (in_entry home || (is_function thing || in_function home))
entry-call home mon name thing = either _ _ (some-if (in_entry home) _) (either _ _ (some-if (is_function thing) _) (by_function home _))

entry-value : (home : StmtContext) (mon name : Name) (thing : Option Thing) → is_some (entry_value_fault home mon name thing) ≡ (in_entry home || (is_procedure thing || in_function home))
entry-value home mon name thing = either _ _ (some-if (in_entry home) _) (either _ _ (some-if (is_procedure thing) _) (by_function home _))

-- ---- expressions

mutual
  in-expr : (named : Named) (e : Expr Place) → is_some (expr_fault named e) ≡ strays named e
  in-expr named (literal p n) = refl
  in-expr named (truth p b) = refl
  in-expr named (variable p name) = refl
  in-expr named (element p name i) = in-expr named i
  in-expr named (call p name es) = either _ _ (in-exprs named es) (term name (named p)) ∙ or_comm (exprs_stray named es) (is_barred (named p))
  in-expr named (minus p e) = in-expr named e
  in-expr named (negation p e) = in-expr named e
  in-expr named (paren p e) = in-expr named e
  in-expr named (row e rs) = either _ _ (in-expr named e) (in-operands named rs)

  in-exprs : (named : Named) (es : Exprs Place) → is_some (exprs_fault named es) ≡ exprs_stray named es
  in-exprs named no_exprs = refl
  in-exprs named (exprs e es) = either _ _ (in-expr named e) (in-exprs named es)

  in-operands : (named : Named) (rs : Operands Place) → is_some (operands_fault named rs) ≡ operands_stray named rs
  in-operands named no_operands = refl
  in-operands named (operand op e rs) = either _ _ (in-expr named e) (in-operands named rs)

-- ---- statements

or-false : (b : Bool) → b ≡ (b || false)
or-false true = refl
or-false false = refl

in-target : (named : Named) (home : StmtContext) (r : Ref Place) → is_some (target_fault named home r) ≡ target_strays named home r
in-target named home (whole p name) = changed home name (named p) ∙ or-false (is_foreign home (named p))
in-target named home (part p name i) =
    either _ _ (in-expr named i) (changed home name (named p)) ∙ or_comm (strays named i) (is_foreign home (named p))

-- of what stands in a statement and of the statement itself, one is nothing, or they are turned
inner-alone : (x : Option Fault) (b : Bool) → is_some x ≡ b → is_some (option_or x None) ≡ b
inner-alone None b is = is
inner-alone (Some x) b is = is

turned : {a b : Bool} (x y : Option Fault) → is_some x ≡ a → is_some y ≡ b → is_some (option_or x y) ≡ (b || a)
turned {a} {b} x y one other = either x y one other ∙ or_comm a b

pub in-stmt : (named : Named) (here : Where) (s : Stmt Place) → is_some (stmt_fault named here s) ≡ stmt_strays named here s
in-stmt named here (assign r e) = inner-alone _ _ (either _ _ (in-target named here.home r) (in-expr named e))
in-stmt named here (assign_entry r mon p entry q es) =
    either _ _ (either _ _ (in-target named here.home r) (in-exprs named es)) (entry-value here.home mon entry (named q))
    ∙ around (in_entry here.home) (is_procedure (named q)) (in_function here.home) (target_strays named here.home r || exprs_stray named es)
in-stmt named here (assign_empty r cond p) = turned _ _ (in-target named here.home r) (words here.home _)
in-stmt named here (perform p name es) =
    either _ _ (in-exprs named es) (bare-call here.home name (named p))
    ∙ bare (is_entry (named p)) (in_entry here.home) (is_function (named p)) (in_function here.home) (exprs_stray named es)
in-stmt named here (perform_entry p mon entry q es) =
    either _ _ (in-exprs named es) (entry-call here.home mon entry (named q))
    ∙ around (in_entry here.home) (is_function (named q)) (in_function here.home) (exprs_stray named es)
in-stmt named here (when p e a) = inner-alone _ _ (in-expr named e)
in-stmt named here (when_else p e a b) = inner-alone _ _ (in-expr named e)
in-stmt named here (loop p name q low high a) = refl
in-stmt named here (exit_when p e) = turned _ _ (in-expr named e) (some-unless here.in_loop _)
in-stmt named here (get p dev q r) = turned _ _ (in-target named here.home r) (by_function here.home _)
in-stmt named here (put p dev q e) = turned _ _ (in-expr named e) (by_function here.home _)
in-stmt named here (wait p cond q limit number) = words here.home _
in-stmt named here (signal p cond q) = words here.home _
in-stmt named here (broadcast p cond q) = words here.home _
in-stmt named here (except p number) = refl
in-stmt named here (assert p e) = inner-alone _ _ (in-expr named e)

-- ---- parts

pub finds-misplaced : (named : Named) (x : Part) → misplaced named x ≡ (if is_some (conduct_fault named x) then Some (part_place x) else None)
finds-misplaced named (statement here s) = ap (λ b. cond b (Some (stmt_place s)) None) (sym (in-stmt named here s))
finds-misplaced named (answer name s e) = ap (λ b. cond b (Some name) None) (sym (in-expr named e))

device : (b : Bool) (x : Fault) (p : Place) → (if b then Some p else None) ≡ (if is_some (if b then Some x else None) then Some p else None)
device true x p = refl
device false x p = refl

pub finds-misdirected : (named : Named) (x : Part) → misdirected named x ≡ (if is_some (direction_fault named x) then Some (part_place x) else None)
finds-misdirected named (statement here (assign r e)) = refl
finds-misdirected named (statement here (assign_entry r mon p entry q es)) = refl
finds-misdirected named (statement here (assign_empty r cond p)) = refl
finds-misdirected named (statement here (perform p name es)) = refl
finds-misdirected named (statement here (perform_entry p mon entry q es)) = refl
finds-misdirected named (statement here (when p e a)) = refl
finds-misdirected named (statement here (when_else p e a b)) = refl
finds-misdirected named (statement here (loop p name q low high a)) = refl
finds-misdirected named (statement here (exit_when p e)) = refl
finds-misdirected named (statement here (get p dev q r)) = device (is_device true (named q)) _ p
finds-misdirected named (statement here (put p dev q e)) = device (is_device false (named q)) _ p
finds-misdirected named (statement here (wait p cond q limit number)) = refl
finds-misdirected named (statement here (signal p cond q)) = refl
finds-misdirected named (statement here (broadcast p cond q)) = refl
finds-misdirected named (statement here (except p number)) = refl
finds-misdirected named (statement here (assert p e)) = refl
finds-misdirected named (answer name s e) = refl
