-- Each call in a text is of a routine below a level, where those that the text's calls list are below it.
use Rattle.std.proofs.Common.{◌≡◌, ◌<◌, ℕ, Bool, true, false, if◌then◌else◌, List, [], ◌∷◌, Option, Some, None, ap, sym, ◌∙◌, subst, true≢false}
use Rattle.std.specs.Prelude.{Contains}
use Rattle.std.proofs.lemmas.Option.{same_Some}
use Rattle.base.proofs.Members.{behind, at_front}
use Rattle.syntax_tree.specs.Plain.{Name}
use Rattle.syntax_tree.specs.Placed.{Scalar, Expr, literal, truth, variable, element, call, minus, negation, paren, row, Exprs, no_exprs, exprs, Operands, no_operands, operand, Ref, whole, part, Stmt, assign, assign_entry, assign_empty, perform, perform_entry, when, when_else, loop, exit_when, get, put, wait, signal, broadcast, except, assert, Stmts, no_stmts, stmts, Routine, Process, Prog, plain_expr, plain_exprs, plain_operands, plain_ref, plain_stmt, plain_stmts, plain_answers}
use Rattle.syntax_tree.specs.declared.place.Place.{Place}
use Rattle.static_names.specs.declared.kind.Declared.{Declared}
use Rattle.static_names.specs.declared.kind.Kind.TheVariants as kind_is
use Rattle.static_names.specs.declared.kind.NameUse.TheVariants as want_is
use Rattle.static_names.specs.Reach.{same, suits, or_else, Site, inside, through}
use Rattle.static_names.specs.Occurrences.{Occurrence, used, uses, names, declared_at, constant_names, expr_names, exprs_names, operands_names, ref_names, entry_names, loop_name, stmt_names, stmts_names, optional_names, routine_scope, routine_names, closes}
use Rattle.source_semantics.specs.Nesting.{ExprBelow, ExprsBelow, OperandsBelow, RefBelow, StmtBelow, StmtsBelow, AnswersBelow}
use Rattle.static_calls.specs.Calls.{called, expr_calls, exprs_calls, operands_calls, ref_calls, stmt_calls, stmts_calls, answer_calls, routine_calls}
use Rattle.syntax_tree.specs.Parts.{routines}
use Rattle.static_semantics.specs.Places.{IsFound, NamesFound}
use Rattle.static_semantics.specs.Mirrors.{routine_of}
use Rattle.wellformed_law.proofs.WellformedCallsBehind.{behind_constant, at_body}

-- the routine that a name means, which is declared at the place
pub record Leads (g : Prog Place) (p : Process Place) (x : Name) (place : Place) : Type 0 where
  pub one : Routine Place
  pub listed : Contains (routines g.decls) one
  pub is : one.place ≡ place
  pub found : routine_of g p x ≡ Some one

-- each name that may be called at the site means a routine
abbrev pub Known : Prog Place → Process Place → Site → Type 0
Known g p site = (x : Name) (d : Declared) → site.means x ≡ Some d → suits want_is.Routine d.kind ≡ true → Leads g p x d.place

-- the level of a routine that was looked for
abbrev pub level_of : (Place → ℕ) → Option (Routine Place) → ℕ
level_of level None = 0
level_of level (Some r) = level r.place

abbrev pub name_level : Prog Place → Process Place → (Place → ℕ) → Name → ℕ
name_level g p level x = level_of level (routine_of g p x)

-- all are names of the program
abbrev pub AreNames : Prog Place → List Occurrence → Type 0
AreNames g os = (o : Occurrence) → Contains os o → Contains (names g) o

pub names-rest : (g : Prog Place) (o : Occurrence) (os : List Occurrence) → AreNames g (o ∷ os) → AreNames g os
names-rest g o os h x listed = h x (behind o os x listed)

entry-rest : (g : Prog Place) (site : Site) (mon : Name) (q : Place) (entry : Name) (t : Place) (os : List Occurrence) → AreNames g (entry_names site mon q entry t os) → AreNames g os
entry-rest g site mon q entry t os h =
    let as_entry : Occurrence = used entry t want_is.Entry (through site mon entry) in
    names-rest g as_entry os (names-rest g (uses site mon q want_is.Monitor) (as_entry ∷ os) h)

-- the routines that are called stand below a level
abbrev pub AllFall : Prog Place → (Place → ℕ) → ℕ → List Place → Type 0
AllFall g level n ps = (q : Place) → Contains ps q → (one : Routine Place) → Contains (routines g.decls) one → one.place ≡ q → level q < n

-- a loop's variable is not called
known-loop : (g : Prog Place) (p : Process Place) (site : Site) → Known g p site → (i : Name) (q : Place) → Known g p (inside (loop_name i q ∷ []) site)
known-loop g p site known i q x d means suited = by (same x i) means
  where
    variable_called : Some (record { place = q; kind = kind_is.LoopVariable }) ≡ Some d → Leads g p x d.place
    variable_called e = absurd (true≢false (sym suited ∙ ap (λ (c : Declared). suits want_is.Routine c.kind) (sym (same_Some _ d e))))

    by : (b : Bool) → or_else (if b then Some (record { place = q; kind = kind_is.LoopVariable }) else None) (site.means x) ≡ Some d → Leads g p x d.place
    by true e = variable_called e
    by false e = known x d e suited

-- what a part of a text leaves: its calls are below, and all this holds of what comes behind it
record Done (g : Prog Place) (level : Place → ℕ) (n : ℕ) (Below : Type 0) (more : List Occurrence) (rest : List Place) : Type 0 where
  below : Below
  listed : AreNames g more
  falls : AllFall g level n rest

module _ (g : Prog Place) (p : Process Place) (level : Place → ℕ) (found : NamesFound g) (n : ℕ) where
  call_below : (site : Site) → Known g p site → (x : Name) (q : Place) (more : List Occurrence) (rest : List Place)
      → AreNames g (uses site x q want_is.Routine ∷ more) → AllFall g level n (called (declared_at (names g) q) rest) → name_level g p level x < n
  call_below site known x q more rest ns fs = subst (λ v. v < n) (sym (ap (level_of level) k.found ∙ ap level k.is)) below
    where
      f : IsFound g q want_is.Routine (site.means x)
      f = found.uses x q want_is.Routine (site.means x) (ns (used x q want_is.Routine (site.means x)) (at_front (used x q want_is.Routine (site.means x)) more))

      k : Leads g p x f.declared.place
      k = known x f.declared f.meant f.suited

      below : level f.declared.place < n
      below = fs f.declared.place (subst (λ o. Contains (called o rest) f.declared.place) (sym f.found) (at_front f.declared.place rest)) k.one k.listed k.is

  called_rest : (o : Option Place) (rest : List Place) → AllFall g level n (called o rest) → AllFall g level n rest
  called_rest None rest fs = fs
  called_rest (Some q) rest fs = λ r listed. fs r (behind q rest r listed)

  mutual
    expr_below : (site : Site) → Known g p site → (e : Expr Place) (more : List Occurrence) (rest : List Place) → AreNames g (expr_names site e more) → AllFall g level n (expr_calls (declared_at (names g)) e rest)
        → Done g level n (ExprBelow (name_level g p level) n (plain_expr e)) more rest
    expr_below site known (literal q v) more rest ns fs = record { below = tt; listed = ns; falls = fs }
    expr_below site known (truth q b) more rest ns fs = record { below = tt; listed = ns; falls = fs }
    expr_below site known (variable q name) more rest ns fs = record { below = tt; listed = names-rest g _ more ns; falls = fs }
    expr_below site known (element q name i) more rest ns fs = expr_below site known i more rest (names-rest g _ _ ns) fs
    expr_below site known (call q name es) more rest ns fs =
        let a = exprs_below site known es more rest (names-rest g _ _ ns) (called_rest (declared_at (names g) q) (exprs_calls (declared_at (names g)) es rest) fs) in
        record { below = (call_below site known name q (exprs_names site es more) (exprs_calls (declared_at (names g)) es rest) ns fs, a.below); listed = a.listed; falls = a.falls }
    expr_below site known (minus q e) more rest ns fs = expr_below site known e more rest ns fs
    expr_below site known (negation q e) more rest ns fs = expr_below site known e more rest ns fs
    expr_below site known (paren q e) more rest ns fs = expr_below site known e more rest ns fs
    expr_below site known (row e rs) more rest ns fs =
        let a = expr_below site known e (operands_names site rs more) (operands_calls (declared_at (names g)) rs rest) ns fs in
        let b = operands_below site known rs more rest a.listed a.falls in
        record { below = (a.below, b.below); listed = b.listed; falls = b.falls }

    exprs_below : (site : Site) → Known g p site → (es : Exprs Place) (more : List Occurrence) (rest : List Place) → AreNames g (exprs_names site es more) → AllFall g level n (exprs_calls (declared_at (names g)) es rest)
        → Done g level n (ExprsBelow (name_level g p level) n (plain_exprs es)) more rest
    exprs_below site known no_exprs more rest ns fs = record { below = tt; listed = ns; falls = fs }
    exprs_below site known (exprs e es) more rest ns fs =
        let a = expr_below site known e (exprs_names site es more) (exprs_calls (declared_at (names g)) es rest) ns fs in
        let b = exprs_below site known es more rest a.listed a.falls in
        record { below = (a.below, b.below); listed = b.listed; falls = b.falls }

    operands_below : (site : Site) → Known g p site → (rs : Operands Place) (more : List Occurrence) (rest : List Place) → AreNames g (operands_names site rs more) → AllFall g level n (operands_calls (declared_at (names g)) rs rest)
        → Done g level n (OperandsBelow (name_level g p level) n (plain_operands rs)) more rest
    operands_below site known no_operands more rest ns fs = record { below = tt; listed = ns; falls = fs }
    operands_below site known (operand op e rs) more rest ns fs =
        let a = expr_below site known e (operands_names site rs more) (operands_calls (declared_at (names g)) rs rest) ns fs in
        let b = operands_below site known rs more rest a.listed a.falls in
        record { below = (a.below, b.below); listed = b.listed; falls = b.falls }

  ref_below : (site : Site) → Known g p site → (r : Ref Place) (more : List Occurrence) (rest : List Place) → AreNames g (ref_names site r more) → AllFall g level n (ref_calls (declared_at (names g)) r rest)
      → Done g level n (RefBelow (name_level g p level) n (plain_ref r)) more rest
  ref_below site known (whole q name) more rest ns fs = record { below = tt; listed = names-rest g _ more ns; falls = fs }
  ref_below site known (part q name i) more rest ns fs = expr_below site known i more rest (names-rest g _ _ ns) fs

  mutual
    stmt_below : (site : Site) → Known g p site → (s : Stmt Place) (more : List Occurrence) (rest : List Place) → AreNames g (stmt_names site s more) → AllFall g level n (stmt_calls (declared_at (names g)) s rest)
        → Done g level n (StmtBelow (name_level g p level) n (plain_stmt s)) more rest
    stmt_below site known (assign r e) more rest ns fs =
        let a = ref_below site known r (expr_names site e more) (expr_calls (declared_at (names g)) e rest) ns fs in
        let b = expr_below site known e more rest a.listed a.falls in
        record { below = (a.below, b.below); listed = b.listed; falls = b.falls }
    stmt_below site known (assign_entry r mon q entry t es) more rest ns fs =
        let a = ref_below site known r (entry_names site mon q entry t (exprs_names site es more)) (called (declared_at (names g) t) (exprs_calls (declared_at (names g)) es rest)) ns fs in
        let b = exprs_below site known es more rest (entry-rest g site mon q entry t (exprs_names site es more) a.listed) (called_rest (declared_at (names g) t) (exprs_calls (declared_at (names g)) es rest) a.falls) in
        record { below = (a.below, b.below); listed = b.listed; falls = b.falls }
    stmt_below site known (assign_empty r cond q) more rest ns fs =
        let a = ref_below site known r (uses site cond q want_is.Condition ∷ more) rest ns fs in
        record { below = a.below; listed = names-rest g _ more a.listed; falls = a.falls }
    stmt_below site known (perform q name es) more rest ns fs =
        let a = exprs_below site known es more rest (names-rest g _ _ ns) (called_rest (declared_at (names g) q) (exprs_calls (declared_at (names g)) es rest) fs) in
        record { below = (call_below site known name q (exprs_names site es more) (exprs_calls (declared_at (names g)) es rest) ns fs, a.below); listed = a.listed; falls = a.falls }
    stmt_below site known (perform_entry q mon entry t es) more rest ns fs =
        exprs_below site known es more rest (entry-rest g site mon q entry t (exprs_names site es more) ns) (called_rest (declared_at (names g) t) (exprs_calls (declared_at (names g)) es rest) fs)
    stmt_below site known (when q e a) more rest ns fs =
        let x = expr_below site known e (stmts_names site a more) (stmts_calls (declared_at (names g)) a rest) ns fs in
        let y = stmts_below site known a more rest x.listed x.falls in
        record { below = (x.below, y.below); listed = y.listed; falls = y.falls }
    stmt_below site known (when_else q e a b) more rest ns fs =
        let x = expr_below site known e (stmts_names site a (stmts_names site b more)) (stmts_calls (declared_at (names g)) a (stmts_calls (declared_at (names g)) b rest)) ns fs in
        let y = stmts_below site known a (stmts_names site b more) (stmts_calls (declared_at (names g)) b rest) x.listed x.falls in
        let z = stmts_below site known b more rest y.listed y.falls in
        record { below = (x.below, y.below, z.below); listed = z.listed; falls = z.falls }
    stmt_below site known (loop q name t low high a) more rest ns fs =
        let inner = stmts_names (inside (loop_name name t ∷ []) site) a more in
        let first = behind_constant (AreNames g) (names-rest g) site low (constant_names site high inner) (names-rest g _ _ ns) in
        let second = behind_constant (AreNames g) (names-rest g) site high inner first in
        stmts_below (inside (loop_name name t ∷ []) site) (known-loop g p site known name t) a more rest second fs
    stmt_below site known (exit_when q e) more rest ns fs = expr_below site known e more rest ns fs
    stmt_below site known (get q dev t r) more rest ns fs = ref_below site known r more rest (names-rest g _ _ ns) fs
    stmt_below site known (put q dev t e) more rest ns fs = expr_below site known e more rest (names-rest g _ _ ns) fs
    stmt_below site known (wait q cond t limit number) more rest ns fs =
        let first = behind_constant (AreNames g) (names-rest g) site limit (constant_names site number more) (names-rest g _ _ ns) in
        record { below = tt; listed = behind_constant (AreNames g) (names-rest g) site number more first; falls = fs }
    stmt_below site known (signal q cond t) more rest ns fs = record { below = tt; listed = names-rest g _ more ns; falls = fs }
    stmt_below site known (broadcast q cond t) more rest ns fs = record { below = tt; listed = names-rest g _ more ns; falls = fs }
    stmt_below site known (except q number) more rest ns fs = record { below = tt; listed = behind_constant (AreNames g) (names-rest g) site number more ns; falls = fs }
    stmt_below site known (assert q e) more rest ns fs = expr_below site known e more rest ns fs

    stmts_below : (site : Site) → Known g p site → (ss : Stmts Place) (more : List Occurrence) (rest : List Place) → AreNames g (stmts_names site ss more) → AllFall g level n (stmts_calls (declared_at (names g)) ss rest)
        → Done g level n (StmtsBelow (name_level g p level) n (plain_stmts ss)) more rest
    stmts_below site known no_stmts more rest ns fs = record { below = tt; listed = ns; falls = fs }
    stmts_below site known (stmts s ss) more rest ns fs =
        let a = stmt_below site known s (stmts_names site ss more) (stmts_calls (declared_at (names g)) ss rest) ns fs in
        let b = stmts_below site known ss more rest a.listed a.falls in
        record { below = (a.below, b.below); listed = b.listed; falls = b.falls }

  -- ---- a whole routine

  -- the body and the answer are below
  pub record RoutineBelow (r : Routine Place) : Type 0 where
    pub body : StmtsBelow (name_level g p level) n (plain_stmts r.body)
    pub answers : AnswersBelow (name_level g p level) n (plain_answers r.result r.value)

  answer_below : (site : Site) → Known g p site → (s : Option (Scalar Place)) (e : Option (Expr Place)) (more : List Occurrence)
      → AreNames g (optional_names (expr_names site) e more) → AllFall g level n (answer_calls (declared_at (names g)) e []) → AnswersBelow (name_level g p level) n (plain_answers s e)
  answer_below site known None e more ns fs = tt
  answer_below site known (Some s) None more ns fs = tt
  answer_below site known (Some s) (Some e) more ns fs = let a = expr_below site known e more [] ns fs in a.below

  pub routine_below : (outer : Site) (r : Routine Place) (more : List Occurrence) → Known g p (inside (routine_scope r) outer) → AreNames g (routine_names outer r more)
      → AllFall g level n (routine_calls (declared_at (names g)) r) → RoutineBelow r
  routine_below outer r more known ns fs =
      let site = inside (routine_scope r) outer in
      let end = closes r.close r.close_place r.name ∷ more in
      let a = stmts_below site known r.body (optional_names (expr_names site) r.value end) (answer_calls (declared_at (names g)) r.value []) (at_body (AreNames g) (names-rest g) outer r more ns) fs in
      record { body = a.below; answers = answer_below site known r.result r.value end a.listed a.falls }
