-- Each call in a text leads where its place says: a walk through the placed tree, with the names and the calls that it lists.
use Rattle.std.proofs.Common.{◌≡◌, Bool, true, false, if◌then◌else◌, List, [], ◌∷◌, ◌++◌, Option, Some, None, ap, sym, ◌∙◌, subst, true≢false}
use Rattle.std.specs.Prelude.{Contains}
use Rattle.std.proofs.lemmas.Option.{same_Some, none-some}
use Rattle.base.proofs.Members.{behind, at_front}
use Rattle.syntax_tree.specs.Plain.{Name}
use Rattle.syntax_tree.specs.Placed.{Scalar, Expr, literal, truth, variable, element, call, minus, negation, paren, row, Exprs, no_exprs, exprs, Operands, no_operands, operand, Ref, whole, part, Stmt, assign, assign_entry, assign_empty, perform, perform_entry, when, when_else, loop, exit_when, get, put, wait, signal, broadcast, except, assert, Stmts, no_stmts, stmts, Routine, Prog, plain_expr, plain_exprs, plain_operands, plain_ref, plain_stmt, plain_stmts, plain_answers, plain_routine}
use Rattle.syntax_tree.specs.declared.place.Place.{Place}
use Rattle.static_names.specs.declared.kind.Declared.{Declared}
use Rattle.static_names.specs.declared.kind.Kind.TheVariants as kind_is
use Rattle.static_names.specs.declared.kind.NameUse.TheVariants as want_is
use Rattle.static_names.specs.Reach.{same, suits, or_else, Site, inside, through, members_of}
use Rattle.static_names.specs.Occurrences.{Occurrence, used, uses, names, declared_at, constant_names, expr_names, exprs_names, operands_names, ref_names, entry_names, loop_name, stmt_names, stmts_names, optional_names, routine_scope, routine_names, closes}
use Rattle.code_spec.specs.Numbering.{Called, calls_routine, calls_entry}
use Rattle.code_spec.specs.Numbering as call_of
use Rattle.static_calls.specs.Calls.{called, expr_calls, exprs_calls, operands_calls, ref_calls, stmt_calls, stmts_calls, answer_calls, routine_calls}
use Rattle.static_semantics.specs.Places.{IsFound, NamesFound}
use Rattle.wellformed_law.proofs.WellformedCallsBehind.{behind_constant, at_body}
use Rattle.codegen_law.specs.Called.{AllCalled}
use Rattle.codegen_law.proofs.Finding.{called_both}
use Rattle.wellformed_law.proofs.Below.{AreNames, names-rest}

entry-rest : (g : Prog Place) (site : Site) (mon : Name) (q : Place) (entry : Name) (t : Place) (os : List Occurrence) → AreNames g (entry_names site mon q entry t os) → AreNames g os
entry-rest g site mon q entry t os h =
    let as_entry : Occurrence = used entry t want_is.Entry (through site mon entry) in
    names-rest g as_entry os (names-rest g (uses site mon q want_is.Monitor) (as_entry ∷ os) h)

-- these are among those
abbrev pub AllIn : List Place → List Place → Type 0
AllIn total ps = (q : Place) → Contains ps q → Contains total q

-- what a part of a text leaves: its calls lead, and the names and calls that come behind it
record Done (g : Prog Place) (total : List Place) (Leads : Type 0) (more : List Occurrence) (rest : List Place) : Type 0 where
  leads : Leads
  names_listed : AreNames g more
  calls_listed : AllIn total rest

module _ (g : Prog Place) (found : NamesFound g) (P : Called → Type 0) (total : List Place) where
  -- at the site each name that may be called leads where it is declared, if the text calls that
  pub record Knows (site : Site) : Type 0 where
    pub routines : (x : Name) (d : Declared) → site.means x ≡ Some d → suits want_is.Routine d.kind ≡ true → Contains total d.place → P (calls_routine x)
    pub entries : (m x : Name) (d : Declared) → through site m x ≡ Some d → suits want_is.Entry d.kind ≡ true → Contains total d.place → P (calls_entry m x)

  -- a loop's variable is not called
  knows_loop : (site : Site) → Knows site → (i : Name) (q : Place) → Knows (inside (loop_name i q ∷ []) site)
  knows_loop site known i q = record {
    routines = λ x d means suited listed. by_routine x d suited listed (same x i) means;
    entries = λ m x d means suited listed. by_entry m x d suited listed (same m i) means;
  }
    where
      not_called : (d : Declared) → suits want_is.Routine d.kind ≡ true → Some (record { place = q; kind = kind_is.LoopVariable }) ≡ Some d → ⊥
      not_called d suited e = true≢false (sym suited ∙ ap (λ (c : Declared). suits want_is.Routine c.kind) (sym (same_Some _ d e)))

      by_routine : (x : Name) (d : Declared) → suits want_is.Routine d.kind ≡ true → Contains total d.place → (b : Bool) → or_else (if b then Some (record { place = q; kind = kind_is.LoopVariable }) else None) (site.means x) ≡ Some d → P (calls_routine x)
      by_routine x d suited listed true e = absurd (not_called d suited e)
      by_routine x d suited listed false e = known.routines x d e suited listed

      by_entry : (m x : Name) (d : Declared) → suits want_is.Entry d.kind ≡ true → Contains total d.place → (b : Bool)
          → members_of (inside (loop_name i q ∷ []) site) (or_else (if b then Some (record { place = q; kind = kind_is.LoopVariable }) else None) (site.means m)) x ≡ Some d → P (calls_entry m x)
      by_entry m x d suited listed true e = absurd (none-some d e)
      by_entry m x d suited listed false e = known.entries m x d e suited listed

  call_leads : (site : Site) → Knows site → (x : Name) (q : Place) (more : List Occurrence) (rest : List Place)
      → AreNames g (uses site x q want_is.Routine ∷ more) → AllIn total (called (declared_at (names g) q) rest) → P (calls_routine x)
  call_leads site known x q more rest ns fs = known.routines x f.declared f.meant f.suited there
    where
      f : IsFound g q want_is.Routine (site.means x)
      f = found.uses x q want_is.Routine (site.means x) (ns (used x q want_is.Routine (site.means x)) (at_front (used x q want_is.Routine (site.means x)) more))

      there : Contains total f.declared.place
      there = fs f.declared.place (subst (λ o. Contains (called o rest) f.declared.place) (sym f.found) (at_front f.declared.place rest))

  entry_leads : (site : Site) → Knows site → (mon : Name) (q : Place) (entry : Name) (t : Place) (more : List Occurrence) (rest : List Place)
      → AreNames g (entry_names site mon q entry t more) → AllIn total (called (declared_at (names g) t) rest) → P (calls_entry mon entry)
  entry_leads site known mon q entry t more rest ns fs = known.entries mon entry f.declared f.meant f.suited there
    where
      f : IsFound g t want_is.Entry (through site mon entry)
      f = found.uses entry t want_is.Entry (through site mon entry)
          (names-rest g (uses site mon q want_is.Monitor) (used entry t want_is.Entry (through site mon entry) ∷ more) ns (used entry t want_is.Entry (through site mon entry)) (at_front (used entry t want_is.Entry (through site mon entry)) more))

      there : Contains total f.declared.place
      there = fs f.declared.place (subst (λ o. Contains (called o rest) f.declared.place) (sym f.found) (at_front f.declared.place rest))

  called_rest : (o : Option Place) (rest : List Place) → AllIn total (called o rest) → AllIn total rest
  called_rest None rest fs = fs
  called_rest (Some q) rest fs = λ r listed. fs r (behind q rest r listed)

  mutual
    expr_leads : (site : Site) → Knows site → (e : Expr Place) (more : List Occurrence) (rest : List Place) → AreNames g (expr_names site e more) → AllIn total (expr_calls (declared_at (names g)) e rest)
        → Done g total (AllCalled P (call_of.expr_calls (plain_expr e))) more rest
    expr_leads site known (literal q v) more rest ns fs = record { leads = tt; names_listed = ns; calls_listed = fs }
    expr_leads site known (truth q b) more rest ns fs = record { leads = tt; names_listed = ns; calls_listed = fs }
    expr_leads site known (variable q name) more rest ns fs = record { leads = tt; names_listed = names-rest g _ more ns; calls_listed = fs }
    expr_leads site known (element q name i) more rest ns fs = expr_leads site known i more rest (names-rest g _ _ ns) fs
    expr_leads site known (call q name es) more rest ns fs =
        let a = exprs_lead site known es more rest (names-rest g _ _ ns) (called_rest (declared_at (names g) q) (exprs_calls (declared_at (names g)) es rest) fs) in
        record { leads = (call_leads site known name q (exprs_names site es more) (exprs_calls (declared_at (names g)) es rest) ns fs, a.leads); names_listed = a.names_listed; calls_listed = a.calls_listed }
    expr_leads site known (minus q e) more rest ns fs = expr_leads site known e more rest ns fs
    expr_leads site known (negation q e) more rest ns fs = expr_leads site known e more rest ns fs
    expr_leads site known (paren q e) more rest ns fs = expr_leads site known e more rest ns fs
    expr_leads site known (row e rs) more rest ns fs =
        let a = expr_leads site known e (operands_names site rs more) (operands_calls (declared_at (names g)) rs rest) ns fs in
        let b = operands_lead site known rs more rest a.names_listed a.calls_listed in
        record { leads = called_both P (call_of.expr_calls (plain_expr e)) (call_of.row_calls (plain_operands rs)) a.leads b.leads; names_listed = b.names_listed; calls_listed = b.calls_listed }

    exprs_lead : (site : Site) → Knows site → (es : Exprs Place) (more : List Occurrence) (rest : List Place) → AreNames g (exprs_names site es more) → AllIn total (exprs_calls (declared_at (names g)) es rest)
        → Done g total (AllCalled P (call_of.exprs_calls (plain_exprs es))) more rest
    exprs_lead site known no_exprs more rest ns fs = record { leads = tt; names_listed = ns; calls_listed = fs }
    exprs_lead site known (exprs e es) more rest ns fs =
        let a = expr_leads site known e (exprs_names site es more) (exprs_calls (declared_at (names g)) es rest) ns fs in
        let b = exprs_lead site known es more rest a.names_listed a.calls_listed in
        record { leads = called_both P (call_of.expr_calls (plain_expr e)) (call_of.exprs_calls (plain_exprs es)) a.leads b.leads; names_listed = b.names_listed; calls_listed = b.calls_listed }

    operands_lead : (site : Site) → Knows site → (rs : Operands Place) (more : List Occurrence) (rest : List Place) → AreNames g (operands_names site rs more) → AllIn total (operands_calls (declared_at (names g)) rs rest)
        → Done g total (AllCalled P (call_of.row_calls (plain_operands rs))) more rest
    operands_lead site known no_operands more rest ns fs = record { leads = tt; names_listed = ns; calls_listed = fs }
    operands_lead site known (operand op e rs) more rest ns fs =
        let a = expr_leads site known e (operands_names site rs more) (operands_calls (declared_at (names g)) rs rest) ns fs in
        let b = operands_lead site known rs more rest a.names_listed a.calls_listed in
        record { leads = called_both P (call_of.expr_calls (plain_expr e)) (call_of.row_calls (plain_operands rs)) a.leads b.leads; names_listed = b.names_listed; calls_listed = b.calls_listed }

  ref_leads : (site : Site) → Knows site → (r : Ref Place) (more : List Occurrence) (rest : List Place) → AreNames g (ref_names site r more) → AllIn total (ref_calls (declared_at (names g)) r rest)
      → Done g total (AllCalled P (call_of.ref_calls (plain_ref r))) more rest
  ref_leads site known (whole q name) more rest ns fs = record { leads = tt; names_listed = names-rest g _ more ns; calls_listed = fs }
  ref_leads site known (part q name i) more rest ns fs = expr_leads site known i more rest (names-rest g _ _ ns) fs

  mutual
    stmt_leads : (site : Site) → Knows site → (s : Stmt Place) (more : List Occurrence) (rest : List Place) → AreNames g (stmt_names site s more) → AllIn total (stmt_calls (declared_at (names g)) s rest)
        → Done g total (AllCalled P (call_of.stmt_calls (plain_stmt s))) more rest
    stmt_leads site known (assign r e) more rest ns fs =
        let a = ref_leads site known r (expr_names site e more) (expr_calls (declared_at (names g)) e rest) ns fs in
        let b = expr_leads site known e more rest a.names_listed a.calls_listed in
        record { leads = called_both P (call_of.ref_calls (plain_ref r)) (call_of.expr_calls (plain_expr e)) a.leads b.leads; names_listed = b.names_listed; calls_listed = b.calls_listed }
    stmt_leads site known (assign_entry r mon q entry t es) more rest ns fs =
        let a = ref_leads site known r (entry_names site mon q entry t (exprs_names site es more)) (called (declared_at (names g) t) (exprs_calls (declared_at (names g)) es rest)) ns fs in
        let b = exprs_lead site known es more rest (entry-rest g site mon q entry t (exprs_names site es more) a.names_listed) (called_rest (declared_at (names g) t) (exprs_calls (declared_at (names g)) es rest) a.calls_listed) in
        record { leads = called_both P (call_of.ref_calls (plain_ref r)) (calls_entry mon entry ∷ call_of.exprs_calls (plain_exprs es)) a.leads (entry_leads site known mon q entry t (exprs_names site es more) (exprs_calls (declared_at (names g)) es rest) a.names_listed a.calls_listed, b.leads); names_listed = b.names_listed; calls_listed = b.calls_listed }
    stmt_leads site known (assign_empty r cond q) more rest ns fs =
        let a = ref_leads site known r (uses site cond q want_is.Condition ∷ more) rest ns fs in
        record { leads = a.leads; names_listed = names-rest g _ more a.names_listed; calls_listed = a.calls_listed }
    stmt_leads site known (perform q name es) more rest ns fs =
        let a = exprs_lead site known es more rest (names-rest g _ _ ns) (called_rest (declared_at (names g) q) (exprs_calls (declared_at (names g)) es rest) fs) in
        record { leads = (call_leads site known name q (exprs_names site es more) (exprs_calls (declared_at (names g)) es rest) ns fs, a.leads); names_listed = a.names_listed; calls_listed = a.calls_listed }
    stmt_leads site known (perform_entry q mon entry t es) more rest ns fs =
        let a = exprs_lead site known es more rest (entry-rest g site mon q entry t (exprs_names site es more) ns) (called_rest (declared_at (names g) t) (exprs_calls (declared_at (names g)) es rest) fs) in
        record { leads = (entry_leads site known mon q entry t (exprs_names site es more) (exprs_calls (declared_at (names g)) es rest) ns fs, a.leads); names_listed = a.names_listed; calls_listed = a.calls_listed }
    stmt_leads site known (when q e a) more rest ns fs =
        let x = expr_leads site known e (stmts_names site a more) (stmts_calls (declared_at (names g)) a rest) ns fs in
        let y = stmts_lead site known a more rest x.names_listed x.calls_listed in
        record { leads = called_both P (call_of.expr_calls (plain_expr e)) (call_of.stmts_calls (plain_stmts a)) x.leads y.leads; names_listed = y.names_listed; calls_listed = y.calls_listed }
    stmt_leads site known (when_else q e a b) more rest ns fs =
        let x = expr_leads site known e (stmts_names site a (stmts_names site b more)) (stmts_calls (declared_at (names g)) a (stmts_calls (declared_at (names g)) b rest)) ns fs in
        let y = stmts_lead site known a (stmts_names site b more) (stmts_calls (declared_at (names g)) b rest) x.names_listed x.calls_listed in
        let z = stmts_lead site known b more rest y.names_listed y.calls_listed in
        record { leads = called_both P (call_of.expr_calls (plain_expr e)) (call_of.stmts_calls (plain_stmts a) ++ call_of.stmts_calls (plain_stmts b)) x.leads (called_both P (call_of.stmts_calls (plain_stmts a)) (call_of.stmts_calls (plain_stmts b)) y.leads z.leads); names_listed = z.names_listed; calls_listed = z.calls_listed }
    stmt_leads site known (loop q name t low high a) more rest ns fs =
        let inner = stmts_names (inside (loop_name name t ∷ []) site) a more in
        let first = behind_constant (AreNames g) (names-rest g) site low (constant_names site high inner) (names-rest g _ _ ns) in
        let second = behind_constant (AreNames g) (names-rest g) site high inner first in
        stmts_lead (inside (loop_name name t ∷ []) site) (knows_loop site known name t) a more rest second fs
    stmt_leads site known (exit_when q e) more rest ns fs = expr_leads site known e more rest ns fs
    stmt_leads site known (get q dev t r) more rest ns fs = ref_leads site known r more rest (names-rest g _ _ ns) fs
    stmt_leads site known (put q dev t e) more rest ns fs = expr_leads site known e more rest (names-rest g _ _ ns) fs
    stmt_leads site known (wait q cond t limit number) more rest ns fs =
        let first = behind_constant (AreNames g) (names-rest g) site limit (constant_names site number more) (names-rest g _ _ ns) in
        record { leads = tt; names_listed = behind_constant (AreNames g) (names-rest g) site number more first; calls_listed = fs }
    stmt_leads site known (signal q cond t) more rest ns fs = record { leads = tt; names_listed = names-rest g _ more ns; calls_listed = fs }
    stmt_leads site known (broadcast q cond t) more rest ns fs = record { leads = tt; names_listed = names-rest g _ more ns; calls_listed = fs }
    stmt_leads site known (except q number) more rest ns fs = record { leads = tt; names_listed = behind_constant (AreNames g) (names-rest g) site number more ns; calls_listed = fs }
    stmt_leads site known (assert q e) more rest ns fs = expr_leads site known e more rest ns fs

    stmts_lead : (site : Site) → Knows site → (ss : Stmts Place) (more : List Occurrence) (rest : List Place) → AreNames g (stmts_names site ss more) → AllIn total (stmts_calls (declared_at (names g)) ss rest)
        → Done g total (AllCalled P (call_of.stmts_calls (plain_stmts ss))) more rest
    stmts_lead site known no_stmts more rest ns fs = record { leads = tt; names_listed = ns; calls_listed = fs }
    stmts_lead site known (stmts s ss) more rest ns fs =
        let a = stmt_leads site known s (stmts_names site ss more) (stmts_calls (declared_at (names g)) ss rest) ns fs in
        let b = stmts_lead site known ss more rest a.names_listed a.calls_listed in
        record { leads = called_both P (call_of.stmt_calls (plain_stmt s)) (call_of.stmts_calls (plain_stmts ss)) a.leads b.leads; names_listed = b.names_listed; calls_listed = b.calls_listed }

  -- ---- whole texts

  answer_leads : (site : Site) → Knows site → (s : Option (Scalar Place)) (e : Option (Expr Place)) (more : List Occurrence)
      → AreNames g (optional_names (expr_names site) e more) → AllIn total (answer_calls (declared_at (names g)) e []) → AllCalled P (call_of.answers_calls (plain_answers s e))
  answer_leads site known None e more ns fs = tt
  answer_leads site known (Some s) None more ns fs = tt
  answer_leads site known (Some s) (Some e) more ns fs = let a = expr_leads site known e more [] ns fs in a.leads

  pub routine_leads : (outer : Site) (r : Routine Place) (more : List Occurrence) → Knows (inside (routine_scope r) outer) → AreNames g (routine_names outer r more)
      → AllIn total (routine_calls (declared_at (names g)) r) → AllCalled P (call_of.routine_calls (plain_routine r))
  routine_leads outer r more known ns fs =
      let site = inside (routine_scope r) outer in
      let end = closes r.close r.close_place r.name ∷ more in
      let a = stmts_lead site known r.body (optional_names (expr_names site) r.value end) (answer_calls (declared_at (names g)) r.value []) (at_body (AreNames g) (names-rest g) outer r more ns) fs in
      called_both P (call_of.stmts_calls (plain_stmts r.body)) (call_of.answers_calls (plain_answers r.result r.value)) a.leads (answer_leads site known r.result r.value end a.names_listed a.calls_listed)

  pub body_leads : (site : Site) (ss : Stmts Place) (more : List Occurrence) → Knows site → AreNames g (stmts_names site ss more) → AllIn total (stmts_calls (declared_at (names g)) ss [])
      → AllCalled P (call_of.stmts_calls (plain_stmts ss))
  body_leads site ss more known ns fs = let a = stmts_lead site known ss more [] ns fs in a.leads
