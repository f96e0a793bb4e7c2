-- Statements that are those of a load by their names keep to the rules for statements.
use Rattle.std.proofs.Common.{◌≡◌, ℕ, Bool, true, false, not, ◌&&◌, ◌||◌, List, [], ◌∷◌, Option, Some, None, refl, ap, ◌∙◌, subst}
use Rattle.std.specs.Prelude.{if◌then◌else◌}
use Rattle.syntax_tree.specs.Plain.{Name}
use Rattle.syntax_tree.specs.Placed.{Constant, Expr, Exprs, Ref, whole, part, Stmt, assign, perform_entry, loop, get, put, wait, signal, Stmts, no_stmts, stmts}
use Rattle.syntax_tree.specs.declared.place.Place.{Place}
use Rattle.syntax_tree.specs.Bare.{bare_ref, bare_stmt, bare_stmts}
use Rattle.static_names.specs.Reach.{Site, inside}
use Rattle.static_names.specs.Occurrences.{Occurrence, loop_name, constant_names, stmt_names, stmts_names}
use Rattle.static_declarations.specs.declared.home.StmtContext.{StmtContext}
use Rattle.static_declarations.specs.declared.home.StmtContext.TheVariants as home_is
use Rattle.static_declarations.specs.declared.home.Where.{Where}
use Rattle.static_declarations.specs.declared.sort.Sort.TheVariants as sort_is
use Rattle.static_declarations.specs.Things.{Thing}
use Rattle.static_declarations.specs.Sorts.{fits, alike}
use Rattle.static_declarations.specs.Parts.{Part, statement, stmt_parts, stmts_parts}
use Rattle.static_types.specs.Sorts.{asked, call_agrees, word_sort, is_array}
use Rattle.static_types.specs.Conduct.{misplaced, is_function, is_function_kind, is_device, strays, exprs_stray}
use Rattle.load_law.proofs.Given.{Each, Found, Good, IsNumber, IsDevice, IsEntry, number_named, device_named, entry_named}
use Rattle.load_law.proofs.Terms.{IsLiteral, literal_bare, no_names, Numeric, NumericList, numeric_bare, numeric_list_bare, number_kept, list_kept}

-- the texts of the load stand in an entry or in a process
abbrev pub home_by : (in_entry : Bool) → StmtContext
home_by false = home_is.Free
home_by true = home_is.Entry

abbrev pub standing : (in_entry in_loop : Bool) → Where
standing in_entry in_loop = record { home = home_by in_entry; in_loop = in_loop }

module _ (named : Place → Option Thing) (thing : Place → Thing) where
  -- ---- statements whose names stand for what is wanted

  abbrev pub Assigned : {P : Type 0} → Site → Ref P → Type 0
  Assigned here (whole p name) = IsNumber named thing here name
  Assigned here (part p name i) = ⊥

  abbrev mutual
    pub Fine : {P : Type 0} → (in_entry : Bool) → Site → Stmt P → Type 0
    Fine in_entry here (assign r e) = Assigned here r × Numeric named thing here e
    Fine in_entry here (perform_entry p mon entry q es) = (in_entry ≡ false) × ((k : ℕ) × (IsEntry named thing here mon entry k × NumericList named thing here k es))
    Fine in_entry here (loop p name q low high ss) = IsLiteral low × (IsLiteral high × ((at : Place) → AreFine in_entry (inside (loop_name name at ∷ []) here) ss))
    Fine in_entry here (get p dev q r) = IsDevice named thing here false dev × Assigned here r
    Fine in_entry here (put p dev q e) = IsDevice named thing here true dev × Numeric named thing here e
    Fine in_entry here (wait p cond q limit number) = (in_entry ≡ true) × (IsLiteral limit × IsLiteral number)
    Fine in_entry here (signal p cond q) = in_entry ≡ true
    Fine in_entry here _ = ⊥

    pub AreFine : {P : Type 0} → (in_entry : Bool) → Site → Stmts P → Type 0
    AreFine in_entry here no_stmts = Unit {0}
    AreFine in_entry here (stmts s ss) = Fine in_entry here s × AreFine in_entry here ss

  assigned_bare : (here : Site) (r : Ref Place) → Assigned here (bare_ref r) → Assigned here r
  assigned_bare here (whole p name) ok = ok
  assigned_bare here (part p name i) ok = ok

  mutual
    fine_bare : (in_entry : Bool) (here : Site) (s : Stmt Place) → Fine in_entry here (bare_stmt s) → Fine in_entry here s
    fine_bare in_entry here (assign r e) ok = (assigned_bare here r ok.0, numeric_bare named thing here e ok.1)
    fine_bare in_entry here (perform_entry p mon entry q es) ok = (ok.0, (ok.1.0, (ok.1.1.0, numeric_list_bare named thing here ok.1.0 es ok.1.1.1)))
    fine_bare in_entry here (loop p name q low high ss) ok =
        (literal_bare low ok.0, (literal_bare high ok.1.0, λ at. are_fine_bare in_entry (inside (loop_name name at ∷ []) here) ss (ok.1.1 at)))
    fine_bare in_entry here (get p dev q r) ok = (ok.0, assigned_bare here r ok.1)
    fine_bare in_entry here (put p dev q e) ok = (ok.0, numeric_bare named thing here e ok.1)
    fine_bare in_entry here (wait p cond q limit number) ok = (ok.0, (literal_bare limit ok.1.0, literal_bare number ok.1.1))
    fine_bare in_entry here (signal p cond q) ok = ok
    fine_bare in_entry here s ok = absurd ok

    pub are_fine_bare : (in_entry : Bool) (here : Site) (ss : Stmts Place) → AreFine in_entry here (bare_stmts ss) → AreFine in_entry here ss
    are_fine_bare in_entry here no_stmts ok = ok
    are_fine_bare in_entry here (stmts s ss) ok = (fine_bare in_entry here s ok.0, are_fine_bare in_entry here ss ok.1)

  -- ---- keep to the rules

  -- a statement is good, and what is left of the names is found
  record Kept (w : Where) (s : Stmt Place) (more : List Occurrence) : Type 0 where
    good : Good named thing (statement w s)
    others : Each (Found named thing) more

  assign_kept : (in_entry in_loop : Bool) (here : Site) (r : Ref Place) (e : Expr Place) (more : List Occurrence) → Fine in_entry here (assign r e)
      → Each (Found named thing) (stmt_names here (assign r e) more) → Kept (standing in_entry in_loop) (assign r e) more
  assign_kept in_entry in_loop here (part p name i) e more ok all = absurd ok.0
  assign_kept in_entry in_loop here (whole p name) e more ok all =
      let target = number_named named thing here name ok.0 p all.0 in
      let value = number_kept named thing here e more ok.1 all.1 in
      let agreeing = value.agreeing in
      let sorted = value.sorted in
      let calm = value.calm in
      let o : Option Place = None in
      record {
        good = record {
          typed = λ i. if not (is_array (target i)) && (agreeing i && alike (word_sort (target i)) (sorted i)) then o else Some p;
          placed = home in_entry calm;
          directed = refl;
        };
        others = value.others;
      }
    where
      home : (b : Bool) → strays named e ≡ false → misplaced named (statement (standing b in_loop) (assign (whole p name) e)) ≡ None
      home false calm = ap (λ t. if t then Some p else None) calm
      home true calm = ap (λ t. if t then Some p else None) calm

  perform_kept : (in_loop : Bool) (here : Site) (p : Place) (mon entry : Name) (q : Place) (es : Exprs Place) (more : List Occurrence) → (k : ℕ)
      → (e : IsEntry named thing here mon entry k) → NumericList named thing here k es → Each (Found named thing) (stmt_names here (perform_entry p mon entry q es) more)
      → Kept (standing false in_loop) (perform_entry p mon entry q es) more
  perform_kept in_loop here p mon entry q es more k e args all =
      let is = entry_named named thing here mon entry k e q all.1.0 in
      let list = list_kept named thing here k e.routine.params es more e.params args all.1.1 in
      let agreeing = list.agreeing in
      let calm = list.calm in
      let kind = e.kind in
      let o : Option Place = None in
      record {
        good = record {
          typed = ap (λ t. if call_agrees named (asked t) es then o else Some p) is ∙ ap (λ b. if b then o else Some p) agreeing;
          placed = ap (λ t. if is_function t || exprs_stray named es then Some p else o) is ∙ (λ i. if is_function_kind (kind i) || calm i then Some p else o);
          directed = refl;
        };
        others = list.others;
      }

  get_kept : (in_entry in_loop : Bool) (here : Site) (p : Place) (dev : Name) (q : Place) (r : Ref Place) (more : List Occurrence) → Fine in_entry here (get p dev q r)
      → Each (Found named thing) (stmt_names here (get p dev q r) more) → Kept (standing in_entry in_loop) (get p dev q r) more
  get_kept in_entry in_loop here p dev q (part at name i) more ok all = absurd ok.1
  get_kept in_entry in_loop here p dev q (whole at name) more ok all =
      let device = device_named named thing here false dev ok.0 q all.0 in
      let target = number_named named thing here name ok.1 at all.1.0 in
      let o : Option Place = None in
      record {
        good = record {
          typed = ap (λ t. if not (is_array t) && alike (word_sort t) (Some sort_is.Number) then o else Some p) target;
          placed = home in_entry;
          directed = ap (λ t. if is_device true t then Some p else o) device;
        };
        others = all.1.1;
      }
    where
      home : (b : Bool) → misplaced named (statement (standing b in_loop) (get p dev q (whole at name))) ≡ None
      home false = refl
      home true = refl

  put_kept : (in_entry in_loop : Bool) (here : Site) (p : Place) (dev : Name) (q : Place) (e : Expr Place) (more : List Occurrence) → Fine in_entry here (put p dev q e)
      → Each (Found named thing) (stmt_names here (put p dev q e) more) → Kept (standing in_entry in_loop) (put p dev q e) more
  put_kept in_entry in_loop here p dev q e more ok all =
      let device = device_named named thing here true dev ok.0 q all.0 in
      let value = number_kept named thing here e more ok.1 all.1 in
      let agreeing = value.agreeing in
      let sorted = value.sorted in
      let o : Option Place = None in
      record {
        good = record {
          typed = λ i. if agreeing i && fits sort_is.Number (sorted i) then o else Some p;
          placed = home in_entry value.calm;
          directed = ap (λ t. if is_device false t then Some p else o) device;
        };
        others = value.others;
      }
    where
      home : (b : Bool) → strays named e ≡ false → misplaced named (statement (standing b in_loop) (put p dev q e)) ≡ None
      home false calm = ap (λ t. if t then Some p else None) calm
      home true calm = ap (λ t. if t then Some p else None) calm

  wait_good : (in_entry in_loop : Bool) → in_entry ≡ true → (p : Place) (cond : Name) (q : Place) (limit number : Constant Place)
      → Good named thing (statement (standing in_entry in_loop) (wait p cond q limit number))
  wait_good false in_loop is p cond q limit number = cc
  wait_good true in_loop is p cond q limit number = record { typed = refl; placed = refl; directed = refl }

  signal_good : (in_entry in_loop : Bool) → in_entry ≡ true → (p : Place) (cond : Name) (q : Place) → Good named thing (statement (standing in_entry in_loop) (signal p cond q))
  signal_good false in_loop is p cond q = cc
  signal_good true in_loop is p cond q = record { typed = refl; placed = refl; directed = refl }

  -- with what stands in it
  record Whole (w : Where) (s : Stmt Place) (more : List Occurrence) : Type 0 where
    good : (ps : List Part) → Each (Good named thing) ps → Each (Good named thing) (stmt_parts w s ps)
    others : Each (Found named thing) more

  pub record AllKept (w : Where) (ss : Stmts Place) (more : List Occurrence) : Type 0 where
    pub good : (ps : List Part) → Each (Good named thing) ps → Each (Good named thing) (stmts_parts w ss ps)
    pub others : Each (Found named thing) more

  mutual
    stmt_kept : (in_entry in_loop : Bool) (here : Site) (s : Stmt Place) (more : List Occurrence) → Fine in_entry here s
        → Each (Found named thing) (stmt_names here s more) → Whole (standing in_entry in_loop) s more
    stmt_kept in_entry in_loop here (assign r e) more ok all =
        let it = assign_kept in_entry in_loop here r e more ok all in
        record { good = λ ps others. (it.good, others); others = it.others }
    stmt_kept true in_loop here (perform_entry p mon entry q es) more ok all = let not_there : true ≡ false = ok.0 in cc
    stmt_kept false in_loop here (perform_entry p mon entry q es) more ok all =
        let it = perform_kept in_loop here p mon entry q es more ok.1.0 ok.1.1.0 ok.1.1.1 all in
        record { good = λ ps others. (it.good, others); others = it.others }
    stmt_kept in_entry in_loop here (loop p name q low high ss) more ok all =
        let inner = inside (loop_name name q ∷ []) here in
        let first = subst (Each (Found named thing)) (no_names here low ok.0 (constant_names here high (stmts_names inner ss more))) all.1 in
        let second = subst (Each (Found named thing)) (no_names here high ok.1.0 (stmts_names inner ss more)) first in
        let it = stmts_kept in_entry true inner ss more (ok.1.1 q) second in
        record { good = λ ps others. (record { typed = refl; placed = refl; directed = refl }, it.good ps others); others = it.others }
    stmt_kept in_entry in_loop here (get p dev q r) more ok all =
        let it = get_kept in_entry in_loop here p dev q r more ok all in
        record { good = λ ps others. (it.good, others); others = it.others }
    stmt_kept in_entry in_loop here (put p dev q e) more ok all =
        let it = put_kept in_entry in_loop here p dev q e more ok all in
        record { good = λ ps others. (it.good, others); others = it.others }
    stmt_kept in_entry in_loop here (wait p cond q limit number) more ok all =
        let first = subst (Each (Found named thing)) (no_names here limit ok.1.0 (constant_names here number more)) all.1 in
        let second = subst (Each (Found named thing)) (no_names here number ok.1.1 more) first in
        record { good = λ ps others. (wait_good in_entry in_loop ok.0 p cond q limit number, others); others = second }
    stmt_kept in_entry in_loop here (signal p cond q) more ok all = record { good = λ ps others. (signal_good in_entry in_loop ok p cond q, others); others = all.1 }
    stmt_kept in_entry in_loop here s more ok all = absurd ok

    pub stmts_kept : (in_entry in_loop : Bool) (here : Site) (ss : Stmts Place) (more : List Occurrence) → AreFine in_entry here ss
        → Each (Found named thing) (stmts_names here ss more) → AllKept (standing in_entry in_loop) ss more
    stmts_kept in_entry in_loop here no_stmts more ok all = record { good = λ ps others. others; others = all }
    stmts_kept in_entry in_loop here (stmts s ss) more ok all =
        let first = stmt_kept in_entry in_loop here s (stmts_names here ss more) ok.0 all in
        let rest = stmts_kept in_entry in_loop here ss more ok.1 first.others in
        record { good = λ ps others. first.good (stmts_parts (standing in_entry in_loop) ss ps) (rest.good ps others); others = rest.others }
