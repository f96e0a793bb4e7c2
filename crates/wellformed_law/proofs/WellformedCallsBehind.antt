-- What holds of a list of names and of each rest of it holds of what stands behind the names of a part of the tree.
use Rattle.std.proofs.Common.{◌≡◌, ◌⊎◌, inl, inr, subst, List, [], ◌∷◌, ◌++◌, Option, Some, None}
use Rattle.std.specs.Prelude.{Contains}
use Rattle.base.proofs.Members.{front_or_behind, none_in}
use Rattle.syntax_tree.specs.Placed.{Constant, literal_constant, named_constant, Scalar, int, boolean, subrange, Kind, scalar, array, Var, Param, Expr, literal, truth, variable, element, call, minus, negation, paren, row, Exprs, no_exprs, exprs, Operands, no_operands, operand, Ref, whole, part, Stmt, assign, assign_entry, assign_empty, perform, perform_entry, when, when_else, loop, exit_when, get, put, wait, signal, broadcast, except, assert, Stmts, no_stmts, stmts, Routine, Activation, periodic, at_event, Process}
use Rattle.syntax_tree.specs.declared.place.Place.{Place}
use Rattle.static_names.specs.Reach.{Names, Reach, Site, inside}
use Rattle.static_names.specs.Occurrences.{Occurrence, closes, declarations, constant_names, scalar_names, kind_names, expr_names, exprs_names, operands_names, ref_names, entry_names, loop_name, stmt_names, stmts_names, vars_names, params_names, optional_names, routine_scope, routine_inner, routine_names, routines_names, activation_names, process_scope, process_inner, process_names}

module _ (P : List Occurrence → Type 0) (rest : (o : Occurrence) (os : List Occurrence) → P (o ∷ os) → P os) where
  pub behind_declarations : (outside : Reach) (earlier scope : Names) (more : List Occurrence) → P (declarations outside earlier scope more) → P more
  behind_declarations outside earlier [] more h = h
  behind_declarations outside earlier (d ∷ ds) more h = behind_declarations outside (earlier ++ d ∷ []) ds more (rest _ _ h)

  pub behind_constant : (here : Site) (c : Constant Place) (more : List Occurrence) → P (constant_names here c more) → P more
  behind_constant here (literal_constant p is_minus n q) more h = h
  behind_constant here (named_constant p is_minus name q) more h = rest _ more h

  behind_scalar : (here : Site) (s : Scalar Place) (more : List Occurrence) → P (scalar_names here s more) → P more
  behind_scalar here int more h = h
  behind_scalar here boolean more h = h
  behind_scalar here (subrange low high) more h = behind_constant here high more (behind_constant here low (constant_names here high more) h)

  behind_kind : (here : Site) (k : Kind Place) (more : List Occurrence) → P (kind_names here k more) → P more
  behind_kind here (scalar s) more h = behind_scalar here s more h
  behind_kind here (array low high s) more h =
      behind_scalar here s more (behind_constant here high (scalar_names here s more) (behind_constant here low (constant_names here high (scalar_names here s more)) h))

  -- ---- expressions and statements

  mutual
    behind_expr : (here : Site) (e : Expr Place) (more : List Occurrence) → P (expr_names here e more) → P more
    behind_expr here (literal p n) more h = h
    behind_expr here (truth p b) more h = h
    behind_expr here (variable p name) more h = rest _ more h
    behind_expr here (element p name i) more h = behind_expr here i more (rest _ (expr_names here i more) h)
    behind_expr here (call p name es) more h = behind_exprs here es more (rest _ (exprs_names here es more) h)
    behind_expr here (minus p e) more h = behind_expr here e more h
    behind_expr here (negation p e) more h = behind_expr here e more h
    behind_expr here (paren p e) more h = behind_expr here e more h
    behind_expr here (row e rs) more h = behind_operands here rs more (behind_expr here e (operands_names here rs more) h)

    behind_exprs : (here : Site) (es : Exprs Place) (more : List Occurrence) → P (exprs_names here es more) → P more
    behind_exprs here no_exprs more h = h
    behind_exprs here (exprs e es) more h = behind_exprs here es more (behind_expr here e (exprs_names here es more) h)

    behind_operands : (here : Site) (rs : Operands Place) (more : List Occurrence) → P (operands_names here rs more) → P more
    behind_operands here no_operands more h = h
    behind_operands here (operand op e rs) more h = behind_operands here rs more (behind_expr here e (operands_names here rs more) h)

  behind_ref : (here : Site) (r : Ref Place) (more : List Occurrence) → P (ref_names here r more) → P more
  behind_ref here (whole p name) more h = rest _ more h
  behind_ref here (part p name i) more h = behind_expr here i more (rest _ (expr_names here i more) h)

  mutual
    behind_stmt : (here : Site) (s : Stmt Place) (more : List Occurrence) → P (stmt_names here s more) → P more
    behind_stmt here (assign r e) more h = behind_expr here e more (behind_ref here r (expr_names here e more) h)
    behind_stmt here (assign_entry r mon p entry q es) more h =
        behind_exprs here es more (rest _ _ (rest _ _ (behind_ref here r (entry_names here mon p entry q (exprs_names here es more)) h)))
    behind_stmt here (assign_empty r cond p) more h = rest _ more (behind_ref here r _ h)
    behind_stmt here (perform p name es) more h = behind_exprs here es more (rest _ _ h)
    behind_stmt here (perform_entry p mon entry q es) more h = behind_exprs here es more (rest _ _ (rest _ _ h))
    behind_stmt here (when p e a) more h = behind_stmts here a more (behind_expr here e (stmts_names here a more) h)
    behind_stmt here (when_else p e a b) more h =
        behind_stmts here b more (behind_stmts here a (stmts_names here b more) (behind_expr here e (stmts_names here a (stmts_names here b more)) h))
    behind_stmt here (loop p name q low high a) more h =
        let inner = stmts_names (inside (loop_name name q ∷ []) here) a more in
        behind_stmts (inside (loop_name name q ∷ []) here) a more (behind_constant here high inner (behind_constant here low (constant_names here high inner) (rest _ _ h)))
    behind_stmt here (exit_when p e) more h = behind_expr here e more h
    behind_stmt here (get p dev q r) more h = behind_ref here r more (rest _ _ h)
    behind_stmt here (put p dev q e) more h = behind_expr here e more (rest _ _ h)
    behind_stmt here (wait p cond q limit number) more h = behind_constant here number more (behind_constant here limit (constant_names here number more) (rest _ _ h))
    behind_stmt here (signal p cond q) more h = rest _ more h
    behind_stmt here (broadcast p cond q) more h = rest _ more h
    behind_stmt here (except p number) more h = behind_constant here number more h
    behind_stmt here (assert p e) more h = behind_expr here e more h

    behind_stmts : (here : Site) (ss : Stmts Place) (more : List Occurrence) → P (stmts_names here ss more) → P more
    behind_stmts here no_stmts more h = h
    behind_stmts here (stmts s ss) more h = behind_stmts here ss more (behind_stmt here s (stmts_names here ss more) h)

  -- ---- routines and processes

  behind_vars : (here : Site) (vs : List (Var Place)) (more : List Occurrence) → P (vars_names here vs more) → P more
  behind_vars here [] more h = h
  behind_vars here (v ∷ vs) more h = behind_vars here vs more (behind_kind here v.kind (vars_names here vs more) h)

  behind_params : (here : Site) (vs : List (Param Place)) (more : List Occurrence) → P (params_names here vs more) → P more
  behind_params here [] more h = h
  behind_params here (v ∷ vs) more h = behind_params here vs more (behind_scalar here v.kind (params_names here vs more) h)

  behind_result : (here : Site) (s : Option (Scalar Place)) (more : List Occurrence) → P (optional_names (scalar_names here) s more) → P more
  behind_result here None more h = h
  behind_result here (Some s) more h = behind_scalar here s more h

  behind_value : (here : Site) (e : Option (Expr Place)) (more : List Occurrence) → P (optional_names (expr_names here) e more) → P more
  behind_value here None more h = h
  behind_value here (Some e) more h = behind_expr here e more h

  -- the body of a routine and what follows, behind its header
  pub at_body : (outer : Site) (r : Routine Place) (more : List Occurrence) → P (routine_names outer r more)
      → P (stmts_names (inside (routine_scope r) outer) r.body (optional_names (expr_names (inside (routine_scope r) outer)) r.value (closes r.close r.close_place r.name ∷ more)))
  at_body outer r more h =
      let here = inside (routine_scope r) outer in
      let body = stmts_names here r.body (optional_names (expr_names here) r.value (closes r.close r.close_place r.name ∷ more)) in
      let vars = vars_names here r.vars body in
      behind_vars here r.vars body (behind_result here r.result vars (behind_params here r.params (optional_names (scalar_names here) r.result vars)
      (behind_declarations outer.means [] (routine_scope r) (routine_inner here r more) h)))

  behind_routine : (outer : Site) (r : Routine Place) (more : List Occurrence) → P (routine_names outer r more) → P more
  behind_routine outer r more h =
      let here = inside (routine_scope r) outer in
      let end = closes r.close r.close_place r.name ∷ more in
      rest _ more (behind_value here r.value end (behind_stmts here r.body (optional_names (expr_names here) r.value end) (at_body outer r more h)))

  -- it holds at a routine
  pub record AtRoutine (outer : Site) (r : Routine Place) : Type 0 where
    pub more : List Occurrence
    pub holds : P (routine_names outer r more)

  pub at_routine : (outer : Site) (rs : List (Routine Place)) (r : Routine Place) (more : List Occurrence) → Contains rs r → P (routines_names outer rs more) → AtRoutine outer r
  at_routine outer [] r more listed h = absurd (none_in r listed)
  at_routine outer (q ∷ rs) r more listed h = by (front_or_behind q rs r listed) (λ there. at_routine outer rs r more there (behind_routine outer q (routines_names outer rs more) h))
    where
      by : (q ≡ r) ⊎ Contains rs r → (Contains rs r → AtRoutine outer r) → AtRoutine outer r
      by (inl same) later = subst (AtRoutine outer) same (record { more = routines_names outer rs more; holds = h })
      by (inr there) later = later there

  behind_optional : (here : Site) (c : Option (Constant Place)) (more : List Occurrence) → P (optional_names (constant_names here) c more) → P more
  behind_optional here None more h = h
  behind_optional here (Some c) more h = behind_constant here c more h

  behind_activation : (here : Site) (a : Activation Place) (more : List Occurrence) → P (activation_names here a more) → P more
  behind_activation here (periodic frame deadline start) more h =
      let after = optional_names (constant_names here) start more in
      behind_optional here start more (behind_optional here deadline after (behind_constant here frame (optional_names (constant_names here) deadline after) h))
  behind_activation here (at_event name place frame deadline) more h =
      behind_optional here deadline more (behind_constant here frame (optional_names (constant_names here) deadline more) (rest _ _ h))

  pub at_process_routine : (outer : Site) (p : Process Place) (r : Routine Place) (more : List Occurrence) → Contains p.routines r → P (process_names outer p more) → AtRoutine (inside (process_scope p) outer) r
  at_process_routine outer p r more listed h =
      let here = inside (process_scope p) outer in
      at_routine here p.routines r _ listed (behind_vars here p.vars _ (behind_activation here p.activation _ (behind_declarations outer.means [] (process_scope p) (process_inner here p more) h)))
