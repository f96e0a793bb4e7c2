-- The statements of a text fit where no rule for names and statements fails.
use Rattle.std.proofs.Common.{◌≡◌, ℕ, true, false, not, ◌&&◌, ◌||◌, List, [], ◌∷◌, Option, Some, None, Contains, refl, ap, sym, ◌∙◌, subst}
use Rattle.std.proofs.lemmas.Bool.{and_parts, or_parts, not-false}
use Rattle.syntax_tree.specs.Plain.{Name}
use Rattle.syntax_tree.specs.Plain as plain_of
use Rattle.syntax_tree.specs.Placed.{Constant, Expr, Exprs, Ref, Stmt, assign, assign_entry, assign_empty, perform, perform_entry, when, when_else, loop, exit_when, get, put, wait, signal, broadcast, except, assert, Stmts, no_stmts, stmts, Process, Prog, plain_ref, plain_expr, plain_constant, plain_stmt, plain_stmts}
use Rattle.syntax_tree.specs.declared.place.Place.{Place}
use Rattle.static_names.specs.declared.kind.NameUse.TheVariants as want_is
use Rattle.static_names.specs.Reach.{Site, inside}
use Rattle.static_names.specs.Occurrences.{Occurrence, uses, names, constant_names, expr_names, exprs_names, ref_names, entry_names, loop_name, stmt_names, stmts_names}
use Rattle.static_declarations.specs.declared.home.StmtContext.{StmtContext}
use Rattle.static_declarations.specs.declared.home.StmtContext.TheVariants as home_is
use Rattle.static_declarations.specs.declared.sort.Sort.{Sort}
use Rattle.static_declarations.specs.declared.sort.Sort.TheVariants as sort_is
use Rattle.static_declarations.specs.Things.{loop_thing, thing_at, named_at}
use Rattle.static_declarations.specs.Values.{value, out_of}
use Rattle.static_declarations.specs.declared.home.Where.{Where}
use Rattle.static_declarations.specs.Parts.{Part, statement, stmt_place, looped, stmt_parts, stmts_parts}
use Rattle.static_declarations.specs.Sorts.{alike}
use Rattle.static_types.specs.Sorts.{sort, agrees, asked, call_agrees}
use Rattle.static_types.specs.Sorts as sorts
use Rattle.static_types.specs.Types.{target_sort, target_agrees, stmt_agrees}
use Rattle.static_types.specs.Conduct.{is_procedure, is_function, strays, exprs_stray, target_strays, in_function, in_entry, calls_nothing, stmt_strays, is_device}
use Rattle.source_semantics.specs.Run.{routine_named, entry_named}
use Rattle.static_semantics.specs.Here.{Here, in_loop}
use Rattle.static_semantics.specs.Typed.{IsOf, IsTarget}
use Rattle.static_semantics.specs.Statements.{IsWithin, AreTurns, may_call, Fits, AllFit}
use Rattle.static_semantics.specs.Written.{ConstantWritten, ExprWritten, ExprsWritten, RefWritten, StmtWritten, StmtsWritten}
use Rattle.static_semantics.specs.Mirrors.{Mirrors}
use Rattle.static_semantics.specs.Judged.{IsKept, IsHome, IsPlaced, AreNames, AreParts}
use Rattle.wellformed_law.proofs.Basics.{KeepsRules, keeps_rules, held, not_held}
use Rattle.wellformed_law.proofs.Expressions.{same_sort_is, constant_rest, expr_rest, ref_rest, expr_fits, is_of_fits}
use Rattle.wellformed_law.proofs.Targets.{target_fits}
use Rattle.wellformed_law.proofs.CallConstants.{constant_fits}
use Rattle.wellformed_law.proofs.WellformedStatementsBehind.{head_name, more_parts, entry_rest, entry_use, loop_names, loop_rest, stmt_rest, stmts_rest, stmt_parts_rest, stmts_parts_rest, own_part}
use Rattle.wellformed_law.proofs.Uses.{more_names}
use Rattle.wellformed_law.proofs.Loops.{in_loop_mirrors}
use Rattle.wellformed_law.proofs.Numbers.{is_within_limits, are_turns}
use Rattle.wellformed_law.proofs.Calls.{IsCalled, condition_stands, device_stands, routine_stands, entry_stands, call_fits, gives_one, gives_nothing}

-- ---- what a text stands in

calls_freely : (home : StmtContext) (at : Option Place) (c : Here) → IsHome home at c → calls_nothing home ≡ false → may_call c ≡ true
calls_freely home_is.Free at c is e = ap (λ b. not (b || c.is_function)) is.0 ∙ ap not is.1
calls_freely home_is.Entry at c is e = absurd (cc)
calls_freely (home_is.Function own) at c is e = absurd (cc)

no_function : (home : StmtContext) (at : Option Place) (c : Here) → IsHome home at c → in_function home ≡ false → c.is_function ≡ false
no_function home_is.Free at c is e = is.1
no_function home_is.Entry at c is e = is.1
no_function (home_is.Function own) at c is e = absurd (cc)

in_loop_placed : (w : Where) (at : Option Place) (c : Here) (i : Name) → IsPlaced w at c → IsPlaced (looped w) at (in_loop i c)
in_loop_placed w at c i placed = record { home = by w.home placed.home; loops = refl }
  where
    by : (home : StmtContext) → IsHome home at c → IsHome home at (in_loop i c)
    by home_is.Free is = is
    by home_is.Entry is = is
    by (home_is.Function own) is = is

-- ---- single statements

alike_gives : (o u : Option Sort) (s t : Sort) → o ≡ Some s → u ≡ Some t → alike o u ≡ true → t ≡ s
alike_gives o u s t is iu h = sym (same_sort_is s t (subst (λ u. alike (Some s) u ≡ true) iu (subst (λ o. alike o u ≡ true) is h)))

agrees_of : (g : Prog Place) (w : Where) (s : Stmt Place) → KeepsRules g (statement w s) → stmt_agrees (named_at g) s ≡ true
agrees_of g w s k = held (stmt_agrees (named_at g) s) (stmt_place s) k.mistyped

strays_of : (g : Prog Place) (w : Where) (s : Stmt Place) → KeepsRules g (statement w s) → stmt_strays (named_at g) w s ≡ false
strays_of g w s k = not_held (stmt_strays (named_at g) w s) (stmt_place s) k.misplaced

module _ (g : Prog Place) (p : Process Place) (at : Option Place) (site : Site) (c : Here) (w : Where) (kept : IsKept g) (m : Mirrors g p at site c) (placed : IsPlaced w at c) where
  -- a target of the sort that is asked for
  target_is : (s : Sort) (r : Ref Place) (more : List Occurrence) → RefWritten r → AreNames g (ref_names site r more) → target_agrees (named_at g) r ≡ true → target_strays (named_at g) w.home r ≡ false
      → alike (target_sort (named_at g) r) (Some s) ≡ true → IsTarget c s (plain_ref r)
  target_is s r more written names agree stray goes =
      let t = target_fits g p at site c w.home r more kept m placed.home written names agree stray in
      subst (λ (s : Sort). IsTarget c s (plain_ref r)) (sym (alike_gives (target_sort (named_at g) r) (Some s) t.0 s t.1 refl goes)) t.2

  assign_fits : (r : Ref Place) (e : Expr Place) (more : List Occurrence) → KeepsRules g (statement w (assign r e)) → RefWritten r → ExprWritten e → AreNames g (ref_names site r (expr_names site e more))
      → Fits c (plain_stmt (assign r e))
  assign_fits r e more k written_r written_e names =
      let a = and_parts (target_agrees (named_at g) r) (agrees (named_at g) e && alike (target_sort (named_at g) r) (sort (named_at g) e)) (agrees_of g w (assign r e) k) in
      let b = and_parts (agrees (named_at g) e) (alike (target_sort (named_at g) r) (sort (named_at g) e)) a.1 in
      let n = or_parts (target_strays (named_at g) w.home r) (strays (named_at g) e) (strays_of g w (assign r e) k) in
      let t = target_fits g p at site c w.home r (expr_names site e more) kept m placed.home written_r names a.0 n.0 in
      let x = expr_fits g p at site c e more kept m written_e (ref_rest g site r (expr_names site e more) names) b.0 n.1 in
      (t.0, t.2, subst (λ (s : Sort). IsOf c s (plain_expr e)) (alike_gives (target_sort (named_at g) r) (sort (named_at g) e) t.0 x.0 t.1 x.1 b.1) x.2)

  assign_entry_fits : (r : Ref Place) (mon : Name) (q0 : Place) (x : Name) (q : Place) (es : Exprs Place) (more : List Occurrence) → KeepsRules g (statement w (assign_entry r mon q0 x q es)) → RefWritten r → ExprsWritten es
      → AreNames g (ref_names site r (entry_names site mon q0 x q (exprs_names site es more))) → Fits c (plain_stmt (assign_entry r mon q0 x q es))
  assign_entry_fits r mon q0 x q es more k written_r written_e names =
      let a = and_parts (target_agrees (named_at g) r) (call_agrees (named_at g) (asked (named_at g q)) es && alike (target_sort (named_at g) r) (sorts.answer_sort (named_at g q))) (agrees_of g w (assign_entry r mon q0 x q es) k) in
      let b = and_parts (call_agrees (named_at g) (asked (named_at g q)) es) (alike (target_sort (named_at g) r) (sorts.answer_sort (named_at g q))) a.1 in
      let n = or_parts (calls_nothing w.home) (is_procedure (named_at g q) || (target_strays (named_at g) w.home r || exprs_stray (named_at g) es)) (strays_of g w (assign_entry r mon q0 x q es) k) in
      let n1 = or_parts (is_procedure (named_at g q)) (target_strays (named_at g) w.home r || exprs_stray (named_at g) es) n.1 in
      let n2 = or_parts (target_strays (named_at g) w.home r) (exprs_stray (named_at g) es) n1.1 in
      let behind = ref_rest g site r (entry_names site mon q0 x q (exprs_names site es more)) names in
      let called : IsCalled g q (entry_named c.program mon x) = entry_stands g p at site c kept m mon x q (entry_use g site mon q0 x q (exprs_names site es more) behind) in
      let t = target_fits g p at site c w.home r (entry_names site mon q0 x q (exprs_names site es more)) kept m placed.home written_r names a.0 n2.0 in
      let one = gives_one g q (entry_named c.program mon x) called n1.0 in
      let same : one.0 ≡ t.0 = alike_gives (target_sort (named_at g) r) (sorts.answer_sort (named_at g q)) t.0 one.0 t.1 one.1 b.1 in (
        calls_freely w.home at c placed.home n.0,
        (t.0, t.2, one.2 ∙ ap Some same),
        call_fits g p at site c kept m q (entry_named c.program mon x) es more called written_e (entry_rest g site mon q0 x q (exprs_names site es more) behind) b.0 n2.1,
      )

  assign_empty_fits : (r : Ref Place) (x : Name) (q : Place) (more : List Occurrence) → KeepsRules g (statement w (assign_empty r x q)) → RefWritten r → AreNames g (ref_names site r (uses site x q want_is.Condition ∷ more))
      → Fits c (plain_stmt (assign_empty r x q))
  assign_empty_fits r x q more k written names =
      let a = and_parts (target_agrees (named_at g) r) (alike (target_sort (named_at g) r) (Some sort_is.Truth)) (agrees_of g w (assign_empty r x q) k) in
      let n = or_parts (not (in_entry w.home)) (target_strays (named_at g) w.home r) (strays_of g w (assign_empty r x q) k) in (
        target_is sort_is.Truth r (uses site x q want_is.Condition ∷ more) written names a.0 n.1 a.1,
        condition_stands g p at site c kept m x q (head_name g (uses site x q want_is.Condition) more (ref_rest g site r (uses site x q want_is.Condition ∷ more) names)),
      )

  perform_fits : (q : Place) (x : Name) (es : Exprs Place) (more : List Occurrence) → KeepsRules g (statement w (perform q x es)) → ExprsWritten es → AreNames g (uses site x q want_is.Routine ∷ exprs_names site es more)
      → Fits c (plain_stmt (perform q x es))
  perform_fits q x es more k written names =
      let n = or_parts (calls_nothing w.home) (is_function (named_at g q) || exprs_stray (named_at g) es) (strays_of g w (perform q x es) k) in
      let n1 = or_parts (is_function (named_at g q)) (exprs_stray (named_at g) es) n.1 in
      let may = calls_freely w.home at c placed.home n.0 in
      let called : IsCalled g q (routine_named c.program c.process x) = routine_stands g p at site c kept m x q may (head_name g (uses site x q want_is.Routine) (exprs_names site es more) names) in (
        may,
        gives_nothing g q (routine_named c.program c.process x) called n1.0,
        call_fits g p at site c kept m q (routine_named c.program c.process x) es more called written (more_names g (uses site x q want_is.Routine) (exprs_names site es more) names) (agrees_of g w (perform q x es) k) n1.1,
      )

  perform_entry_fits : (q0 : Place) (mon x : Name) (q : Place) (es : Exprs Place) (more : List Occurrence) → KeepsRules g (statement w (perform_entry q0 mon x q es)) → ExprsWritten es
      → AreNames g (entry_names site mon q0 x q (exprs_names site es more)) → Fits c (plain_stmt (perform_entry q0 mon x q es))
  perform_entry_fits q0 mon x q es more k written names =
      let n = or_parts (calls_nothing w.home) (is_function (named_at g q) || exprs_stray (named_at g) es) (strays_of g w (perform_entry q0 mon x q es) k) in
      let n1 = or_parts (is_function (named_at g q)) (exprs_stray (named_at g) es) n.1 in
      let called : IsCalled g q (entry_named c.program mon x) = entry_stands g p at site c kept m mon x q (entry_use g site mon q0 x q (exprs_names site es more) names) in (
        calls_freely w.home at c placed.home n.0,
        gives_nothing g q (entry_named c.program mon x) called n1.0,
        call_fits g p at site c kept m q (entry_named c.program mon x) es more called written (entry_rest g site mon q0 x q (exprs_names site es more) names) (agrees_of g w (perform_entry q0 mon x q es) k) n1.1,
      )

  exit_fits : (q : Place) (e : Expr Place) (more : List Occurrence) → KeepsRules g (statement w (exit_when q e)) → ExprWritten e → AreNames g (expr_names site e more) → Fits c (plain_stmt (exit_when q e))
  exit_fits q e more k written names =
      let n = or_parts (not w.in_loop) (strays (named_at g) e) (strays_of g w (exit_when q e) k) in
      (sym placed.loops ∙ not-false w.in_loop n.0, is_of_fits g p at site c sort_is.Truth e more kept m written names (agrees_of g w (exit_when q e) k) n.1)

  get_fits : (q0 : Place) (x : Name) (q : Place) (r : Ref Place) (more : List Occurrence) → KeepsRules g (statement w (get q0 x q r)) → RefWritten r → AreNames g (uses site x q want_is.Device ∷ ref_names site r more)
      → Fits c (plain_stmt (get q0 x q r))
  get_fits q0 x q r more k written names =
      let a = and_parts (target_agrees (named_at g) r) (alike (target_sort (named_at g) r) (Some sort_is.Number)) (agrees_of g w (get q0 x q r) k) in
      let n = or_parts (in_function w.home) (target_strays (named_at g) w.home r) (strays_of g w (get q0 x q r) k) in
      let d = device_stands g p at site c kept m x q (head_name g (uses site x q want_is.Device) (ref_names site r more) names) in
      let is_in : d.is_out ≡ false = subst (λ o. is_device true o ≡ false) d.thing (not_held (is_device true (named_at g q)) q0 k.misdirected) in (
        no_function w.home at c placed.home n.0,
        subst (λ b. Contains c.program.decls (plain_of.device x b)) is_in d.listed,
        target_is sort_is.Number r more written (more_names g (uses site x q want_is.Device) (ref_names site r more) names) a.0 n.1 a.1,
      )

  put_fits : (q0 : Place) (x : Name) (q : Place) (e : Expr Place) (more : List Occurrence) → KeepsRules g (statement w (put q0 x q e)) → ExprWritten e → AreNames g (uses site x q want_is.Device ∷ expr_names site e more)
      → Fits c (plain_stmt (put q0 x q e))
  put_fits q0 x q e more k written names =
      let n = or_parts (in_function w.home) (strays (named_at g) e) (strays_of g w (put q0 x q e) k) in
      let d = device_stands g p at site c kept m x q (head_name g (uses site x q want_is.Device) (expr_names site e more) names) in
      let is_out : d.is_out ≡ true = not-false d.is_out (subst (λ o. is_device false o ≡ false) d.thing (not_held (is_device false (named_at g q)) q0 k.misdirected)) in (
        no_function w.home at c placed.home n.0,
        subst (λ b. Contains c.program.decls (plain_of.device x b)) is_out d.listed,
        is_of_fits g p at site c sort_is.Number e more kept m written (more_names g (uses site x q want_is.Device) (expr_names site e more) names) (agrees_of g w (put q0 x q e) k) n.1,
      )

  -- a constant within its limits
  limits_fit : (low high : ℕ) (k : Constant Place) (more : List Occurrence) → ConstantWritten k → AreNames g (constant_names site k more) → out_of (value g) low high k ≡ None → IsWithin c.program low high (plain_constant k)
  limits_fit low high k more written names e =
      subst (λ (o : plain_of.Program). IsWithin o low high (plain_constant k)) (sym m.program) (is_within_limits g low high k (constant_fits g p at site c k more kept m written names) e)

  wait_fits : (q0 : Place) (x : Name) (q : Place) (limit number : Constant Place) (more : List Occurrence) → KeepsRules g (statement w (wait q0 x q limit number)) → ConstantWritten limit → ConstantWritten number
      → AreNames g (uses site x q want_is.Condition ∷ constant_names site limit (constant_names site number more)) → Fits c (plain_stmt (wait q0 x q limit number))
  wait_fits q0 x q limit number more k written_l written_n names =
      let behind = more_names g (uses site x q want_is.Condition) (constant_names site limit (constant_names site number more)) names in (
        condition_stands g p at site c kept m x q (head_name g (uses site x q want_is.Condition) (constant_names site limit (constant_names site number more)) names),
        limits_fit 1 1000000000 limit (constant_names site number more) written_l behind k.bad_limit,
        limits_fit 10 999 number more written_n (constant_rest g site limit (constant_names site number more) behind) k.bad_number,
      )

  turns_fit : (q0 : Place) (x : Name) (q : Place) (low high : Constant Place) (a : Stmts Place) (more : List Occurrence) → KeepsRules g (statement w (loop q0 x q low high a)) → ConstantWritten low → ConstantWritten high
      → AreNames g (loop_names site x q low high a more) → AreTurns c.program (plain_constant low) (plain_constant high)
  turns_fit q0 x q low high a more k written_l written_h names =
      let body = stmts_names (inside (loop_name x q ∷ []) site) a more in
      let l = constant_fits g p at site c low (constant_names site high body) kept m written_l names in
      let h = constant_fits g p at site c high body kept m written_h (constant_rest g site low (constant_names site high body) names) in
      subst (λ (o : plain_of.Program). AreTurns o (plain_constant low) (plain_constant high)) (sym m.program) (are_turns g w q0 x q low high a k l h)

-- ---- all statements

mutual
  stmt_fits : (g : Prog Place) (p : Process Place) (at : Option Place) (site : Site) (c : Here) (w : Where) (s : Stmt Place) (more : List Occurrence) (rest : List Part) → IsKept g → Mirrors g p at site c
      → IsPlaced w at c → StmtWritten s → AreNames g (stmt_names site s more) → AreParts g (stmt_parts w s rest) → KeepsRules g (statement w s) → Fits c (plain_stmt s)
  stmt_fits g p at site c w (assign r e) more rest kept m placed written names ps k = assign_fits g p at site c w kept m placed r e more k written.0 written.1 names
  stmt_fits g p at site c w (assign_entry r mon q0 x q es) more rest kept m placed written names ps k = assign_entry_fits g p at site c w kept m placed r mon q0 x q es more k written.0 written.1 names
  stmt_fits g p at site c w (assign_empty r x q) more rest kept m placed written names ps k = assign_empty_fits g p at site c w kept m placed r x q more k written names
  stmt_fits g p at site c w (perform q x es) more rest kept m placed written names ps k = perform_fits g p at site c w kept m placed q x es more k written names
  stmt_fits g p at site c w (perform_entry q0 mon x q es) more rest kept m placed written names ps k = perform_entry_fits g p at site c w kept m placed q0 mon x q es more k written names
  stmt_fits g p at site c w (when q e a) more rest kept m placed written names ps k = (
    is_of_fits g p at site c sort_is.Truth e (stmts_names site a more) kept m written.0 names (agrees_of g w (when q e a) k) (strays_of g w (when q e a) k),
    stmts_fit g p at site c w a more rest kept m placed written.1 (expr_rest g site e (stmts_names site a more) names) (more_parts g (statement w (when q e a)) (stmts_parts w a rest) ps),
  )
  stmt_fits g p at site c w (when_else q e a b) more rest kept m placed written names ps k =
      let names_a : AreNames g (stmts_names site a (stmts_names site b more)) = expr_rest g site e (stmts_names site a (stmts_names site b more)) names in
      let parts_a : AreParts g (stmts_parts w a (stmts_parts w b rest)) = more_parts g (statement w (when_else q e a b)) (stmts_parts w a (stmts_parts w b rest)) ps in (
        is_of_fits g p at site c sort_is.Truth e (stmts_names site a (stmts_names site b more)) kept m written.0 names (agrees_of g w (when_else q e a b) k) (strays_of g w (when_else q e a b) k),
        stmts_fit g p at site c w a (stmts_names site b more) (stmts_parts w b rest) kept m placed written.1 names_a parts_a,
        stmts_fit g p at site c w b more rest kept m placed written.2 (stmts_rest g site a (stmts_names site b more) names_a) (stmts_parts_rest g w a (stmts_parts w b rest) parts_a),
      )
  stmt_fits g p at site c w (loop q0 x q low high a) more rest kept m placed written names ps k =
      let inner : Site = inside (loop_name x q ∷ []) site in
      let bounds : AreNames g (loop_names site x q low high a more) = loop_rest g site x q low high a more names in
      let names_a : AreNames g (stmts_names inner a more) = constant_rest g site high (stmts_names inner a more) (constant_rest g site low (constant_names site high (stmts_names inner a more)) bounds) in
      let is_loop : thing_at g q ≡ loop_thing = kept.things.loops w q0 x q low high a (own_part g w (loop q0 x q low high a) rest ps) in (
        turns_fit g p at site c w kept m placed q0 x q low high a more k written.0 written.1 bounds,
        stmts_fit g p at inner (in_loop x c) (looped w) a more rest kept (in_loop_mirrors g p at c x site q m is_loop) (in_loop_placed w at c x placed) written.2 names_a
            (more_parts g (statement w (loop q0 x q low high a)) (stmts_parts (looped w) a rest) ps),
      )
  stmt_fits g p at site c w (exit_when q e) more rest kept m placed written names ps k = exit_fits g p at site c w kept m placed q e more k written names
  stmt_fits g p at site c w (get q0 x q r) more rest kept m placed written names ps k = get_fits g p at site c w kept m placed q0 x q r more k written names
  stmt_fits g p at site c w (put q0 x q e) more rest kept m placed written names ps k = put_fits g p at site c w kept m placed q0 x q e more k written names
  stmt_fits g p at site c w (wait q0 x q limit number) more rest kept m placed written names ps k = wait_fits g p at site c w kept m placed q0 x q limit number more k written.0 written.1 names
  stmt_fits g p at site c w (signal q0 x q) more rest kept m placed written names ps k = condition_stands g p at site c kept m x q (head_name g (uses site x q want_is.Condition) more names)
  stmt_fits g p at site c w (broadcast q0 x q) more rest kept m placed written names ps k = condition_stands g p at site c kept m x q (head_name g (uses site x q want_is.Condition) more names)
  stmt_fits g p at site c w (except q number) more rest kept m placed written names ps k = limits_fit g p at site c w kept m placed 10 999 number more written names k.bad_number
  stmt_fits g p at site c w (assert q e) more rest kept m placed written names ps k = is_of_fits g p at site c sort_is.Truth e more kept m written names (agrees_of g w (assert q e) k) (strays_of g w (assert q e) k)

  pub stmts_fit : (g : Prog Place) (p : Process Place) (at : Option Place) (site : Site) (c : Here) (w : Where) (ss : Stmts Place) (more : List Occurrence) (rest : List Part) → IsKept g → Mirrors g p at site c
      → IsPlaced w at c → StmtsWritten ss → AreNames g (stmts_names site ss more) → AreParts g (stmts_parts w ss rest) → AllFit c (plain_stmts ss)
  stmts_fit g p at site c w no_stmts more rest kept m placed written names ps = tt
  stmts_fit g p at site c w (stmts s ss) more rest kept m placed written names ps = (
    stmt_fits g p at site c w s (stmts_names site ss more) (stmts_parts w ss rest) kept m placed written.0 names ps (keeps_rules g (statement w s) kept.statements (own_part g w s (stmts_parts w ss rest) ps)),
    stmts_fit g p at site c w ss more rest kept m placed written.1 (stmt_rest g site s (stmts_names site ss more) names) (stmt_parts_rest g w s (stmts_parts w ss rest) ps),
  )
