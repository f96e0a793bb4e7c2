-- No rule for statements fails of a table's program.
use Rattle.std.proofs.Common.{◌≡◌, ◌≤◌, ◌<◌, ◌+◌, ◌⊎◌, inl, inr, ℕ, Bool, true, false, not, ◌&&◌, ◌||◌, nat_le, nat_eq, List, [], ◌∷◌, ◌++◌, Option, Some, None, pos, codes, refl, ap, sym, ◌∙◌, subst, arith}
use Rattle.std.specs.Prelude.{nat_lt, int_lt, int_le, ◌+ℤ◌, if◌then◌else◌}
use Rattle.std.proofs.lemmas.Bool.{le-ltb, lt-leb, ne_eqb}
use Rattle.syntax_tree.specs.Plain.{Name}
use Rattle.syntax_tree.specs.declared.place.Place.{Place}
use Rattle.syntax_tree.specs.Placed.{Constant, literal_constant, named_constant, literal, variable, minus, whole, no_exprs, Stmt, assign, perform_entry, loop, Stmts, no_stmts, stmts, Scalar, Expr, Routine, Handler, Decl, Prog}
use Rattle.syntax_tree.specs.Bare.{bare_constant}
use Rattle.base.specs.Words as words
use Rattle.static_rule.specs.Parts.{Rule, FailsOf, FailsAmong}
use Rattle.static_declarations.specs.declared.home.StmtContext.{StmtContext}
use Rattle.static_declarations.specs.declared.home.StmtContext.TheVariants as home_is
use Rattle.static_declarations.specs.declared.home.Where.{Where}
use Rattle.static_declarations.specs.declared.sort.Sort.{Sort}
use Rattle.static_declarations.specs.declared.sort.Sort.TheVariants as sort_is
use Rattle.static_declarations.specs.Things.{Thing, named_at}
use Rattle.static_declarations.specs.Sorts.{alike}
use Rattle.static_declarations.specs.Parts.{Part, statement, looped, stmts_parts, routine_parts, routines_parts, answer_parts, handler_parts, decl_parts, decls_parts, parts, stmt_place, outside_loops}
use Rattle.static_declarations.specs.Values.{value, constant_place}
use Rattle.static_types.specs.Sorts.{word_sort, is_array, asked, call_agrees}
use Rattle.static_types.specs.Types.{mistyped, stmt_agrees}
use Rattle.static_types.specs.Conduct.{misplaced, misdirected, stmt_strays, is_foreign, is_function, calls_nothing}
use Rattle.static_types.specs.Numbers.{crossed_loop, endless_loop, long_loop, bad_number, bad_limit}
use Rattle.static_types.specs.Rules.{statement_rules, StatementFails}
use Rattle.table_format.specs.declared.table.TaskTable.{TaskTable}
use Rattle.table_format.specs.Spending.{of_number, of_x}
use Rattle.table_law.proofs.Lists.{Every}
use Rattle.table_law.proofs.Shapes.{IsBody, ended, clears, keeps, lowers, turns, turns_twice, enters, Nothing, Stayed, IsEntryOf, IsSomeEntry, IsMonitorOf, IsProcessOf, IsDeclOf, an_event, a_monitor, a_process}
use Rattle.table_law.proofs.Things.{IsTameOption, named_tame, no_array, a_number, no_function, no_asked}

-- ---- rules that do not fail

abbrev pub NoneOf : {X : Type 0} → List (Rule X) → X → Type 0
NoneOf [] x = Unit {0}
NoneOf (r ∷ rs) x = (r.fails x ≡ None) × NoneOf rs x

not_some : {X : Type 0} (o : Option X) (x : X) → o ≡ None → o ≡ Some x → ⊥
not_some None x one other = cc
not_some (Some y) x one other = cc

pub none_fails : {X : Type 0} (rs : List (Rule X)) (x : X) → NoneOf rs x → (number : ℕ) (place : Place) → ¬ FailsOf rs x number place
none_fails [] x all number place fails = fails
none_fails (r ∷ rs) x all number place (inl here) = not_some (r.fails x) place all.0 here.1
none_fails (r ∷ rs) x all number place (inr more) = none_fails rs x all.1 number place more

pub none_among : {X : Type 0} (rs : List (Rule X)) (xs : List X) → Every (NoneOf rs) xs → (number : ℕ) (place : Place) → ¬ FailsAmong rs xs number place
none_among rs [] all number place fails = fails
none_among rs (x ∷ xs) all number place (inl here) = none_fails rs x all.0 number place here
none_among rs (x ∷ xs) all number place (inr more) = none_among rs xs all.1 number place more

-- ---- numbers

pub is_worth : (g : Prog Place) (c : Constant Place) (n : ℕ) → bare_constant c ≡ of_number n → value g c ≡ pos n
is_worth g (literal_constant p true m q) n same = absurd cc
is_worth g (literal_constant p false m q) n same = (let is : m ≡ n = cc in ap (λ k. pos k) is)
is_worth g (named_constant p s m q) n same = absurd cc

-- ---- sorts

abbrev IsNumber : Option Sort → Type 0
IsNumber o = (o ≡ None) ⊎ (o ≡ Some sort_is.Number)

alike_numbers : (a b : Option Sort) → IsNumber a → IsNumber b → alike a b ≡ true
alike_numbers a b (inl none) is = ap (λ (o : Option Sort). alike o b) none
alike_numbers a b (inr some) (inl none) = (λ i. alike (some i) (none i))
alike_numbers a b (inr some) (inr other) = (λ i. alike (some i) (other i))

module _ (tail : Name) (t : TaskTable) (g : Prog Place) (are : Every (IsDeclOf tail t) g.decls) where
  abbrev named : Place → Option Thing
  named = named_at g

  abbrev IsFine : Part → Type 0
  IsFine x = NoneOf (statement_rules g) x

  tame : (p : Place) → IsTameOption (named p)
  tame = named_tame tail t g are

  fine : (here : Where) (s : Stmt Place) → stmt_agrees named s ≡ true → crossed_loop (value g) (statement here s) ≡ None → endless_loop (value g) (statement here s) ≡ None
      → long_loop (value g) (statement here s) ≡ None → stmt_strays named here s ≡ false → misdirected named (statement here s) ≡ None
      → bad_number (value g) (statement here s) ≡ None → bad_limit (value g) (statement here s) ≡ None → IsFine (statement here s)
  unfolding statement_rules
  fine here s agrees crossed endless long strays directed number limit = (
    ap (λ (b : Bool). if b then None else Some (stmt_place s)) agrees,
    (
      crossed,
      (
        endless,
        (
          long,
          (ap (λ (b : Bool). if b then Some (stmt_place s) else None) strays, (directed, (number, (limit, tt)))),
        ),
      ),
    ),
  )

  to_number : (p : Place) (o : Option Sort) → IsNumber o → (not (is_array (named p)) && (true && alike (word_sort (named p)) o)) ≡ true
  to_number p o is =
      let one = no_array (named p) (tame p) in
      let two = alike_numbers (word_sort (named p)) o (a_number (named p) (tame p)) is in
      λ i. not (one i) && (true && two i)

  from_name : (p q : Place) → (not (is_array (named p)) && (not (is_array (named q)) && alike (word_sort (named p)) (word_sort (named q)))) ≡ true
  from_name p q =
      let one = no_array (named p) (tame p) in
      let two = no_array (named q) (tame q) in
      let three = alike_numbers (word_sort (named p)) (word_sort (named q)) (a_number (named p) (tame p)) (a_number (named q) (tame q)) in
      λ i. not (one i) && (not (two i) && three i)

  looping : (here : Where) (p : Place) (n : Name) (q : Place) (low high : Constant Place) (k : ℕ) (a : Stmts Place)
      → bare_constant low ≡ of_number 1 → bare_constant high ≡ of_number k → 1 ≤ k → k ≤ 99850 → IsFine (statement here (loop p n q low high a))
  looping here p n q low high k a from up some few =
      let la = is_worth g low 1 from in
      let lb = is_worth g high k up in
      let not_crossed : nat_lt k 1 ≡ false = le-ltb k 1 some in
      let not_endless : nat_eq k 2147483647 ≡ false = ne_eqb k 2147483647 (λ e. omega (arith, e, few)) in
      let not_long : nat_le 1000001 k ≡ false = lt-leb 1000001 k (omega (arith, few)) in
      let o : Option Place = None in
      fine here (loop p n q low high a) refl
      ((λ i. if int_lt (lb i) (la i) then Some (constant_place low) else o) ∙ ap (λ b. if b then Some (constant_place low) else o) not_crossed)
      ((λ i. if words.same (lb i) (pos 2147483647) then Some (constant_place high) else o) ∙ ap (λ b. if b then Some (constant_place high) else o) not_endless)
      ((λ i. if int_le (la i +ℤ pos 1000000) (lb i) then Some p else o) ∙ ap (λ b. if b then Some p else o) not_long)
      refl refl refl refl

  module _ (May : Name → Name → Type 0) (home : StmtContext) (free : (o : Option Thing) → is_foreign home o ≡ false)
      (may : (m e : Name) → May m e → calls_nothing home ≡ false) where
    body_fine : (in_loop : Bool) (ss : Stmts Place) → IsBody tail May ss → (more : List Part) → Every IsFine more
        → Every IsFine (stmts_parts (record { home = home; in_loop = in_loop }) ss more)
    body_fine in_loop ss ended more all = all
    body_fine in_loop ss (clears p q v rest body) more all = (
      fine (record { home = home; in_loop = in_loop }) (assign (whole p (of_x tail)) (literal q v)) (to_number p (Some sort_is.Number) (inr refl)) refl refl refl
          (ap (λ b. (b || false) || false) (free (named p))) refl refl refl,
      body_fine in_loop rest body more all,
    )
    body_fine in_loop ss (keeps p q rest body) more all = (
      fine (record { home = home; in_loop = in_loop }) (assign (whole p (of_x tail)) (variable q (of_x tail))) (from_name p q) refl refl refl
          (ap (λ b. (b || false) || false) (free (named p))) refl refl refl,
      body_fine in_loop rest body more all,
    )
    body_fine in_loop ss (lowers p q r v rest body) more all = (
      fine (record { home = home; in_loop = in_loop }) (assign (whole p (of_x tail)) (minus q (literal r v))) (to_number p (Some sort_is.Number) (inr refl)) refl refl refl
          (ap (λ b. (b || false) || false) (free (named p))) refl refl refl,
      body_fine in_loop rest body more all,
    )
    body_fine in_loop ss (turns p q low high k rest from up some few body) more all =
        (looping (record { home = home; in_loop = in_loop }) p (codes "i" ++ tail) q low high k no_stmts from up some few, body_fine in_loop rest body more all)
    body_fine in_loop ss (turns_twice p q low high k a b least most rest from up some few from_one to_most body) more all = (
      looping (record { home = home; in_loop = in_loop }) p (codes "i" ++ tail) q low high k (stmts (loop a (codes "j" ++ tail) b least most no_stmts) no_stmts) from up some few,
      (looping (record { home = home; in_loop = true }) a (codes "j" ++ tail) b least most 1000 no_stmts from_one to_most (omega arith) (omega arith), body_fine in_loop rest body more all),
    )
    body_fine in_loop ss (enters p q m e rest is body) more all =
        (let none = may m e is in let call = no_function (named q) (tame q) in (
          fine (record { home = home; in_loop = in_loop }) (perform_entry p m e q no_exprs) (no_asked named (named q) (tame q)) refl refl refl
              (λ i. none i || (call i || false)) refl refl refl,
          body_fine in_loop rest body more all,
        ))

  -- ---- the whole program

  free_entry : (o : Option Thing) → is_foreign home_is.Entry o ≡ false
  free_entry o = refl

  free_process : (o : Option Thing) → is_foreign home_is.Free o ≡ false
  free_process o = refl

  entries_fine : (rs : List (Routine Place)) → Every (IsSomeEntry tail) rs → (more : List Part) → Every IsFine more → Every IsFine (routines_parts true rs more)
  entries_fine [] is more all = all
  entries_fine (r ∷ rs) is more all =
      let rest = entries_fine rs is.1 more all in
      let answered : Every IsFine (answer_parts r.place r.result r.value (routines_parts true rs more)) =
      subst (λ o. Every IsFine (answer_parts r.place o r.value (routines_parts true rs more))) (sym is.0.is.result) rest in
      body_fine Nothing home_is.Entry free_entry (λ m e none. absurd none) false r.body is.0.is.body (answer_parts r.place r.result r.value (routines_parts true rs more)) answered

  decl_fine : (d : Decl Place) → IsDeclOf tail t d → (more : List Part) → Every IsFine more → Every IsFine (decl_parts d more)
  decl_fine d (an_event name place) more all = all
  decl_fine d (a_monitor name m is) more all = entries_fine m.entries is.entries more all
  decl_fine d (a_process line p is) more all =
      let handled : Every IsFine (handler_parts p.handler more) = subst (λ h. Every IsFine (handler_parts h more)) (sym is.handler) all in
      let body = body_fine (Stayed line tail) home_is.Free free_process (λ m e may. refl) false p.body is.body (handler_parts p.handler more) handled in
      subst (λ rs. Every IsFine (routines_parts false rs (stmts_parts (outside_loops home_is.Free) p.body (handler_parts p.handler more)))) (sym is.routines) body

  decls_fine : (ds : List (Decl Place)) → Every (IsDeclOf tail t) ds → (more : List Part) → Every IsFine more → Every IsFine (decls_parts ds more)
  decls_fine [] is more all = all
  decls_fine (d ∷ ds) is more all = decl_fine d is.0 (decls_parts ds more) (decls_fine ds is.1 more all)

  pub no_statement_fails : (number : ℕ) (place : Place) → ¬ StatementFails g number place
  no_statement_fails number place fails = none_among (statement_rules g) (parts g) (decls_fine g.decls are [] tt) number place fails
