-- Expressions, targets and statements that fit keep the rules that the law of one process asks for.
use Rattle.std.specs.Prelude.{◌≡◌, ◌<◌, ◌||◌, ◌&&◌, ℕ, suc, Bool, true, false, not, List, [], ◌∷◌, ◌++◌, Option, Some, None, ◌-ℤ◌, slice_get, option_map, Contains}
use Rattle.std.proofs.Common.{refl, sym, ◌∙◌, ap, subst}
use Rattle.std.proofs.lemmas.Option.{same_Some, none-some}
use Rattle.std.proofs.lemmas.Bool.{false≢true}
use Rattle.base.proofs.Members.{none_in}
use Rattle.syntax_tree.specs.Plain.{Name, Param, Constant, Answers, Var, Routine, Monitor, Expr, literal, truth, variable, element, call, minus, negation, paren, row, Exprs, no_exprs, exprs, Operands, no_operands, operand, Ref, whole, part, Stmt, assign, assign_entry, assign_empty, perform, perform_entry, when, when_else, loop, exit_when, get, put, wait, signal, broadcast, except, assert, Stmts, no_stmts, stmts, Program}
use Rattle.source_semantics.specs.Names.{named, constant_value, monitors, processes, monitor_number, condition_number, routine_count, conditions_of}
use Rattle.source_semantics.specs.Store.{up_to}
use Rattle.source_semantics.specs.Run.{Found, of_monitor, routine_named, entry_named, entry_of as source_entry}
use Rattle.source_semantics.specs.Nesting.{ExprBelow, ExprsBelow, OperandsBelow, RefBelow, StmtBelow, StmtsBelow}
use Rattle.source_semantics.specs.Ranks.{uses, uses_all, reached, monitors_of, includes}
use Rattle.machine_semantics.specs.Image as image
use Rattle.code_spec.specs.Layout.{Owner, by_program, by_process, by_monitor, home_of, Scope, spot_of}
use Rattle.code_spec.specs.Numbering.{Text, routine_in, entry_of, entry_in, Called, calls_routine, calls_entry, expr_calls, exprs_calls, row_calls, ref_calls, stmt_calls, stmts_calls}
use Rattle.code_spec.specs.Code.{constant_named, range_of_spot, ref_name}
use Rattle.code_spec.specs.Emits.{inner, condition_of}
use Rattle.code_spec.specs.Memory.{Setting}
use Rattle.code_spec.specs.Proper.{found_of, IsMine, Callee, Reaches, Entry, ProperExpr, ProperRow, ProperArgs, ProperIndex, ProperRef, CountsOn, IsOutside, MayAct, CallsEntry, Waiting, Proper, ProperAll}
use Rattle.static_declarations.specs.declared.sort.Sort.{Sort}
use Rattle.static_declarations.specs.declared.sort.Sort.TheVariants as sort_is
use Rattle.static_semantics.specs.Here.{meant, scalar_sort, conditions_here, monitor_conditions, is_monitor}
use Rattle.static_semantics.specs.Typed.{answer_sort, params_of, IsOf, IsRow, AreArguments, IsTarget}
use Rattle.static_semantics.specs.Statements.{AreTurns, may_call, Fits, AllFit}
use Rattle.codegen_law.specs.Ruled.{all_in, runs_of}
use Rattle.codegen_law.proofs.NameNumbers.{monitor_there}
use Rattle.codegen_law.proofs.Mirror.{here_of, OwnAt, OwnerKnown, spot_meant, value_meant, array_meant, free_meant, single_meant, unranged_word, unranged_element}

-- ---- what calls name

-- what a name in a call means by the source is what it means in the code
abbrev pub AgreeName : Setting → Scope → Name → Type 0
AgreeName e c f = (x : Found) → routine_named e.program e.text f ≡ Some x → (t : Text) × (routine_in e.program c.owner f ≡ Some t) × (found_of t ≡ x) × IsMine e t.owner

abbrev pub AgreeAll : Setting → Scope → List Called → Type 0
AgreeAll e c [] = Unit {0}
AgreeAll e c (calls_routine f ∷ cs) = AgreeName e c f × AgreeAll e c cs
AgreeAll e c (calls_entry m f ∷ cs) = AgreeAll e c cs

pub agree_front : (e : Setting) (c : Scope) (xs ys : List Called) → AgreeAll e c (xs ++ ys) → AgreeAll e c xs
agree_front e c [] ys h = tt
agree_front e c (calls_routine f ∷ xs) ys h = (h.0, agree_front e c xs ys h.1)
agree_front e c (calls_entry m f ∷ xs) ys h = agree_front e c xs ys h

pub agree_back : (e : Setting) (c : Scope) (xs ys : List Called) → AgreeAll e c (xs ++ ys) → AgreeAll e c ys
agree_back e c [] ys h = h
agree_back e c (calls_routine f ∷ xs) ys h = agree_back e c xs ys h.1
agree_back e c (calls_entry m f ∷ xs) ys h = agree_back e c xs ys h

-- what holds of the whole: the process stands under its number, it may run each function, monitors and conditions stand in the image,
-- and loops count on
pub record Whole (e : Setting) : Type 0 where
  pub at : slice_get (processes e.program) e.number ≡ Some e.text
  pub functions : (f : Name) (x : Found) (a : Answers) → routine_named e.program e.text f ≡ Some x → x.routine.answers ≡ Some a → e.order.runs f ≡ true
  pub runs : (f : Name) → e.order.runs f ≡ runs_of e.program e.text f
  pub monitor_rows : (m : ℕ) (k : Monitor) → slice_get (monitors e.program) m ≡ Some k → (r : image.Monitor) × (slice_get e.image.monitors m ≡ Some r)
  pub condition_rows : (m : ℕ) (k : Monitor) (x : Name) → slice_get (monitors e.program) m ≡ Some k → Contains (conditions_of k) x → slice_get e.image.conditions (condition_number e.program m x) ≡ Some m
  pub turns : (low high : Constant) → AreTurns e.program low high → (k : ℕ) × (up_to (constant_value e.program high -ℤ constant_value e.program low) ≡ suc k) × CountsOn (constant_value e.program low) (suc k)

-- where a text stands
pub record Place (e : Setting) (c : Scope) (turns : List Name) (vars : List Var) : Type 0 where
  pub owner : OwnerKnown e c.owner
  pub own : OwnAt e.program turns vars c.own
  pub inside : (m : ℕ) → c.owner ≡ by_monitor m → Reaches e m × (c.is_function ≡ false)

module _ (e : Setting) (w : Whole e) (n : ℕ) where
  -- a call of a function
  callee_of : (c : Scope) (f : Name) (s : Sort) (x : Option Found) → routine_named e.program e.text f ≡ x → answer_sort x ≡ Some s → AgreeName e c f → e.order.level f < n
      → (t : Text) × (a : Answers) × Callee e c n f t × (t.routine.answers ≡ Some a) × (x ≡ Some (found_of t))
  callee_of c f s None is h agree below = absurd (none-some s h)
  callee_of c f s (Some x) is h agree below =
      let t : (t : Text) × (routine_in e.program c.owner f ≡ Some t) × (found_of t ≡ x) × IsMine e t.owner = agree x is in
      let a : (a : Answers) × (x.routine.answers ≡ Some a) = answers_of x.routine.answers h in (
        t.0,
        a.0,
        record { in_code = t.1; in_source = is ∙ ap (λ y. Some y) (sym t.2); mine = t.3; below = below; runs = w.functions f x a.0 is a.1 },
        ap (λ y. y.routine.answers) t.2 ∙ a.1,
        ap (λ y. Some y) (sym t.2),
      )
    where
      answers_of : (an : Option Answers) → option_map (λ y. scalar_sort y.kind) an ≡ Some s → (a : Answers) × (an ≡ Some a)
      answers_of None h = absurd (none-some s h)
      answers_of (Some a) h = (a, refl)

  module _ (c : Scope) (turns : List Name) (vars : List Var) (place : Place e c turns vars) where
    mutual
      pub expr_proper : (x : Expr) (s : Sort) → IsOf (here_of e c turns vars) s x → ExprBelow e.order.level n x → AgreeAll e c (expr_calls x) → ProperExpr e c n x
      expr_proper (literal v) s h b a = tt
      expr_proper (truth v) s h b a = tt
      expr_proper (variable x) s h b a = value_meant e.program (meant (here_of e c turns vars) x) (spot_of e.program c x) (constant_named e.program x) s (spot_meant e c turns vars x w.at place.owner place.own) h
      expr_proper (element x i) s h b a =
          (expr_proper i sort_is.Number h.1 b a, array_meant e.program (meant (here_of e c turns vars) x) (spot_of e.program c x) (constant_named e.program x) s (spot_meant e c turns vars x w.at place.owner place.own) h.0)
      expr_proper (call f es) s h b a =
          let r : (t : Text) × (an : Answers) × Callee e c n f t × (t.routine.answers ≡ Some an) × (routine_named e.program e.text f ≡ Some (found_of t)) = callee_of c f s (routine_named e.program e.text f) refl h.0 a.0 b.0 in
          (r.0, r.1, r.2, r.3, args_proper es r.0.routine.params (subst (λ y. AreArguments (here_of e c turns vars) (params_of y) es) r.4 h.1) b.1 a.1)
      expr_proper (minus i) s h b a = expr_proper i sort_is.Number h.1 b a
      expr_proper (negation i) s h b a = expr_proper i sort_is.Truth h.1 b a
      expr_proper (paren i) s h b a = expr_proper i s h b a
      expr_proper (row i r) s h b a = (expr_proper i h.0 h.1 b.0 (agree_front e c (expr_calls i) (row_calls r) a), row_proper r h.0 s h.2 b.1 (agree_back e c (expr_calls i) (row_calls r) a))

      row_proper : (r : Operands) (t s : Sort) → IsRow (here_of e c turns vars) t s r → OperandsBelow e.order.level n r → AgreeAll e c (row_calls r) → ProperRow e c n r
      row_proper no_operands t s h b a = tt
      row_proper (operand op i r) t s h b a = (expr_proper i h.0 h.1 b.0 (agree_front e c (expr_calls i) (row_calls r) a), row_proper r _ s h.3 b.1 (agree_back e c (expr_calls i) (row_calls r) a))

      args_proper : (es : Exprs) (ps : List Param) → AreArguments (here_of e c turns vars) (Some ps) es → ExprsBelow e.order.level n es → AgreeAll e c (exprs_calls es) → ProperArgs e c n es ps
      args_proper no_exprs [] h b a = tt
      args_proper (exprs i es) [] h b a = absurd h
      args_proper no_exprs (p ∷ ps) h b a = absurd h
      args_proper (exprs i es) (p ∷ ps) h b a = (expr_proper i (scalar_sort p.kind) h.0 b.0 (agree_front e c (expr_calls i) (exprs_calls es) a), args_proper es ps h.1 b.1 (agree_back e c (expr_calls i) (exprs_calls es) a))

    index_proper : (r : Ref) (s : Sort) → IsTarget (here_of e c turns vars) s r → RefBelow e.order.level n r → AgreeAll e c (ref_calls r) → ProperIndex e c n r
    index_proper (whole x) s h b a = tt
    index_proper (part x i) s h b a = expr_proper i sort_is.Number h.2 b a

    ref_proper : (r : Ref) (s : Sort) → IsTarget (here_of e c turns vars) s r → ProperRef e c r
    ref_proper (whole x) s h = (
      single_meant e.program (meant (here_of e c turns vars) x) (spot_of e.program c x) (constant_named e.program x) c.is_function s (spot_meant e c turns vars x w.at place.owner place.own) h.0 h.1,
      free_meant e.program (meant (here_of e c turns vars) x) (spot_of e.program c x) (constant_named e.program x) c.is_function (spot_meant e c turns vars x w.at place.owner place.own) h.0,
    )
    ref_proper (part x i) s h = (
      array_meant e.program (meant (here_of e c turns vars) x) (spot_of e.program c x) (constant_named e.program x) s (spot_meant e c turns vars x w.at place.owner place.own) h.1,
      free_meant e.program (meant (here_of e c turns vars) x) (spot_of e.program c x) (constant_named e.program x) c.is_function (spot_meant e c turns vars x w.at place.owner place.own) h.0,
    )

    truth_unranged : (r : Ref) → IsTarget (here_of e c turns vars) sort_is.Truth r → range_of_spot (spot_of e.program c (ref_name r)) ≡ None
    truth_unranged (whole x) h = unranged_word e.program (meant (here_of e c turns vars) x) (spot_of e.program c x) (constant_named e.program x) c.is_function (spot_meant e c turns vars x w.at place.owner place.own) h.0 h.1
    truth_unranged (part x i) h = unranged_element e.program (meant (here_of e c turns vars) x) (spot_of e.program c x) (constant_named e.program x) c.is_function (spot_meant e c turns vars x w.at place.owner place.own) h.0 h.1

    -- ---- who may do what

    outside_of : (r : Owner) → not (is_monitor (home_of r) || c.is_function) ≡ true → IsOutside r
    outside_of by_program h = tt
    outside_of (by_process k) h = tt
    outside_of (by_monitor m) h = absurd (false≢true h)

    acts_of : (r : Owner) (b : Bool) → not (is_monitor (home_of r) || b) ≡ true → b ≡ false
    acts_of by_program true h = absurd (false≢true h)
    acts_of by_program false h = refl
    acts_of (by_process k) true h = absurd (false≢true h)
    acts_of (by_process k) false h = refl
    acts_of (by_monitor m) b h = absurd (false≢true h)

    -- a condition is named only in an entry
    waiting_of : (x : Name) (r : Owner) → c.owner ≡ r → Contains (conditions_here e.program (home_of r)) x → Waiting e c x × MayAct c
    waiting_of x by_program is h = absurd (none_in x h)
    waiting_of x (by_process k) is h = absurd (none_in x h)
    waiting_of x (by_monitor m) is h =
        let i : Reaches e m × (c.is_function ≡ false) = place.inside m is in
        (record { monitor = m; owner = is; condition = ap (λ r. slice_get e.image.conditions (condition_of e.program r x)) is ∙ by_found (slice_get (monitors e.program) m) refl h; reaches = i.0 }, i.1)
      where
        by_found : (d : Option Monitor) → slice_get (monitors e.program) m ≡ d → Contains (monitor_conditions d) x → slice_get e.image.conditions (condition_number e.program m x) ≡ Some m
        by_found None there h = absurd (none_in x h)
        by_found (Some d) there h = w.condition_rows m d x there h

-- ---- entries

-- what the names in a call of an entry mean
entry_means : (g : Program) (mon en : Name) (x : Found) → entry_named g mon en ≡ Some x
    → (t : Text) × (entry_in g mon en ≡ Some t) × (found_of t ≡ x) × (t.owner ≡ by_monitor (monitor_number g mon)) × ((k : Monitor) × (slice_get (monitors g) (monitor_number g mon) ≡ Some k))
entry_means g mon en x is = by_monitor_found (named (λ k. k.name) mon (monitors g)) refl is
  where
    by_entry : (k : Monitor) (r : Option Routine) → option_map (λ y. record { home = of_monitor (monitor_number g mon); routine = y }) r ≡ Some x
        → (t : Text) × (option_map (λ y. record { owner = by_monitor (monitor_number g mon); routine = y }) r ≡ Some t) × (found_of t ≡ x) × (t.owner ≡ by_monitor (monitor_number g mon))
    by_entry k None h = absurd (none-some x h)
    by_entry k (Some r) h = (record { owner = by_monitor (monitor_number g mon); routine = r }, refl, found_same (record { home = of_monitor (monitor_number g mon); routine = r }) x h, refl)
      where
        found_same : (a b : Found) → Some a ≡ Some b → a ≡ b
        found_same a b e = same_Some a b e

    by_monitor_found : (d : Option Monitor) → named (λ k. k.name) mon (monitors g) ≡ d → source_entry (monitor_number g mon) en d ≡ Some x
        → (t : Text) × (entry_of (monitor_number g mon) d en ≡ Some t) × (found_of t ≡ x) × (t.owner ≡ by_monitor (monitor_number g mon)) × ((k : Monitor) × (slice_get (monitors g) (monitor_number g mon) ≡ Some k))
    by_monitor_found None there h = absurd (none-some x h)
    by_monitor_found (Some k) there h =
        let r : (t : Text) × (option_map (λ y. record { owner = by_monitor (monitor_number g mon); routine = y }) (named (λ y. y.name) en k.entries) ≡ Some t) × (found_of t ≡ x) × (t.owner ≡ by_monitor (monitor_number g mon)) =
        by_entry k (named (λ y. y.name) en k.entries) h in
        (r.0, r.1, r.2, r.3, (k, monitor_there mon (monitors g) k there))

includes_of : (m : ℕ) (ms : List ℕ) → all_in (m ∷ []) ms ≡ true → includes m ms ≡ true
includes_of m ms h = by_case (includes m ms) h
  where
    by_case : (b : Bool) → b && true ≡ true → b ≡ true
    by_case true h = refl
    by_case false h = absurd (false≢true h)

all_front : (xs ys ms : List ℕ) → all_in (xs ++ ys) ms ≡ true → all_in xs ms ≡ true
all_front [] ys ms h = refl
all_front (x ∷ xs) ys ms h = by_case (includes x ms) h (λ k. all_front xs ys ms k)
  where
    by_case : (b : Bool) → b && all_in (xs ++ ys) ms ≡ true → (all_in (xs ++ ys) ms ≡ true → all_in xs ms ≡ true) → b && all_in xs ms ≡ true
    by_case true h k = k h
    by_case false h k = absurd (false≢true h)

all_back : (xs ys ms : List ℕ) → all_in (xs ++ ys) ms ≡ true → all_in ys ms ≡ true
all_back [] ys ms h = h
all_back (x ∷ xs) ys ms h = by_case (includes x ms) h (λ k. all_back xs ys ms k)
  where
    by_case : (b : Bool) → b && all_in (xs ++ ys) ms ≡ true → (all_in (xs ++ ys) ms ≡ true → all_in ys ms ≡ true) → all_in ys ms ≡ true
    by_case true h k = k h
    by_case false h k = absurd (false≢true h)

-- the monitors that a text uses, all among those of the process
abbrev pub UsesIn : Setting → List ℕ → Type 0
UsesIn e ms = all_in ms (monitors_of e.program e.text) ≡ true

module _ (e : Setting) (w : Whole e) (n : ℕ) where
  -- an entry that a text calls
  entry_called : (mon en : Name) (x : Found) → entry_named e.program mon en ≡ Some x → UsesIn e (monitor_number e.program mon ∷ []) → (t : Text) × Entry e mon en t × (found_of t ≡ x)
  entry_called mon en x is used =
      let r : (t : Text) × (entry_in e.program mon en ≡ Some t) × (found_of t ≡ x) × (t.owner ≡ by_monitor (monitor_number e.program mon)) × ((k : Monitor) × (slice_get (monitors e.program) (monitor_number e.program mon) ≡ Some k)) =
      entry_means e.program mon en x is in
      let there : (y : image.Monitor) × (slice_get e.image.monitors (monitor_number e.program mon) ≡ Some y) = w.monitor_rows (monitor_number e.program mon) r.4.0 r.4.1 in (
        r.0,
        record {
          in_code = r.1;
          in_source = is ∙ ap (λ y. Some y) (sym r.2);
          owner = r.3;
          reaches = record { monitor = there.0; there = there.1; reached = includes_of (monitor_number e.program mon) (monitors_of e.program e.text) used };
        },
        r.2,
      )

  module _ (c : Scope) (turns : List Name) (vars : List Var) (place : Place e c turns vars) where
    -- a call of an entry, from what may call
    calls_entry_of : (mon en : Name) (es : Exprs) (x : Option Found) → entry_named e.program mon en ≡ x → may_call (here_of e c turns vars) ≡ true → AreArguments (here_of e c turns vars) (params_of x) es
        → UsesIn e (monitor_number e.program mon ∷ []) → ExprsBelow e.order.level n es → AgreeAll e c (exprs_calls es) → (t : Text) × CallsEntry e c n mon en es t × (x ≡ Some (found_of t))
    calls_entry_of mon en es None is may h used b a = absurd h
    calls_entry_of mon en es (Some x) is may h used b a =
        let r : (t : Text) × Entry e mon en t × (found_of t ≡ x) = entry_called mon en x is used in (
          r.0,
          record {
            may_act = acts_of e w n c turns vars place c.owner c.is_function may;
            outside = outside_of e w n c turns vars place c.owner may;
            entry_is = r.1;
            args = args_proper e w n c turns vars place es r.0.routine.params (subst (λ y. AreArguments (here_of e c turns vars) (Some y.routine.params) es) (sym r.2) h) b a;
          },
          ap (λ y. Some y) (sym r.2),
        )

    answers_some : (x : Option Found) (t : Text) (s : Sort) → x ≡ Some (found_of t) → answer_sort x ≡ Some s → (a : Answers) × (t.routine.answers ≡ Some a)
    answers_some x t s is h = by_answers t.routine.answers (ap (λ y. answer_sort y) (sym is) ∙ h)
      where
        by_answers : (an : Option Answers) → option_map (λ y. scalar_sort y.kind) an ≡ Some s → (a : Answers) × (an ≡ Some a)
        by_answers None h = absurd (none-some s h)
        by_answers (Some a) h = (a, refl)

    answers_none : (x : Option Found) (t : Text) → x ≡ Some (found_of t) → answer_sort x ≡ None → t.routine.answers ≡ None
    answers_none x t is h = by_answers t.routine.answers (ap (λ y. answer_sort y) (sym is) ∙ h)
      where
        by_answers : (an : Option Answers) → option_map (λ y. scalar_sort y.kind) an ≡ None → an ≡ None
        by_answers None h = refl
        by_answers (Some a) h = absurd (some_none (scalar_sort a.kind) h)
          where
            some_none : (s : Sort) → Some s ≡ None → ⊥
            some_none s h = absurd cc

    -- a call of a procedure
    procedure_of : (f : Name) (es : Exprs) (x : Option Found) → routine_named e.program e.text f ≡ x → answer_sort x ≡ None → AreArguments (here_of e c turns vars) (params_of x) es → AgreeName e c f → e.order.level f < n
        → UsesIn e (reached e.program e.text (routine_count e.program) f) → ExprsBelow e.order.level n es → AgreeAll e c (exprs_calls es) → (t : Text) × Callee e c n f t × (t.routine.answers ≡ None) × ProperArgs e c n es t.routine.params
    procedure_of f es None is none h agree below used b a = absurd h
    procedure_of f es (Some x) is none h agree below used b a =
        let t : (t : Text) × (routine_in e.program c.owner f ≡ Some t) × (found_of t ≡ x) × IsMine e t.owner = agree x is in (
          t.0,
          record { in_code = t.1; in_source = is ∙ ap (λ y. Some y) (sym t.2); mine = t.3; below = below; runs = w.runs f ∙ used },
          answers_none (Some x) t.0 (ap (λ y. Some y) (sym t.2)) none,
          args_proper e w n c turns vars place es t.0.routine.params (subst (λ y. AreArguments (here_of e c turns vars) (Some y.routine.params) es) (sym t.2) h) b a,
        )

  -- ---- statements

  abbrev Uses : Stmt → List ℕ
  Uses s = uses e.program (reached e.program e.text (routine_count e.program)) s

  abbrev AllUses : Stmts → List ℕ
  AllUses ss = uses_all e.program (reached e.program e.text (routine_count e.program)) ss

  inside_loop : (c : Scope) (turns : List Name) (vars : List Var) (x : Name) (i q : ℕ) → Place e c turns vars → Place e (inner c x i q) (x ∷ turns) vars
  inside_loop c turns vars x i q p = record { owner = p.owner; own = (refl, refl, refl, p.own); inside = p.inside }

  agree_inner : (c : Scope) (x : Name) (i q : ℕ) (cs : List Called) → AgreeAll e c cs → AgreeAll e (inner c x i q) cs
  agree_inner c x i q [] h = tt
  agree_inner c x i q (calls_routine f ∷ cs) h = (h.0, agree_inner c x i q cs h.1)
  agree_inner c x i q (calls_entry m f ∷ cs) h = agree_inner c x i q cs h

  mutual
    pub stmt_proper : (s : Stmt) (c : Scope) (turns : List Name) (vars : List Var) → Place e c turns vars → Fits (here_of e c turns vars) s → StmtBelow e.order.level n s → AgreeAll e c (stmt_calls s) → UsesIn e (Uses s) → Proper e c n s
    stmt_proper (assign r x) c turns vars p h b a u =
        (index_proper e w n c turns vars p r h.0 h.1 b.0 (agree_front e c (ref_calls r) (expr_calls x) a), ref_proper e w n c turns vars p r h.0 h.1, expr_proper e w n c turns vars p x h.0 h.2 b.1 (agree_back e c (ref_calls r) (expr_calls x) a))
    stmt_proper (assign_entry r m en es) c turns vars p h b a u =
        let k : (t : Text) × CallsEntry e c n m en es t × (entry_named e.program m en ≡ Some (found_of t)) = calls_entry_of c turns vars p m en es (entry_named e.program m en) refl h.0 h.2 u b.1 (agree_back e c (ref_calls r) (calls_entry m en ∷ exprs_calls es) a) in
        let an : (x : Answers) × (k.0.routine.answers ≡ Some x) = answers_some c turns vars p (entry_named e.program m en) k.0 h.1.0 k.2 h.1.2 in
        (index_proper e w n c turns vars p r h.1.0 h.1.1 b.0 (agree_front e c (ref_calls r) (calls_entry m en ∷ exprs_calls es) a), ref_proper e w n c turns vars p r h.1.0 h.1.1, (k.0, an.0, an.1, k.1))
    stmt_proper (assign_empty r x) c turns vars p h b a u =
        (index_proper e w n c turns vars p r sort_is.Truth h.0 b a, ref_proper e w n c turns vars p r sort_is.Truth h.0, truth_unranged e w n c turns vars p r h.0, (waiting_of e w n c turns vars p x c.owner refl h.1).1)
    stmt_proper (perform f es) c turns vars p h b a u =
        (acts_of e w n c turns vars p c.owner c.is_function h.0, outside_of e w n c turns vars p c.owner h.0, procedure_of c turns vars p f es (routine_named e.program e.text f) refl h.1 h.2 a.0 b.0 u b.1 a.1)
    stmt_proper (perform_entry m en es) c turns vars p h b a u =
        let k : (t : Text) × CallsEntry e c n m en es t × (entry_named e.program m en ≡ Some (found_of t)) = calls_entry_of c turns vars p m en es (entry_named e.program m en) refl h.0 h.2 u b a in
        (k.0, answers_none c turns vars p (entry_named e.program m en) k.0 k.2 h.1, k.1)
    stmt_proper (when x s) c turns vars p h b a u = (expr_proper e w n c turns vars p x sort_is.Truth h.0 b.0 (agree_front e c (expr_calls x) (stmts_calls s) a), stmts_proper s c turns vars p h.1 b.1 (agree_back e c (expr_calls x) (stmts_calls s) a) u)
    stmt_proper (when_else x s t) c turns vars p h b a u =
        let rest : AgreeAll e c (stmts_calls s ++ stmts_calls t) = agree_back e c (expr_calls x) (stmts_calls s ++ stmts_calls t) a in (
          expr_proper e w n c turns vars p x sort_is.Truth h.0 b.0 (agree_front e c (expr_calls x) (stmts_calls s ++ stmts_calls t) a),
          stmts_proper s c turns vars p h.1 b.1 (agree_front e c (stmts_calls s) (stmts_calls t) rest) (all_front (AllUses s) (AllUses t) (monitors_of e.program e.text) u),
          stmts_proper t c turns vars p h.2 b.2 (agree_back e c (stmts_calls s) (stmts_calls t) rest) (all_back (AllUses s) (AllUses t) (monitors_of e.program e.text) u),
        )
    stmt_proper (loop x lo hi ss) c turns vars p h b a u =
        (w.turns lo hi h.0, λ i q. stmts_proper ss (inner c x i q) (x ∷ turns) vars (inside_loop c turns vars x i q p) h.1 b (agree_inner c x i q (stmts_calls ss) a) u)
    stmt_proper (exit_when x) c turns vars p h b a u = expr_proper e w n c turns vars p x sort_is.Truth h.1 b a
    stmt_proper (get d r) c turns vars p h b a u = (index_proper e w n c turns vars p r sort_is.Number h.2 b a, ref_proper e w n c turns vars p r sort_is.Number h.2, h.0)
    stmt_proper (put d x) c turns vars p h b a u = (expr_proper e w n c turns vars p x sort_is.Number h.2 b a, h.0)
    stmt_proper (wait x limit number) c turns vars p h b a u = waiting_of e w n c turns vars p x c.owner refl h.0
    stmt_proper (signal x) c turns vars p h b a u = (waiting_of e w n c turns vars p x c.owner refl h).1
    stmt_proper (broadcast x) c turns vars p h b a u = (waiting_of e w n c turns vars p x c.owner refl h).1
    stmt_proper (except k) c turns vars p h b a u = tt
    stmt_proper (assert x) c turns vars p h b a u = expr_proper e w n c turns vars p x sort_is.Truth h b a

    pub stmts_proper : (ss : Stmts) (c : Scope) (turns : List Name) (vars : List Var) → Place e c turns vars → AllFit (here_of e c turns vars) ss → StmtsBelow e.order.level n ss → AgreeAll e c (stmts_calls ss) → UsesIn e (AllUses ss) → ProperAll e c n ss
    stmts_proper no_stmts c turns vars p h b a u = tt
    stmts_proper (stmts s ss) c turns vars p h b a u = (
      stmt_proper s c turns vars p h.0 b.0 (agree_front e c (stmt_calls s) (stmts_calls ss) a) (all_front (Uses s) (AllUses ss) (monitors_of e.program e.text) u),
      stmts_proper ss c turns vars p h.1 b.1 (agree_back e c (stmt_calls s) (stmts_calls ss) a) (all_back (Uses s) (AllUses ss) (monitors_of e.program e.text) u),
    )
