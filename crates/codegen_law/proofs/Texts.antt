-- No number of a text that is well formed where it stands is cut off.
use Rattle.std.specs.Prelude.{All}
use Rattle.std.proofs.Common.{◌≡◌, ◌+◌, ◌≤◌, ℕ, suc, Bool, T, List, [], ◌∷◌, Option, Some, None, pos, refl, sym, subst, arith}
use Rattle.syntax_tree.specs.Plain.{Name, Param, Var, Answers, Expr, literal, truth, variable, element, call, minus, negation, paren, row, Exprs, no_exprs, exprs, Operands, no_operands, operand, Ref, whole, part, Stmt, assign, assign_entry, assign_empty, perform, perform_entry, when, when_else, loop, exit_when, get, put, wait, signal, broadcast, except, assert, Stmts, no_stmts, stmts, Process, Program}
use Rattle.source_semantics.specs.Names.{constant_value, device_number}
use Rattle.source_semantics.specs.Run.{Home, routine_named, entry_named}
use Rattle.static_declarations.specs.declared.sort.Sort.{Sort}
use Rattle.static_declarations.specs.declared.sort.Sort.TheVariants as sort_is
use Rattle.code_spec.specs.Layout.{Owner, Scope, spot_of, loops, loops_in}
use Rattle.code_spec.specs.Numbering.{Text, routine_in, entry_in, number_of}
use Rattle.code_spec.specs.Code.{constant_named}
use Rattle.code_spec.specs.Emits.{condition_of, monitor_of, turns_of}
use Rattle.static_semantics.specs.Here.{Here, scalar_sort}
use Rattle.static_semantics.specs.Typed.{params_of, IsOf, IsRow, AreArguments, IsTarget}
use Rattle.static_semantics.specs.Statements.{AreTurns, is_looped, Fits, AllFit}
use Rattle.static_semantics.specs.WellFormed.{ParamFits, AnswersFit}
use Rattle.codegen_spec.specs.Told.{value_told, within}
use Rattle.codegen_law.specs.MadeRightFits.{Fit, SpotFits, CallFits, ExprFits, RowFits, ArgsFit, RefFits, StmtFits, StmtsFit}
use Rattle.codegen_law.specs.MadeWholeFits.{AnswersFit as AnswersAreOperands}
use Rattle.codegen_law.proofs.Words.{fit_low, word_fits, count_fits, few_between}
use Rattle.codegen_law.proofs.Places.{scalar_fits, first_of_all, rest_of_all, within_fits}

-- what holds of all texts of a program
pub record Facts (g : Program) : Type 0 where
  pub constants : (x : Name) → Fit (value_told (constant_named g x))
  pub devices : (d : Name) → Fit (pos (device_number g d))
  pub conditions : (o : Owner) (x : Name) → Fit (pos (condition_of g o x))
  pub numbers : (t : Text) → Fit (pos (number_of g t))
  pub routines : (o : Owner) (f : Name) (t : Text) → routine_in g o f ≡ Some t → All (ParamFits g) t.routine.params
  pub entries : (m f : Name) (t : Text) → entry_in g m f ≡ Some t → All (ParamFits g) t.routine.params

-- where a text stands: what a name of a variable means is an operand
pub record TextStands (g : Program) (c : Scope) : Type 0 where
  pub spots : (x : Name) → SpotFits (spot_of g c x)
  pub monitor : Fit (pos (monitor_of c.owner))

call_fits : (g : Program) → Facts g → (x : Option Text) (F : List Param → Type 0) → ((t : Text) → x ≡ Some t → F t.routine.params) → CallFits g x F
call_fits g facts None F h = tt
call_fits g facts (Some t) F h = (facts.numbers t, h t refl)

turns_fit : (g : Program) (low high : _) → AreTurns g low high → Fit (pos (turns_of (constant_value g low) (constant_value g high)))
turns_fit g low high h =
    let few : turns_of (constant_value g low) (constant_value g high) ≤ 1000000 = few_between (constant_value g low) (constant_value g high) 1000000 h.few in
    fit_low (turns_of (constant_value g low) (constant_value g high)) (omega arith)

module _ (g : Program) (facts : Facts g) (p : Process) (home : Home) (is_function : Bool) (own : List Var) where
  abbrev pub here : List Name → Here
  here turns = record { program = g; process = p; home = home; is_function = is_function; turns = turns; own = own }

  module _ (c : Scope) (spots : (x : Name) → SpotFits (spot_of g c x)) (turns : List Name) where
    mutual
      expr_fits : (e : Expr) (s : Sort) → IsOf (here turns) s e → ExprFits g c e
      expr_fits (literal n) s h = fit_low n h.1
      expr_fits (truth b) s h = tt
      expr_fits (variable x) s h = (spots x, facts.constants x)
      expr_fits (element x e) s h = (spots x, expr_fits e sort_is.Number h.1)
      expr_fits (call f es) s h =
          call_fits g facts (routine_in g c.owner f) (λ ps. ArgsFit g c es ps) (λ t is. args_fit es t.routine.params (params_of (routine_named g p f)) h.1 (facts.routines c.owner f t is))
      expr_fits (minus e) s h = expr_fits e sort_is.Number h.1
      expr_fits (negation e) s h = expr_fits e sort_is.Truth h.1
      expr_fits (paren e) s h = expr_fits e s h
      expr_fits (row e r) s h = (expr_fits e h.0 h.1, row_fits r h.0 s h.2)

      row_fits : (r : Operands) (t s : Sort) → IsRow (here turns) t s r → RowFits g c r
      row_fits no_operands t s h = tt
      row_fits (operand op e r) t s h = (expr_fits e h.0 h.1, row_fits r _ s h.3)

      args_fit : (es : Exprs) (ps : List Param) (qs : Option (List Param)) → AreArguments (here turns) qs es → All (ParamFits g) ps → ArgsFit g c es ps
      args_fit no_exprs ps qs h k = tt
      args_fit (exprs e es) [] qs h k = tt
      args_fit (exprs e es) (v ∷ vs) None h k = absurd h
      args_fit (exprs e es) (v ∷ vs) (Some []) h k = absurd h
      args_fit (exprs e es) (v ∷ vs) (Some (q ∷ qs)) h k =
          (expr_fits e (scalar_sort q.kind) h.0, scalar_fits g v.kind (first_of_all (ParamFits g) v vs k), args_fit es vs (Some qs) h.1 (rest_of_all (ParamFits g) v vs k))

    ref_fits : (r : Ref) (s : Sort) → IsTarget (here turns) s r → RefFits g c r
    ref_fits (whole x) s h = spots x
    ref_fits (part x e) s h = (spots x, expr_fits e sort_is.Number h.2)

    routine_call : (f : Name) (es : Exprs) (qs : Option (List Param)) → AreArguments (here turns) qs es → CallFits g (routine_in g c.owner f) (λ ps. ArgsFit g c es ps)
    routine_call f es qs h = call_fits g facts (routine_in g c.owner f) (λ ps. ArgsFit g c es ps) (λ t is. args_fit es t.routine.params qs h (facts.routines c.owner f t is))

    entry_call : (m f : Name) (es : Exprs) (qs : Option (List Param)) → AreArguments (here turns) qs es → CallFits g (entry_in g m f) (λ ps. ArgsFit g c es ps)
    entry_call m f es qs h = call_fits g facts (entry_in g m f) (λ ps. ArgsFit g c es ps) (λ t is. args_fit es t.routine.params qs h (facts.entries m f t is))

    pub answers_fit : (a : Option Answers) → AnswersFit g (here turns) a → AnswersAreOperands g c a
    answers_fit None h = tt
    answers_fit (Some a) h = (expr_fits a.value (scalar_sort a.kind) h.1, scalar_fits g a.kind h.0)

  inside : (c : Scope) (x : Name) (w : ℕ) → w ≤ 2147483647 → TextStands g c → TextStands g (within c x w)
  inside c x w low ok = record { spots = within_fits g c x w low ok.spots; monitor = ok.monitor }

  mutual
    stmt_fits : (s : Stmt) (c : Scope) (turns : List Name) (w : ℕ) → TextStands g c → w + loops_in s ≤ 2147483647 → Fits (here turns) s → StmtFits g c (is_looped turns) w s
    stmt_fits (assign r e) c turns w ok low h = (ref_fits c ok.spots turns r h.0 h.1, expr_fits c ok.spots turns e h.0 h.2)
    stmt_fits (assign_entry r m f es) c turns w ok low h = (ref_fits c ok.spots turns r h.1.0 h.1.1, entry_call c ok.spots turns m f es (params_of (entry_named g m f)) h.2)
    stmt_fits (assign_empty r x) c turns w ok low h = (ref_fits c ok.spots turns r sort_is.Truth h.0, facts.conditions c.owner x)
    stmt_fits (perform f es) c turns w ok low h = routine_call c ok.spots turns f es (params_of (routine_named g p f)) h.2
    stmt_fits (perform_entry m f es) c turns w ok low h = entry_call c ok.spots turns m f es (params_of (entry_named g m f)) h.2
    stmt_fits (when e a) c turns w ok low h = (expr_fits c ok.spots turns e sort_is.Truth h.0, stmts_fit a c turns w ok low h.1)
    stmt_fits (when_else e a b) c turns w ok low h =
        let first : w + loops a ≤ 2147483647 = omega arith in
        let second : w + loops a + loops b ≤ 2147483647 = omega arith in
        (expr_fits c ok.spots turns e sort_is.Truth h.0, stmts_fit a c turns w ok first h.1, stmts_fit b c turns (w + loops a) ok second h.2)
    stmt_fits (loop x low high ss) c turns w ok few h =
        let here_low : w ≤ 2147483647 = omega arith in
        let body_low : suc w + loops ss ≤ 2147483647 = omega arith in (
          word_fits (constant_value g low) h.0.low_constant.word,
          word_fits (constant_value g high) h.0.high_constant.word,
          turns_fit g low high h.0,
          fit_low w here_low,
          stmts_fit ss (within c x w) (x ∷ turns) (suc w) (inside c x w here_low ok) body_low h.1,
        )
    stmt_fits (exit_when e) c turns w ok low h = (expr_fits c ok.spots turns e sort_is.Truth h.1, subst (λ b. T b) (sym h.0) tt)
    stmt_fits (get d r) c turns w ok low h = (ref_fits c ok.spots turns r sort_is.Number h.2, facts.devices d)
    stmt_fits (put d e) c turns w ok low h = (expr_fits c ok.spots turns e sort_is.Number h.2, facts.devices d)
    stmt_fits (wait x limit number) c turns w ok low h =
        (facts.conditions c.owner x, count_fits (constant_value g limit) h.1.constant.word, count_fits (constant_value g number) h.2.constant.word, ok.monitor)
    stmt_fits (signal x) c turns w ok low h = facts.conditions c.owner x
    stmt_fits (broadcast x) c turns w ok low h = facts.conditions c.owner x
    stmt_fits (except n) c turns w ok low h = count_fits (constant_value g n) h.constant.word
    stmt_fits (assert e) c turns w ok low h = expr_fits c ok.spots turns e sort_is.Truth h

    pub stmts_fit : (ss : Stmts) (c : Scope) (turns : List Name) (w : ℕ) → TextStands g c → w + loops ss ≤ 2147483647 → AllFit (here turns) ss → StmtsFit g c (is_looped turns) w ss
    stmts_fit no_stmts c turns w ok low h = tt
    stmts_fit (stmts s ss) c turns w ok low h =
        let first : w + loops_in s ≤ 2147483647 = omega arith in
        let rest : w + loops_in s + loops ss ≤ 2147483647 = omega arith in
        (stmt_fits s c turns w ok first h.0, stmts_fit ss c turns (w + loops_in s) ok rest h.1)
