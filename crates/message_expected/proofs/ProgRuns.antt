-- The automaton reads declarations and programs.
use Rattle.std.proofs.Common.{◌≡◌, ℕ, ◌||◌, not, List, [], ◌∷◌, length, Bool, true, false, cond, None, Some, Result, Ok, Err, refl, ap, ◌∙◌}
use Rattle.syntax.specs.declared.token.keyword.TheConstants as k
use Rattle.syntax.specs.declared.token.sign.TheConstants as m
use Rattle.syntax.specs.Words as w
use Rattle.syntax.specs.Words.{Word, Tok}
use Rattle.syntax_tree.specs.Placed.{stmts_of, RoutineKind, procedure, function, Routine, Prog}
use Rattle.syntax_reading.specs.ExprReading.{Fault, ◌>>=◌, same_word, is_at, expect, name, constant, expr}
use Rattle.syntax_reading.specs.StmtReading.{stmts}
use Rattle.syntax_reading.specs.Reading.{scalar_type, vars, params, block, close, routine_kind, result, value, routine_decl, begins_routine, routines, members, entry_decl, entries, monitor_decl, activation, numbers, handler, process_decl, const_decl, way, device_decl, event_decl, decl, begins_decl, decls, prog, if_last, whole}
use Rattle.message_expected.specs.Automaton as a
use Rattle.message_expected.specs.Automaton.{Head, along, is_key, is_optional, is_refused, kind_of_word, program, refused, turn, where_so}
use Rattle.message_expected.specs.declared.symbols.Symbol.{Symbol}
use Rattle.message_expected.specs.declared.symbols.Symbol.TheVariants as s
use Rattle.message_expected.proofs.Runs.{Answer, Does, Reads, along-word, a-name, bind, branch, done, done-last, go, key, key_same, last, many-heads, many-where, mark, maybe-where, must, name_does, of-head, of-result, past-word, run, word_does}
use Rattle.message_expected.proofs.ExprRuns.{constant_reads, expr_reads}
use Rattle.message_expected.proofs.BodyRuns.{stmts_read}
use Rattle.message_expected.proofs.DeclRuns.{activation_reads, members_read, numbers_read, params_read, scalar_reads, vars_read}

routine-refused : (b c : Bool) → is_refused (cond b (along (s.Procedure ∷ [])) (cond c (along (s.Function ∷ [])) refused)) ≡ not (b || c)
routine-refused true c = refl
routine-refused false true = refl
routine-refused false false = refl

declaration-refused : (b1 b2 b3 b4 b5 b6 b7 : Bool) (x1 x2 x3 x4 x5 x6 x7 : List Symbol)
    → is_refused (cond b1 (along x1) (cond b2 (along x2) (cond b3 (along x3) (cond b4 (along x4) (cond b5 (along x5) (cond b6 (along x6) (cond b7 (along x7) refused))))))) ≡ not (b1 || b2 || b3 || b4 || b5 || (b6 || b7))
declaration-refused true b2 b3 b4 b5 b6 b7 x1 x2 x3 x4 x5 x6 x7 = refl
declaration-refused false true b3 b4 b5 b6 b7 x1 x2 x3 x4 x5 x6 x7 = refl
declaration-refused false false true b4 b5 b6 b7 x1 x2 x3 x4 x5 x6 x7 = refl
declaration-refused false false false true b5 b6 b7 x1 x2 x3 x4 x5 x6 x7 = refl
declaration-refused false false false false true b6 b7 x1 x2 x3 x4 x5 x6 x7 = refl
declaration-refused false false false false false true b7 x1 x2 x3 x4 x5 x6 x7 = refl
declaration-refused false false false false false false true x1 x2 x3 x4 x5 x6 x7 = refl
declaration-refused false false false false false false false x1 x2 x3 x4 x5 x6 x7 = refl

way-either : (b1 b2 c1 c2 : Bool) → b1 ≡ c1 → b2 ≡ c2 → where_so (b1 || b2) [] ≡ cond c1 (along []) (where_so c2 [])
way-either b1 b2 true c2 e g = ap (λ b. where_so (b || b2) []) e
way-either b1 b2 false c2 e g = λ i. where_so (e i || g i) []

-- the tree left aside
abbrev pub outcome : {A : Type 0} → Result A Fault → Answer
outcome (Ok x) = Ok tt
outcome (Err f) = Err f

abbrev process-symbols : List Symbol
process-symbols = s.Name ∷ s.Sign m.COLON ∷ s.Activation ∷ s.Variables ∷ s.Routines ∷ s.Keyword k.BEGIN ∷ s.Statements ∷ s.Handler ∷ s.Keyword k.END ∷ s.Name ∷ []

module _ {P : Type 0} (d : ℕ) where
  block_reads : Reads d (block {P = P} d) (s.Keyword k.BEGIN ∷ s.Statements ∷ [])
  unfolding block
  block_reads = bind d (expect w.BEGIN) _ (s.Keyword k.BEGIN ∷ []) (s.Statements ∷ []) (key d k.BEGIN) (λ c. stmts_read d)

  close_reads : Reads d (close {P = P}) (s.Keyword k.END ∷ s.Name ∷ [])
  unfolding close
  close_reads = bind d (expect w.END) _ (s.Keyword k.END ∷ []) (s.Name ∷ []) (key d k.END) (λ c. a-name d)

  -- ---- routines

  result_reads : Reads d (result {P = P} function) (s.Keyword k.RETURNS ∷ s.Scalar ∷ [])
  unfolding result
  result_reads = bind d (expect w.RETURNS) _ (s.Keyword k.RETURNS ∷ []) (s.Scalar ∷ []) (key d k.RETURNS) (λ c. last d scalar_type _ (s.Scalar ∷ []) (scalar_reads d) (λ x. done d _))

  value_reads : Reads d (value {P = P} d function) (s.Keyword k.RETURN ∷ s.Expression ∷ [])
  unfolding value
  value_reads = bind d (expect w.RETURN) _ (s.Keyword k.RETURN ∷ []) (s.Expression ∷ []) (key d k.RETURN) (λ c. last d (expr d) _ (s.Expression ∷ []) (expr_reads d) (λ x. done d _))

  -- a routine of this kind, behind its word
  abbrev rest : RoutineKind × List (Tok P) → Result (Routine P × List (Tok P)) Fault
  rest k =
      name k.1 >>= λ n. params n.1 >>= λ ps. result k.0 ps.1 >>= λ s. vars s.1 >>= λ vs. block d vs.1 >>= λ b. value d k.0 b.1 >>= λ e. close e.1 >>= λ c.
      Ok (
        record {
          kind = k.0;
          name = n.0.0;
          place = n.0.1;
          params = ps.0;
          result = s.0;
          vars = vs.0;
          body = stmts_of b.0;
          value = e.0;
          close = c.0.0;
          close_place = c.0.1;
        },
        c.1,
      )

  procedure_reads : Reads d (λ v. rest (procedure, v)) (s.Procedure ∷ [])
  unfolding turn a.procedure name result value
  procedure_reads =
      must d s.Procedure (λ v. rest (procedure, v)) refl refl
      (λ t ts. name_does d _ (s.Sign m.LEFT_PAREN ∷ s.FirstParameter ∷ s.Variables ∷ s.Keyword k.BEGIN ∷ s.Statements ∷ s.Keyword k.END ∷ s.Name ∷ []) t ts (λ n.
      bind d params _ (s.Sign m.LEFT_PAREN ∷ s.FirstParameter ∷ []) (s.Variables ∷ s.Keyword k.BEGIN ∷ s.Statements ∷ s.Keyword k.END ∷ s.Name ∷ []) (params_read d) (λ ps.
      bind d vars _ (s.Variables ∷ []) (s.Keyword k.BEGIN ∷ s.Statements ∷ s.Keyword k.END ∷ s.Name ∷ []) (vars_read d) (λ vs.
      bind d (block d) _ (s.Keyword k.BEGIN ∷ s.Statements ∷ []) (s.Keyword k.END ∷ s.Name ∷ []) block_reads (λ b. last d close _ (s.Keyword k.END ∷ s.Name ∷ []) close_reads (λ c. done d _))))))

  function_reads : Reads d (λ v. rest (function, v)) (s.Function ∷ [])
  unfolding turn a.function name
  function_reads =
      must d s.Function (λ v. rest (function, v)) refl refl
      (λ t ts. name_does d _ (s.Sign m.LEFT_PAREN ∷ s.FirstParameter ∷ s.Keyword k.RETURNS ∷ s.Scalar ∷ s.Variables ∷ s.Keyword k.BEGIN ∷ s.Statements ∷ s.Keyword k.RETURN ∷ s.Expression ∷ s.Keyword k.END ∷ s.Name ∷ []) t ts (λ n.
      bind d params _ (s.Sign m.LEFT_PAREN ∷ s.FirstParameter ∷ []) (s.Keyword k.RETURNS ∷ s.Scalar ∷ s.Variables ∷ s.Keyword k.BEGIN ∷ s.Statements ∷ s.Keyword k.RETURN ∷ s.Expression ∷ s.Keyword k.END ∷ s.Name ∷ []) (params_read d) (λ ps.
      bind d (result function) _ (s.Keyword k.RETURNS ∷ s.Scalar ∷ []) (s.Variables ∷ s.Keyword k.BEGIN ∷ s.Statements ∷ s.Keyword k.RETURN ∷ s.Expression ∷ s.Keyword k.END ∷ s.Name ∷ []) result_reads (λ x.
      bind d vars _ (s.Variables ∷ []) (s.Keyword k.BEGIN ∷ s.Statements ∷ s.Keyword k.RETURN ∷ s.Expression ∷ s.Keyword k.END ∷ s.Name ∷ []) (vars_read d) (λ vs.
      bind d (block d) _ (s.Keyword k.BEGIN ∷ s.Statements ∷ []) (s.Keyword k.RETURN ∷ s.Expression ∷ s.Keyword k.END ∷ s.Name ∷ []) block_reads (λ b.
      bind d (value d function) _ (s.Keyword k.RETURN ∷ s.Expression ∷ []) (s.Keyword k.END ∷ s.Name ∷ []) value_reads (λ e. last d close _ (s.Keyword k.END ∷ s.Name ∷ []) close_reads (λ c. done d _))))))))

  abbrev kinded : RoutineKind → P × List (Tok P) → Result (RoutineKind × List (Tok P)) Fault
  kinded x c = Ok (x, c.1)

  abbrev behind-kind : RoutineKind → P × List (Tok P) → Result (Routine P × List (Tok P)) Fault
  behind-kind x c = rest (x, c.1)

  regroup : (x : RoutineKind) (r : Result (P × List (Tok P)) Fault) → ((r >>= kinded x) >>= rest) ≡ (r >>= behind-kind x)
  regroup x (Ok c) = refl
  regroup x (Err f) = refl

  routine-by : (t : Tok P) (ts : List (Tok P))
      → routine_decl d (t ∷ ts) ≡ cond (same_word t.word w.PROCEDURE) (expect w.PROCEDURE (t ∷ ts) >>= behind-kind procedure) (expect w.FUNCTION (t ∷ ts) >>= behind-kind function)
  unfolding routine_decl routine_kind
  routine-by t ts = by (same_word t.word w.PROCEDURE)
    where
      by : (b : Bool) → (cond b (expect w.PROCEDURE (t ∷ ts) >>= kinded procedure) (expect w.FUNCTION (t ∷ ts) >>= kinded function) >>= rest)
          ≡ cond b (expect w.PROCEDURE (t ∷ ts) >>= behind-kind procedure) (expect w.FUNCTION (t ∷ ts) >>= behind-kind function)
      by true = regroup procedure (expect w.PROCEDURE (t ∷ ts))
      by false = regroup function (expect w.FUNCTION (t ∷ ts))

  routine_does : (t : Tok P) (ts : List (Tok P)) → Does d (a.routine (kind_of_word t.word)) (routine_decl d) t ts
  unfolding a.routine
  routine_does t ts =
      of-result d _ _ _ (length ts) (routine-by t ts)
      (branch d (λ h stack. go d stack h t ts) _ (same_word t.word w.PROCEDURE) (along (s.Procedure ∷ [])) _ _ _ (length ts) (key_same k.PROCEDURE t.word)
      (λ e. along-word d w.PROCEDURE (behind-kind procedure) (s.Procedure ∷ []) t ts e (λ q. procedure_reads))
      (λ e. word_does d w.FUNCTION (is_key k.FUNCTION (kind_of_word t.word)) (behind-kind function) (s.Function ∷ []) t ts (key_same k.FUNCTION t.word) (λ q. function_reads)))

  routine_reads : Reads d (routine_decl {P = P} d) (s.Routine ∷ [])
  unfolding turn routine_decl routine_kind expect
  routine_reads = must d s.Routine (routine_decl d) refl refl routine_does

  routines_read : Reads d (routines {P = P} d) (s.Routines ∷ [])
  unfolding routines turn a.routine
  routines_read =
      many-heads d s.Routines begins_routine (routine_decl d) (λ t. a.routine (kind_of_word t.word)) refl refl refl (λ t. refl)
      (λ t ts. routine-refused (is_key k.PROCEDURE (kind_of_word t.word)) (is_key k.FUNCTION (kind_of_word t.word)) ∙ (λ i. not (key_same k.PROCEDURE t.word i || key_same k.FUNCTION t.word i))) (λ t ts is. routine_does t ts)

  -- ---- monitors

  entries_read : Reads d (entries {P = P} d) (s.Entries ∷ [])
  unfolding entries entry_decl turn
  entries_read =
      many-where d s.Entries (is_at w.ENTRY) (entry_decl d) (s.Routine ∷ []) (λ t. is_key k.ENTRY (kind_of_word t.word)) refl refl refl (λ t. refl) (λ t ts. key_same k.ENTRY t.word)
      (λ t ts is. of-result d _ _ (routine_decl d ts) (length ts) (past-word w.ENTRY _ t ts is) (routine_reads ts))

  monitor_does : (t : Tok P) (ts : List (Tok P)) → same_word t.word w.MONITOR ≡ true → Does d (along (s.Name ∷ s.Members ∷ s.Entries ∷ s.Keyword k.END ∷ s.Name ∷ [])) (monitor_decl d) t ts
  unfolding monitor_decl
  monitor_does t ts e =
      along-word d w.MONITOR _ (s.Name ∷ s.Members ∷ s.Entries ∷ s.Keyword k.END ∷ s.Name ∷ []) t ts e (λ q.
      bind d name _ (s.Name ∷ []) (s.Members ∷ s.Entries ∷ s.Keyword k.END ∷ s.Name ∷ []) (a-name d) (λ n. bind d members _ (s.Members ∷ []) (s.Entries ∷ s.Keyword k.END ∷ s.Name ∷ []) (members_read d) (λ ms.
      bind d (entries d) _ (s.Entries ∷ []) (s.Keyword k.END ∷ s.Name ∷ []) entries_read (λ es. last d close _ (s.Keyword k.END ∷ s.Name ∷ []) close_reads (λ c. done d _)))))

  -- ---- processes

  handler_reads : Reads d (handler {P = P} d) (s.Handler ∷ [])
  unfolding handler turn
  handler_reads =
      maybe-where d s.Handler (is_at w.HANDLER) (λ ts. expect w.HANDLER ts >>= λ c. numbers c.1 >>= λ ns. stmts d ns.1 >>= λ ss. Ok (Some (record { numbers = ns.0; body = stmts_of ss.0 }), ss.1)) None
      (s.Sign m.LEFT_PAREN ∷ s.Constant ∷ s.MoreNumbers ∷ s.Sign m.RIGHT_PAREN ∷ s.Statements ∷ []) (λ t. is_key k.HANDLER (kind_of_word t.word)) refl refl refl (λ t. refl) (λ t ts. key_same k.HANDLER t.word)
      (λ t ts is. along-word d w.HANDLER _ (s.Sign m.LEFT_PAREN ∷ s.Constant ∷ s.MoreNumbers ∷ s.Sign m.RIGHT_PAREN ∷ s.Statements ∷ []) t ts is (λ q.
      bind d numbers _ (s.Sign m.LEFT_PAREN ∷ s.Constant ∷ s.MoreNumbers ∷ s.Sign m.RIGHT_PAREN ∷ []) (s.Statements ∷ []) (numbers_read d) (λ ns. last d (stmts d) _ (s.Statements ∷ []) (stmts_read d) (λ ss. done d _))))

  process_does : (t : Tok P) (ts : List (Tok P)) → same_word t.word w.PROCESS ≡ true
      → Does d (along process-symbols) (process_decl d) t ts
  unfolding process_decl
  process_does t ts e =
      along-word d w.PROCESS _ process-symbols t ts e (λ q.
      bind d name _ (s.Name ∷ []) (s.Sign m.COLON ∷ s.Activation ∷ s.Variables ∷ s.Routines ∷ s.Keyword k.BEGIN ∷ s.Statements ∷ s.Handler ∷ s.Keyword k.END ∷ s.Name ∷ []) (a-name d) (λ n.
      bind d (expect w.COLON) _ (s.Sign m.COLON ∷ []) (s.Activation ∷ s.Variables ∷ s.Routines ∷ s.Keyword k.BEGIN ∷ s.Statements ∷ s.Handler ∷ s.Keyword k.END ∷ s.Name ∷ []) (mark d m.COLON) (λ c.
      bind d activation _ (s.Activation ∷ []) (s.Variables ∷ s.Routines ∷ s.Keyword k.BEGIN ∷ s.Statements ∷ s.Handler ∷ s.Keyword k.END ∷ s.Name ∷ []) (activation_reads d) (λ x.
      bind d vars _ (s.Variables ∷ []) (s.Routines ∷ s.Keyword k.BEGIN ∷ s.Statements ∷ s.Handler ∷ s.Keyword k.END ∷ s.Name ∷ []) (vars_read d) (λ vs.
      bind d (routines d) _ (s.Routines ∷ []) (s.Keyword k.BEGIN ∷ s.Statements ∷ s.Handler ∷ s.Keyword k.END ∷ s.Name ∷ []) routines_read (λ rs.
      bind d (block d) _ (s.Keyword k.BEGIN ∷ s.Statements ∷ []) (s.Handler ∷ s.Keyword k.END ∷ s.Name ∷ []) block_reads (λ b.
      bind d (handler d) _ (s.Handler ∷ []) (s.Keyword k.END ∷ s.Name ∷ []) handler_reads (λ h. last d close _ (s.Keyword k.END ∷ s.Name ∷ []) close_reads (λ c. done d _)))))))))

  -- ---- declarations

  const_does : (t : Tok P) (ts : List (Tok P)) → same_word t.word w.CONST ≡ true → Does d (along (s.Name ∷ s.Sign m.ASSIGN ∷ s.Constant ∷ [])) const_decl t ts
  unfolding const_decl
  const_does t ts e =
      along-word d w.CONST _ (s.Name ∷ s.Sign m.ASSIGN ∷ s.Constant ∷ []) t ts e (λ q. bind d name _ (s.Name ∷ []) (s.Sign m.ASSIGN ∷ s.Constant ∷ []) (a-name d) (λ n.
      bind d (expect w.ASSIGN) _ (s.Sign m.ASSIGN ∷ []) (s.Constant ∷ []) (mark d m.ASSIGN) (λ c. last d constant _ (s.Constant ∷ []) (constant_reads d) (λ x. done d _))))

  way_reads : Reads d (way {P = P}) (s.Way ∷ [])
  unfolding way turn expect
  way_reads =
      must d s.Way way refl refl
      (λ t ts. of-head d (λ h stack. go d stack h t ts) _ (cond (same_word t.word w.OUT) (along []) (where_so (same_word t.word w.IN) [])) _ (length ts)
      (way-either (is_key k.OUT (kind_of_word t.word)) (is_key k.IN (kind_of_word t.word)) (same_word t.word w.OUT) (same_word t.word w.IN) (key_same k.OUT t.word) (key_same k.IN t.word))
      (branch d (λ h stack. go d stack h t ts) (same_word t.word w.OUT) (same_word t.word w.OUT) (along []) (where_so (same_word t.word w.IN) []) _ _ (length ts) refl
      (λ e. along-word d w.OUT _ [] t ts e (λ q. done d _)) (λ e. word_does d w.IN (same_word t.word w.IN) _ [] t ts refl (λ q. done d _))))

  device_does : (t : Tok P) (ts : List (Tok P)) → same_word t.word w.DEVICE ≡ true → Does d (along (s.Name ∷ s.Sign m.COLON ∷ s.Way ∷ [])) device_decl t ts
  unfolding device_decl
  device_does t ts e =
      along-word d w.DEVICE _ (s.Name ∷ s.Sign m.COLON ∷ s.Way ∷ []) t ts e (λ q. bind d name _ (s.Name ∷ []) (s.Sign m.COLON ∷ s.Way ∷ []) (a-name d) (λ n.
      bind d (expect w.COLON) _ (s.Sign m.COLON ∷ []) (s.Way ∷ []) (mark d m.COLON) (λ c. last d way _ (s.Way ∷ []) way_reads (λ x. done d _))))

  event_does : (t : Tok P) (ts : List (Tok P)) → same_word t.word w.EVENT ≡ true → Does d (along (s.Name ∷ [])) event_decl t ts
  unfolding event_decl
  event_does t ts e = along-word d w.EVENT _ (s.Name ∷ []) t ts e (λ q. last d name _ (s.Name ∷ []) (a-name d) (λ n. done d _))

  decl_does : (t : Tok P) (ts : List (Tok P)) → Does d (a.declaration (kind_of_word t.word)) (decl d) t ts
  unfolding decl a.declaration
  decl_does t ts =
      branch d (λ h stack. go d stack h t ts) _ (same_word t.word w.CONST) _ _ _ _ (length ts) (key_same k.CONST t.word) (λ e. const_does t ts e) (λ e.
      branch d (λ h stack. go d stack h t ts) _ (same_word t.word w.DEVICE) _ _ _ _ (length ts) (key_same k.DEVICE t.word) (λ e. device_does t ts e) (λ e.
      branch d (λ h stack. go d stack h t ts) _ (same_word t.word w.EVENT) _ _ _ _ (length ts) (key_same k.EVENT t.word) (λ e. event_does t ts e) (λ e.
      branch d (λ h stack. go d stack h t ts) _ (same_word t.word w.MONITOR) (along (s.Name ∷ s.Members ∷ s.Entries ∷ s.Keyword k.END ∷ s.Name ∷ [])) _ _ _ (length ts) (key_same k.MONITOR t.word)
      (λ e. done-last d (along (s.Name ∷ s.Members ∷ s.Entries ∷ s.Keyword k.END ∷ s.Name ∷ [])) (monitor_decl d) _ t ts (monitor_does t ts e) (λ m. done d _)) (λ e.
      branch d (λ h stack. go d stack h t ts) _ (same_word t.word w.PROCESS) (along (process-symbols)) _ _ _ (length ts) (key_same k.PROCESS t.word)
      (λ e. done-last d (along (process-symbols)) (process_decl d) _ t ts (process_does t ts e) (λ p. done d _))
      (λ e. done-last d (a.routine (kind_of_word t.word)) (routine_decl d) _ t ts (routine_does t ts) (λ r. done d _))))))

  decls_read : Reads d (decls {P = P} d) (s.Declarations ∷ [])
  unfolding decls turn a.declaration a.routine
  decls_read =
      many-heads d s.Declarations begins_decl (decl d) (λ t. a.declaration (kind_of_word t.word)) refl refl refl (λ t. refl)
      (λ t ts.
      declaration-refused (is_key k.CONST (kind_of_word t.word)) (is_key k.DEVICE (kind_of_word t.word)) (is_key k.EVENT (kind_of_word t.word)) (is_key k.MONITOR (kind_of_word t.word))
      (is_key k.PROCESS (kind_of_word t.word)) (is_key k.PROCEDURE (kind_of_word t.word)) (is_key k.FUNCTION (kind_of_word t.word)) _ _ _ _ _ _ _
      ∙ (λ i. not (key_same k.CONST t.word i || key_same k.DEVICE t.word i || key_same k.EVENT t.word i || key_same k.MONITOR t.word i || key_same k.PROCESS t.word i
      || (key_same k.PROCEDURE t.word i || key_same k.FUNCTION t.word i)))) (λ t ts is. decl_does t ts)

  prog_reads : Reads d (prog {P = P} d) program
  unfolding prog
  prog_reads =
      bind d (expect w.PROGRAM) _ (s.Keyword k.PROGRAM ∷ []) (s.Name ∷ s.Declarations ∷ s.Keyword k.END ∷ s.Name ∷ []) (key d k.PROGRAM) (λ c.
      bind d name _ (s.Name ∷ []) (s.Declarations ∷ s.Keyword k.END ∷ s.Name ∷ []) (a-name d) (λ n. bind d (decls d) _ (s.Declarations ∷ []) (s.Keyword k.END ∷ s.Name ∷ []) decls_read (λ ds.
      last d close _ (s.Keyword k.END ∷ s.Name ∷ []) close_reads (λ c. done d _))))

  nothing-left : (g : Prog P) (us : List (Tok P)) → run d [] us ≡ outcome (if_last g us)
  unfolding run a.find
  nothing-left g [] = refl
  nothing-left g (t ∷ us) = refl

  ends-so : (r : Result (Prog P × List (Tok P)) Fault) → (r >>= λ x. run d [] x.1) ≡ outcome (r >>= λ g. if_last g.0 g.1)
  ends-so (Ok x) = nothing-left x.0 x.1
  ends-so (Err f) = refl

  -- what comes of tokens is what is read of them
  pub whole_runs : (ts : List (Tok P)) → run d program ts ≡ outcome (whole d ts)
  unfolding whole
  whole_runs ts = (prog_reads ts).runs [] ∙ ends-so (prog d ts)
