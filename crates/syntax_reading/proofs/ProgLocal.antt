-- What is read of declarations and programs up to a token does not depend on what stands behind it, nor on levels of nesting that are not used.
use Rattle.std.proofs.Common.{◌≡◌, ℕ, zero, suc, ◌≤◌, ◌<◌, inl, inr, List, [], ◌∷◌, ◌++◌, length, Bool, true, false, Result, Ok, Err, refl, ap, sym, ◌∙◌, subst, arith}
use Rattle.syntax_tree.specs.Plain.{Name}
use Rattle.syntax_tree.specs.Placed.{Var, RoutineKind, procedure, function, Member, variable_member, condition_member, Prog}
use Rattle.syntax.specs.Words as w
use Rattle.syntax.specs.Words.{Word, Tok}
use Rattle.syntax.specs.Grammar.{MOST_LEVELS, IsProgWithin}
use Rattle.syntax_reading.specs.ExprReading.{Fault, syntax, nesting, ◌>>=◌, Parse, is_at, expect, name, many, constant, expr, in_parens, listed}
use Rattle.syntax_reading.specs.StmtReading.{stmts}
use Rattle.syntax_reading.specs.Reading.{range, scalar_type, kind, var, vars, param, params, block, close, routine_kind, result, value, routine_decl, begins_routine, routines, begins_member, member, members, entry_decl, entries, monitor_decl, deadline, first, activation, numbers, handler, process_decl, const_decl, way, device_decl, event_decl, decl, begins_decl, decls, prog, if_last, whole}
use Rattle.syntax_reading.proofs.Sound.{routine_sound, entry_sound, decl_sound}
use Rattle.syntax_reading.proofs.Again.{routine-shorter, entry-shorter, decl-shorter, whole_again}
use Rattle.syntax_reading.proofs.Local.{Within, Stays, Moves, Out, Good, good-ok, bind, either, good-expect, good-name, good-many, good-listed, good-parens, word-moves, bind-moves, ends-suc, either-moves}
use Rattle.syntax_reading.proofs.ExprLocal.{good-constant, good-expr}
use Rattle.syntax_reading.proofs.StmtLocal.{good-stmts}

module _ {P : Type 0} (t : Tok P) (a b : List (Tok P)) where
  word : (word : Word) → Good t a b (expect word) (expect word)
  word = good-expect t a b

  -- ---- types and variables

  good-range : Good t a b (range {P = P}) range
  unfolding range
  good-range =
      bind t a b constant constant _ _ (good-constant t a b) (λ low. bind t a b (expect w.RANGE) (expect w.RANGE) _ _ (word w.RANGE) (λ c.
      bind t a b constant constant _ _ (good-constant t a b) (λ high. good-ok t a b _)))

  good-scalar : Good t a b (scalar_type {P = P}) scalar_type
  unfolding scalar_type
  good-scalar =
      either t a b (is_at w.INT) _ _ _ _ (λ u xs ys. refl) (bind t a b (expect w.INT) (expect w.INT) _ _ (word w.INT) (λ c. good-ok t a b _))
      (either t a b (is_at w.BOOLEAN) _ _ _ _ (λ u xs ys. refl) (bind t a b (expect w.BOOLEAN) (expect w.BOOLEAN) _ _ (word w.BOOLEAN) (λ c. good-ok t a b _))
      (bind t a b range range _ _ good-range (λ r. good-ok t a b _)))

  good-kind : Good t a b (kind {P = P}) kind
  unfolding kind
  good-kind =
      either t a b (is_at w.ARRAY) _ _ _ _ (λ u xs ys. refl)
      (bind t a b (expect w.ARRAY) (expect w.ARRAY) _ _ (word w.ARRAY) (λ c. bind t a b range range _ _ good-range (λ r. bind t a b (expect w.OF) (expect w.OF) _ _ (word w.OF) (λ c.
      bind t a b scalar_type scalar_type _ _ good-scalar (λ s. good-ok t a b _)))))
      (bind t a b scalar_type scalar_type _ _ good-scalar (λ s. good-ok t a b _))

  -- behind the word that begins a variable
  var-rest : Good t a b {A = Var P} (λ v. name v >>= λ n. expect w.COLON n.1 >>= λ c. kind c.1 >>= λ k. Ok (record { name = n.0.0; place = n.0.1; kind = k.0 }, k.1))
      (λ v. name v >>= λ n. expect w.COLON n.1 >>= λ c. kind c.1 >>= λ k. Ok (record { name = n.0.0; place = n.0.1; kind = k.0 }, k.1))
  var-rest =
      bind t a b name name _ _ (good-name t a b) (λ n. bind t a b (expect w.COLON) (expect w.COLON) _ _ (word w.COLON) (λ c. bind t a b kind kind _ _ good-kind (λ k. good-ok t a b _)))

  good-var : Good t a b (var {P = P}) var
  unfolding var
  good-var = bind t a b (expect w.VAR) (expect w.VAR) _ _ (word w.VAR) (λ c. var-rest)

  var-moves : Moves (var {P = P})
  unfolding var
  var-moves = word-moves t a b w.VAR _ (λ c. var-rest.stays)

  good-vars : Good t a b (vars {P = P}) vars
  unfolding vars
  good-vars = good-many t a b (is_at w.VAR) (λ u xs ys. refl) var var var-moves good-var

  good-param : Good t a b (param {P = P}) param
  unfolding param
  good-param =
      bind t a b name name _ _ (good-name t a b) (λ n. bind t a b (expect w.COLON) (expect w.COLON) _ _ (word w.COLON) (λ c. bind t a b scalar_type scalar_type _ _ good-scalar (λ s. good-ok t a b _)))

  good-params : Good t a b (params {P = P}) params
  unfolding params
  good-params = good-parens t a b param param good-param

  good-close : Good t a b (close {P = P}) close
  unfolding close
  good-close = bind t a b (expect w.END) (expect w.END) _ _ (word w.END) (λ c. good-name t a b)

  good-routine-kind : Good t a b (routine_kind {P = P}) routine_kind
  unfolding routine_kind
  good-routine-kind =
      either t a b (is_at w.PROCEDURE) _ _ _ _ (λ u xs ys. refl) (bind t a b (expect w.PROCEDURE) (expect w.PROCEDURE) _ _ (word w.PROCEDURE) (λ c. good-ok t a b _))
      (bind t a b (expect w.FUNCTION) (expect w.FUNCTION) _ _ (word w.FUNCTION) (λ c. good-ok t a b _))

  good-result : (k : RoutineKind) → Good t a b (result {P = P} k) (result k)
  unfolding result
  good-result procedure = good-ok t a b _
  good-result function = bind t a b (expect w.RETURNS) (expect w.RETURNS) _ _ (word w.RETURNS) (λ c. bind t a b scalar_type scalar_type _ _ good-scalar (λ s. good-ok t a b _))

  -- behind the word that begins a condition
  condition-rest : Good t a b {A = Member P} (λ v. name v >>= λ n. Ok (condition_member n.0.0 n.0.1, n.1)) (λ v. name v >>= λ n. Ok (condition_member n.0.0 n.0.1, n.1))
  condition-rest = bind t a b name name _ _ (good-name t a b) (λ n. good-ok t a b _)

  good-member : Good t a b (member {P = P}) member
  unfolding member
  good-member = either t a b (is_at w.VAR) _ _ _ _ (λ u xs ys. refl) (bind t a b var var _ _ good-var (λ v. good-ok t a b _))
      (bind t a b (expect w.CONDITION) (expect w.CONDITION) _ _ (word w.CONDITION) (λ c. condition-rest))

  member-moves : Moves (member {P = P})
  unfolding member
  member-moves =
      either-moves t a b (is_at w.VAR) _ _
      (bind-moves t a b var _ var-moves (λ v. (good-ok t a b (variable_member v)).stays))
      (word-moves t a b w.CONDITION _ (λ c. condition-rest.stays))

  good-members : Good t a b (members {P = P}) members
  unfolding members
  good-members = good-many t a b begins_member (λ u xs ys. refl) member member member-moves good-member

  -- ---- processes

  good-deadline : Good t a b (deadline {P = P}) deadline
  unfolding deadline
  good-deadline =
      either t a b (is_at w.DEADLINE) _ _ _ _ (λ u xs ys. refl)
      (bind t a b (expect w.DEADLINE) (expect w.DEADLINE) _ _ (word w.DEADLINE) (λ c. bind t a b constant constant _ _ (good-constant t a b) (λ d. good-ok t a b _))) (good-ok t a b _)

  good-first : Good t a b (first {P = P}) first
  unfolding first
  good-first =
      either t a b (is_at w.FIRST) _ _ _ _ (λ u xs ys. refl)
      (bind t a b (expect w.FIRST) (expect w.FIRST) _ _ (word w.FIRST) (λ c. bind t a b (expect w.ACTIVATION) (expect w.ACTIVATION) _ _ (word w.ACTIVATION) (λ c.
      bind t a b (expect w.AT_TIME) (expect w.AT_TIME) _ _ (word w.AT_TIME) (λ c. bind t a b constant constant _ _ (good-constant t a b) (λ f. good-ok t a b _))))) (good-ok t a b _)

  good-activation : Good t a b (activation {P = P}) activation
  unfolding activation
  good-activation =
      either t a b (is_at w.PERIODIC) _ _ _ _ (λ u xs ys. refl)
      (bind t a b (expect w.PERIODIC) (expect w.PERIODIC) _ _ (word w.PERIODIC) (λ c. bind t a b (expect w.FRAME) (expect w.FRAME) _ _ (word w.FRAME) (λ c.
      bind t a b constant constant _ _ (good-constant t a b) (λ frame. bind t a b deadline deadline _ _ good-deadline (λ d. bind t a b first first _ _ good-first (λ f. good-ok t a b _))))))
      (bind t a b (expect w.AT_EVENT) (expect w.AT_EVENT) _ _ (word w.AT_EVENT) (λ c. bind t a b name name _ _ (good-name t a b) (λ n.
      bind t a b (expect w.FRAME) (expect w.FRAME) _ _ (word w.FRAME) (λ c. bind t a b constant constant _ _ (good-constant t a b) (λ frame.
      bind t a b deadline deadline _ _ good-deadline (λ d. good-ok t a b _))))))

  good-numbers : Good t a b (numbers {P = P}) numbers
  unfolding numbers
  good-numbers =
      bind t a b (expect w.LEFT_PAREN) (expect w.LEFT_PAREN) _ _ (word w.LEFT_PAREN) (λ c. bind t a b (listed constant) (listed constant) _ _ (good-listed t a b constant constant (good-constant t a b)) (λ ns.
      bind t a b (expect w.RIGHT_PAREN) (expect w.RIGHT_PAREN) _ _ (word w.RIGHT_PAREN) (λ c. good-ok t a b _)))

  -- ---- simple declarations

  good-const : Good t a b (const_decl {P = P}) const_decl
  unfolding const_decl
  good-const =
      bind t a b (expect w.CONST) (expect w.CONST) _ _ (word w.CONST) (λ c. bind t a b name name _ _ (good-name t a b) (λ n.
      bind t a b (expect w.ASSIGN) (expect w.ASSIGN) _ _ (word w.ASSIGN) (λ c. bind t a b constant constant _ _ (good-constant t a b) (λ v. good-ok t a b _))))

  good-way : Good t a b (way {P = P}) way
  unfolding way
  good-way =
      either t a b (is_at w.OUT) _ _ _ _ (λ u xs ys. refl) (bind t a b (expect w.OUT) (expect w.OUT) _ _ (word w.OUT) (λ c. good-ok t a b _))
      (bind t a b (expect w.IN) (expect w.IN) _ _ (word w.IN) (λ c. good-ok t a b _))

  good-device : Good t a b (device_decl {P = P}) device_decl
  unfolding device_decl
  good-device =
      bind t a b (expect w.DEVICE) (expect w.DEVICE) _ _ (word w.DEVICE) (λ c. bind t a b name name _ _ (good-name t a b) (λ n.
      bind t a b (expect w.COLON) (expect w.COLON) _ _ (word w.COLON) (λ c. bind t a b way way _ _ good-way (λ v. good-ok t a b _))))

  good-event : Good t a b (event_decl {P = P}) event_decl
  unfolding event_decl
  good-event = bind t a b (expect w.EVENT) (expect w.EVENT) _ _ (word w.EVENT) (λ c. bind t a b name name _ _ (good-name t a b) (λ n. good-ok t a b _))

  -- ---- with the most levels of nesting, and with as many or more

  module _ (e : ℕ) (less : MOST_LEVELS ≤ e) where
    good-block : Good t a b (block {P = P} MOST_LEVELS) (block e)
    unfolding block
    good-block = bind t a b (expect w.BEGIN) (expect w.BEGIN) _ _ (word w.BEGIN) (λ c. good-stmts t a b MOST_LEVELS e less)

    good-value : (k : RoutineKind) → Good t a b (value {P = P} MOST_LEVELS k) (value e k)
    unfolding value
    good-value procedure = good-ok t a b _
    good-value function =
        bind t a b (expect w.RETURN) (expect w.RETURN) _ _ (word w.RETURN) (λ c. bind t a b (expr MOST_LEVELS) (expr e) _ _ (good-expr t a b MOST_LEVELS e less) (λ x. good-ok t a b _))

    good-routine : Good t a b (routine_decl {P = P} MOST_LEVELS) (routine_decl e)
    unfolding routine_decl
    good-routine =
        bind t a b routine_kind routine_kind _ _ good-routine-kind (λ k. bind t a b name name _ _ (good-name t a b) (λ n. bind t a b params params _ _ good-params (λ ps.
        bind t a b (result k) (result k) _ _ (good-result k) (λ s. bind t a b vars vars _ _ good-vars (λ vs. bind t a b (block MOST_LEVELS) (block e) _ _ good-block (λ ss.
        bind t a b (value MOST_LEVELS k) (value e k) _ _ (good-value k) (λ x. bind t a b close close _ _ good-close (λ c. good-ok t a b _))))))))

    routine-moves : Moves (routine_decl {P = P} MOST_LEVELS)
    routine-moves ts us x e = routine-shorter MOST_LEVELS x ts us (routine_sound ts us x e)

    good-routines : Good t a b (routines {P = P} MOST_LEVELS) (routines e)
    unfolding routines
    good-routines = good-many t a b begins_routine (λ u xs ys. refl) (routine_decl MOST_LEVELS) (routine_decl e) routine-moves good-routine

    good-entry : Good t a b (entry_decl {P = P} MOST_LEVELS) (entry_decl e)
    unfolding entry_decl
    good-entry = bind t a b (expect w.ENTRY) (expect w.ENTRY) _ _ (word w.ENTRY) (λ c. good-routine)

    entry-moves : Moves (entry_decl {P = P} MOST_LEVELS)
    entry-moves ts us x e = entry-shorter MOST_LEVELS x ts us (entry_sound ts us x e)

    good-entries : Good t a b (entries {P = P} MOST_LEVELS) (entries e)
    unfolding entries
    good-entries = good-many t a b (is_at w.ENTRY) (λ u xs ys. refl) (entry_decl MOST_LEVELS) (entry_decl e) entry-moves good-entry

    good-monitor : Good t a b (monitor_decl {P = P} MOST_LEVELS) (monitor_decl e)
    unfolding monitor_decl
    good-monitor =
        bind t a b (expect w.MONITOR) (expect w.MONITOR) _ _ (word w.MONITOR) (λ c. bind t a b name name _ _ (good-name t a b) (λ n. bind t a b members members _ _ good-members (λ ms.
        bind t a b (entries MOST_LEVELS) (entries e) _ _ good-entries (λ es. bind t a b close close _ _ good-close (λ c. good-ok t a b _)))))

    good-handler : Good t a b (handler {P = P} MOST_LEVELS) (handler e)
    unfolding handler
    good-handler =
        either t a b (is_at w.HANDLER) _ _ _ _ (λ u xs ys. refl)
        (bind t a b (expect w.HANDLER) (expect w.HANDLER) _ _ (word w.HANDLER) (λ c. bind t a b numbers numbers _ _ good-numbers (λ ns.
        bind t a b (stmts MOST_LEVELS) (stmts e) _ _ (good-stmts t a b MOST_LEVELS e less) (λ ss. good-ok t a b _)))) (good-ok t a b _)

    good-process : Good t a b (process_decl {P = P} MOST_LEVELS) (process_decl e)
    unfolding process_decl
    good-process =
        bind t a b (expect w.PROCESS) (expect w.PROCESS) _ _ (word w.PROCESS) (λ c. bind t a b name name _ _ (good-name t a b) (λ n.
        bind t a b (expect w.COLON) (expect w.COLON) _ _ (word w.COLON) (λ c. bind t a b activation activation _ _ good-activation (λ x. bind t a b vars vars _ _ good-vars (λ vs.
        bind t a b (routines MOST_LEVELS) (routines e) _ _ good-routines (λ rs. bind t a b (block MOST_LEVELS) (block e) _ _ good-block (λ ss.
        bind t a b (handler MOST_LEVELS) (handler e) _ _ good-handler (λ h. bind t a b close close _ _ good-close (λ c. good-ok t a b _)))))))))

    good-decl : Good t a b (decl {P = P} MOST_LEVELS) (decl e)
    unfolding decl
    good-decl =
        either t a b (is_at w.CONST) _ _ _ _ (λ u xs ys. refl) good-const (either t a b (is_at w.DEVICE) _ _ _ _ (λ u xs ys. refl) good-device
        (either t a b (is_at w.EVENT) _ _ _ _ (λ u xs ys. refl) good-event
        (either t a b (is_at w.MONITOR) _ _ _ _ (λ u xs ys. refl) (bind t a b (monitor_decl MOST_LEVELS) (monitor_decl e) _ _ good-monitor (λ m. good-ok t a b _))
        (either t a b (is_at w.PROCESS) _ _ _ _ (λ u xs ys. refl) (bind t a b (process_decl MOST_LEVELS) (process_decl e) _ _ good-process (λ p. good-ok t a b _))
        (bind t a b (routine_decl MOST_LEVELS) (routine_decl e) _ _ good-routine (λ r. good-ok t a b _))))))

    decl-moves : Moves (decl {P = P} MOST_LEVELS)
    decl-moves ts us x e = decl-shorter MOST_LEVELS x ts us (decl_sound ts us x e)

    good-decls : Good t a b (decls {P = P} MOST_LEVELS) (decls e)
    unfolding decls
    good-decls = good-many t a b begins_decl (λ u xs ys. refl) (decl MOST_LEVELS) (decl e) decl-moves good-decl

    good-prog : Good t a b (prog {P = P} MOST_LEVELS) (prog e)
    unfolding prog
    good-prog =
        bind t a b (expect w.PROGRAM) (expect w.PROGRAM) _ _ (word w.PROGRAM) (λ c. bind t a b name name _ _ (good-name t a b) (λ n. bind t a b (decls MOST_LEVELS) (decls e) _ _ good-decls (λ ds.
        bind t a b close close _ _ good-close (λ c. good-ok t a b _))))

  -- where reading stops at the token, no list that goes on from it is read
  pub stops : (e : ℕ) → MOST_LEVELS ≤ e → (front : List (Tok P)) (g : Prog P) → whole MOST_LEVELS (front ++ t ∷ a) ≡ Err (syntax (length (t ∷ a))) → whole e (front ++ t ∷ b) ≡ Ok g → ⊥
  unfolding whole
  stops e less front g bad good = by (prog MOST_LEVELS (front ++ t ∷ a)) (prog e (front ++ t ∷ b)) ((good-prog e less).local front) bad good
    where
      last : (f : List (Tok P)) (x : Prog P) → if_last x (f ++ t ∷ b) ≡ Ok g → ⊥
      last [] x e = cc
      last (u ∷ f) x e = cc

      past : (x : Prog P) (v : List (Tok P)) → length v ≤ length a → if_last x v ≡ Err (syntax (length (t ∷ a))) → ⊥
      past x [] short e = cc
      past x (u ∷ v) short e = let same : length (u ∷ v) ≡ length (t ∷ a) = cc in omega (arith, short, same)

      by : (r s : Result (Prog P × List (Tok P)) Fault) → Out t a b r s → (r >>= λ g. if_last g.0 g.1) ≡ Err (syntax (length (t ∷ a))) → (s >>= λ g. if_last g.0 g.1) ≡ Ok g → ⊥
      by r s (inl (x, f, first, second)) bad good = last f x (sym (ap (λ s. s >>= λ g. if_last g.0 g.1) second) ∙ good)
      by r s (inr (inl (f, second))) bad good = let both : ◌≡◌ {A = Result (Prog P) Fault} (Err f) (Ok g) = sym (ap (λ s. s >>= λ g. if_last g.0 g.1) second) ∙ good in cc
      by (Ok x) s (inr (inr short)) bad good = past x.0 x.1 short bad
      by (Err (syntax n)) s (inr (inr short)) bad good = let same : n ≡ length (t ∷ a) = cc in omega (arith, short, same)
      by (Err (nesting n)) s (inr (inr short)) bad good = cc

  -- so no program begins with the tokens up to it, whatever the levels, of which there are as many or more
  pub no_beginning : (e : ℕ) → MOST_LEVELS ≤ e → (front : List (Tok P)) (g : Prog P) → whole MOST_LEVELS (front ++ t ∷ a) ≡ Err (syntax (length (t ∷ a))) → IsProgWithin e g (front ++ t ∷ b) [] → ⊥
  no_beginning e less front g bad took = stops e less front g bad (whole_again e (front ++ t ∷ b) g took)
