-- The automaton reads types, variables, parameters and what activates a process.
use Rattle.std.proofs.Common.{◌≡◌, ℕ, ◌||◌, not, List, [], ◌∷◌, ◌++◌, length, Bool, true, false, cond, None, Some, Result, Ok, Err, refl, ap, sym, ◌∙◌, arith}
use Rattle.syntax.specs.declared.token.keyword.TheConstants as k
use Rattle.syntax.specs.declared.token.sign.TheConstants as m
use Rattle.syntax.specs.Words as w
use Rattle.syntax.specs.Words.{Word, Tok}
use Rattle.syntax_tree.specs.Placed.{Constant, subrange, scalar}
use Rattle.syntax_reading.specs.ExprReading.{Fault, syntax, ◌>>=◌, same_word, is_at, expect, name, many, behind_comma, listed, some_listed, in_parens, constant}
use Rattle.syntax_reading.specs.Reading.{range, scalar_type, kind, var, vars, param, params, begins_member, member, members, deadline, first, activation, numbers}
use Rattle.message_expected.specs.Automaton as a
use Rattle.message_expected.specs.Automaton.{Head, Turn, along, is_key, is_refused, is_sign, kind_of_word, refused, turn, where_so}
use Rattle.message_expected.specs.Kinds.{same}
use Rattle.message_expected.specs.declared.kinds.Kind.TheVariants as of
use Rattle.message_expected.specs.declared.symbols.Symbol.{Symbol}
use Rattle.message_expected.specs.declared.symbols.Symbol.TheVariants as s
use Rattle.message_expected.proofs.Runs.{Does, Reads, Same, along-word, a-name, begun, bind, branch, deadline_same, done, done-last, done-then, empty, go, key, key_same, last, many-heads, many-where, mark, maybe-where, must, must-all, of-head, of-result, past-word, run, sign_same, via, word_does}
use Rattle.message_expected.proofs.ExprRuns.{constant_does, constant_reads}

member-refused : (b c : Bool) (x y : List Symbol) → is_refused (cond b (along x) (cond c (along y) refused)) ≡ not (b || c)
member-refused true c x y = refl
member-refused false true x y = refl
member-refused false false x y = refl

abbrev first-head : (b c : Bool) → Head
first-head b c = cond b (along []) (where_so c (s.Sign m.COLON ∷ s.Scalar ∷ s.MoreParameters ∷ s.Sign m.RIGHT_PAREN ∷ []))

module _ {P : Type 0} (d : ℕ) where
  -- the one of two tests that holds first
  either-of : {A : Type 0} (t : Tok P) (ts : List (Tok P)) (b1 b2 c1 c2 : Bool) (y : Head) (p q z : Result (A × List (Tok P)) Fault) → b1 ≡ c1 → b2 ≡ c2
      → (c1 ≡ true → Same d (λ stack. run d stack ts) p (length ts)) → (c2 ≡ true → Same d (λ stack. run d stack ts) q (length ts)) → Same d (λ stack. go d stack y t ts) z (length ts)
      → Same d (λ stack. go d stack (cond (b1 || b2) (along []) y) t ts) (cond c1 p (cond c2 q z)) (length ts)
  either-of t ts b1 b2 true c2 y p q z e1 e2 h1 h2 h3 = of-head d (λ h stack. go d stack h t ts) (cond (b1 || b2) (along []) y) (along []) p (length ts) (ap (λ b. cond (b || b2) (along []) y) e1) (h1 refl)
  either-of t ts b1 b2 false true y p q z e1 e2 h1 h2 h3 = of-head d (λ h stack. go d stack h t ts) (cond (b1 || b2) (along []) y) (along []) q (length ts) (λ i. cond (e1 i || e2 i) (along []) y) (h2 refl)
  either-of t ts b1 b2 false false y p q z e1 e2 h1 h2 h3 = of-head d (λ h stack. go d stack h t ts) (cond (b1 || b2) (along []) y) y z (length ts) (λ i. cond (e1 i || e2 i) (along []) y) h3

  -- ---- types

  abbrev range-rest : Constant P × List (Tok P) → Result ((Constant P × Constant P) × List (Tok P)) Fault
  range-rest low = expect w.RANGE low.1 >>= λ c. constant c.1 >>= λ high. Ok ((low.0, high.0), high.1)

  range_rest : (low : Constant P) → Reads d (λ v. range-rest (low, v)) (s.Sign m.RANGE ∷ s.Constant ∷ [])
  range_rest low = bind d (expect w.RANGE) _ (s.Sign m.RANGE ∷ []) (s.Constant ∷ []) (mark d m.RANGE) (λ c. last d constant _ (s.Constant ∷ []) (constant_reads d) (λ high. done d _))

  range_reads : Reads d (range {P = P}) (s.Constant ∷ s.Sign m.RANGE ∷ s.Constant ∷ [])
  unfolding range
  range_reads = bind d constant _ (s.Constant ∷ []) (s.Sign m.RANGE ∷ s.Constant ∷ []) (constant_reads d) (λ low. range_rest low)

  grown : (b c : Bool) (t : Tok P) (ts : List (Tok P)) (stack : List Symbol)
      → go d stack (cond b (along (s.Unsigned ∷ s.Sign m.RANGE ∷ s.Constant ∷ [])) (where_so c (s.Sign m.RANGE ∷ s.Constant ∷ []))) t ts
      ≡ go d (s.Sign m.RANGE ∷ s.Constant ∷ stack) (cond b (along (s.Unsigned ∷ [])) (where_so c [])) t ts
  grown true c t ts stack = refl
  grown false true t ts stack = refl
  grown false false t ts stack = refl

  range_does : (t : Tok P) (ts : List (Tok P))
      → Does d (cond (is_sign m.MINUS (kind_of_word t.word)) (along (s.Unsigned ∷ s.Sign m.RANGE ∷ s.Constant ∷ [])) (where_so (a.is_name (kind_of_word t.word) || a.is_number (kind_of_word t.word)) (s.Sign m.RANGE ∷ s.Constant ∷ []))) range t ts
  unfolding range a.constant a.unsigned
  range_does t ts =
      via d _ _ (range (t ∷ ts)) (length ts) (length ts) (omega arith) (λ stack. grown (is_sign m.MINUS (kind_of_word t.word)) (a.is_name (kind_of_word t.word) || a.is_number (kind_of_word t.word)) t ts stack)
      (done-then d (a.constant (kind_of_word t.word)) (s.Sign m.RANGE ∷ s.Constant ∷ []) constant _ t ts (constant_does d t ts) (λ low. range_rest low))

  scalar_does : (t : Tok P) (ts : List (Tok P)) → Does d (a.scalar (kind_of_word t.word)) scalar_type t ts
  unfolding scalar_type a.scalar
  scalar_does t ts =
      either-of t ts (is_key k.INT (kind_of_word t.word)) (is_key k.BOOLEAN (kind_of_word t.word)) (same_word t.word w.INT) (same_word t.word w.BOOLEAN) _ _ _ _ (key_same k.INT t.word) (key_same k.BOOLEAN t.word)
      (λ e. along-word d w.INT _ [] t ts e (λ q. done d _)) (λ e. along-word d w.BOOLEAN _ [] t ts e (λ q. done d _)) (done-last d _ range (λ r. Ok (subrange r.0.0 r.0.1, r.1)) t ts (range_does t ts) (λ r. done d _))

  pub scalar_reads : Reads d (scalar_type {P = P}) (s.Scalar ∷ [])
  unfolding scalar_type range turn constant name
  scalar_reads = must d s.Scalar scalar_type refl first scalar_does
    where
      first : scalar_type {P = P} [] ≡ Err (syntax 0)
      first = ap (λ r. r >>= λ r. Ok (subrange r.0.0 r.0.1, r.1)) (empty d s.Constant (s.Sign m.RANGE ∷ s.Constant ∷ []) range refl range_reads)

  variable_type_reads : Reads d (kind {P = P}) (s.VariableType ∷ [])
  unfolding kind turn a.variable_type
  variable_type_reads =
      must d s.VariableType kind refl (ap (λ r. r >>= λ x. Ok (scalar x.0, x.1)) (empty d s.Scalar [] scalar_type refl scalar_reads))
      (λ t ts. branch d (λ h stack. go d stack h t ts) _ (same_word t.word w.ARRAY) (along (s.Constant ∷ s.Sign m.RANGE ∷ s.Constant ∷ s.Keyword k.OF ∷ s.Scalar ∷ [])) _ _ _ (length ts) (key_same k.ARRAY t.word)
      (λ e. along-word d w.ARRAY _ (s.Constant ∷ s.Sign m.RANGE ∷ s.Constant ∷ s.Keyword k.OF ∷ s.Scalar ∷ []) t ts e (λ q.
      bind d range _ (s.Constant ∷ s.Sign m.RANGE ∷ s.Constant ∷ []) (s.Keyword k.OF ∷ s.Scalar ∷ []) range_reads (λ r.
      bind d (expect w.OF) _ (s.Keyword k.OF ∷ []) (s.Scalar ∷ []) (key d k.OF) (λ c. last d scalar_type _ (s.Scalar ∷ []) scalar_reads (λ x. done d _)))))
      (λ e. done-last d (a.scalar (kind_of_word t.word)) scalar_type _ t ts (scalar_does t ts) (λ x. done d _)))

  -- ---- variables and members

  var_behind : (t : Tok P) (ts : List (Tok P)) → same_word t.word w.VAR ≡ true → Same d (λ stack. run d ((s.Name ∷ s.Sign m.COLON ∷ s.VariableType ∷ []) ++ stack) ts) (var (t ∷ ts)) (length ts)
  unfolding var
  var_behind t ts e =
      of-result d _ _ _ (length ts) (past-word w.VAR _ t ts e)
      (bind d name _ (s.Name ∷ []) (s.Sign m.COLON ∷ s.VariableType ∷ []) (a-name d) (λ n. bind d (expect w.COLON) _ (s.Sign m.COLON ∷ []) (s.VariableType ∷ []) (mark d m.COLON) (λ c.
      last d kind _ (s.VariableType ∷ []) variable_type_reads (λ x. done d _))) ts)

  pub vars_read : Reads d (vars {P = P}) (s.Variables ∷ [])
  unfolding vars turn
  vars_read =
      many-where d s.Variables (is_at w.VAR) var (s.Name ∷ s.Sign m.COLON ∷ s.VariableType ∷ []) (λ t. is_key k.VAR (kind_of_word t.word)) refl refl refl (λ t. refl) (λ t ts. key_same k.VAR t.word) var_behind

  member_does : (t : Tok P) (ts : List (Tok P)) → Does d (a.member (kind_of_word t.word)) member t ts
  unfolding member a.member
  member_does t ts =
      branch d (λ h stack. go d stack h t ts) _ (same_word t.word w.VAR) (along (s.Name ∷ s.Sign m.COLON ∷ s.VariableType ∷ [])) _ _ _ (length ts) (key_same k.VAR t.word)
      (λ e. done-last d (along (s.Name ∷ s.Sign m.COLON ∷ s.VariableType ∷ [])) var _ t ts (var_behind t ts e) (λ v. done d _))
      (λ e. word_does d w.CONDITION (is_key k.CONDITION (kind_of_word t.word)) _ (s.Name ∷ []) t ts (key_same k.CONDITION t.word) (λ q. last d name _ (s.Name ∷ []) (a-name d) (λ n. done d _)))

  pub members_read : Reads d (members {P = P}) (s.Members ∷ [])
  unfolding members turn a.member
  members_read =
      many-heads d s.Members begins_member member (λ t. a.member (kind_of_word t.word)) refl refl refl (λ t. refl)
      (λ t ts. member-refused (is_key k.VAR (kind_of_word t.word)) (is_key k.CONDITION (kind_of_word t.word)) _ _ ∙ (λ i. not (key_same k.VAR t.word i || key_same k.CONDITION t.word i))) (λ t ts is. member_does t ts)

  -- ---- parameters

  param_reads : Reads d (param {P = P}) (s.Name ∷ s.Sign m.COLON ∷ s.Scalar ∷ [])
  unfolding param
  param_reads =
      bind d name _ (s.Name ∷ []) (s.Sign m.COLON ∷ s.Scalar ∷ []) (a-name d) (λ n. bind d (expect w.COLON) _ (s.Sign m.COLON ∷ []) (s.Scalar ∷ []) (mark d m.COLON) (λ c.
      last d scalar_type _ (s.Scalar ∷ []) scalar_reads (λ x. done d _)))

  more_parameters : Reads d (many (is_at w.COMMA) (behind_comma (param {P = P}))) (s.MoreParameters ∷ [])
  unfolding turn behind_comma
  more_parameters =
      many-where d s.MoreParameters (is_at w.COMMA) (behind_comma param) (s.Name ∷ s.Sign m.COLON ∷ s.Scalar ∷ []) (λ t. is_sign m.COMMA (kind_of_word t.word)) refl refl refl (λ t. refl) (λ t ts. sign_same m.COMMA t.word)
      (λ t ts is. of-result d _ _ (param ts) (length ts) (past-word w.COMMA _ t ts is) (param_reads ts))

  abbrev to-paren : {A : Type 0} → A × List (Tok P) → Result (A × List (Tok P)) Fault
  to-paren xs = expect w.RIGHT_PAREN xs.1 >>= λ r. Ok (xs.0, r.1)

  close_reads : {A : Type 0} (x : A) → Reads d (λ v. to-paren (x, v)) (s.Sign m.RIGHT_PAREN ∷ [])
  close_reads x = last d (expect w.RIGHT_PAREN) _ (s.Sign m.RIGHT_PAREN ∷ []) (mark d m.RIGHT_PAREN) (λ r. done d x)

  listed_parameters : Reads d (λ v. listed (param {P = P}) v >>= to-paren) (s.Name ∷ s.Sign m.COLON ∷ s.Scalar ∷ s.MoreParameters ∷ s.Sign m.RIGHT_PAREN ∷ [])
  unfolding listed
  listed_parameters =
      bind d (listed param) to-paren (s.Name ∷ s.Sign m.COLON ∷ s.Scalar ∷ s.MoreParameters ∷ []) (s.Sign m.RIGHT_PAREN ∷ [])
      (bind d param _ (s.Name ∷ s.Sign m.COLON ∷ s.Scalar ∷ []) (s.MoreParameters ∷ []) param_reads (λ x. last d (many (is_at w.COMMA) (behind_comma param)) _ (s.MoreParameters ∷ []) more_parameters (λ xs. done d _)))
      (λ xs. close_reads xs)

  name-head : (c : Bool) (t : Tok P) (ts : List (Tok P)) (stack : List Symbol)
      → go d stack (first-head false c) t ts ≡ go d (s.Sign m.COLON ∷ s.Scalar ∷ s.MoreParameters ∷ s.Sign m.RIGHT_PAREN ∷ stack) (where_so c []) t ts
  name-head true t ts stack = refl
  name-head false t ts stack = refl

  parameters_read : Reads d (λ v. some_listed (param {P = P}) v >>= to-paren) (s.FirstParameter ∷ [])
  unfolding some_listed turn a.first_parameter
  parameters_read =
      must-all d s.FirstParameter (λ v. some_listed param v >>= to-paren) refl (empty d s.Name (s.Sign m.COLON ∷ s.Scalar ∷ s.MoreParameters ∷ s.Sign m.RIGHT_PAREN ∷ []) (λ v. listed param v >>= to-paren) refl listed_parameters)
      (λ t ts. by t ts (same_word t.word w.RIGHT_PAREN) refl)
    where
      by : (t : Tok P) (ts : List (Tok P)) (b : Bool) → same_word t.word w.RIGHT_PAREN ≡ b
          → Same d (λ stack. go d stack (first-head (is_sign m.RIGHT_PAREN (kind_of_word t.word)) (a.is_name (kind_of_word t.word))) t ts)
          (cond (same_word t.word w.RIGHT_PAREN) (Ok ([], t ∷ ts)) (listed param (t ∷ ts)) >>= to-paren) (length (t ∷ ts))
      by t ts true is =
          let read : (cond (same_word t.word w.RIGHT_PAREN) (Ok ([], t ∷ ts)) (listed param (t ∷ ts)) >>= to-paren) ≡ Ok ([], ts) =
          ap (λ b. cond b (Ok ([], t ∷ ts)) (listed param (t ∷ ts)) >>= to-paren) is ∙ past-word w.RIGHT_PAREN _ t ts is in
          of-result d _ _ (Ok ([], ts)) (length (t ∷ ts)) read
          (record { runs = λ stack. ap (λ b. go d stack (first-head b (a.is_name (kind_of_word t.word))) t ts) (sign_same m.RIGHT_PAREN t.word ∙ is); short = omega arith })
      by t ts false is =
          of-result d _ _ (listed param (t ∷ ts) >>= to-paren) (length (t ∷ ts)) (ap (λ b. cond b (Ok ([], t ∷ ts)) (listed param (t ∷ ts)) >>= to-paren) is)
          (via d _ _ (listed param (t ∷ ts) >>= to-paren) (length (t ∷ ts)) (length (t ∷ ts)) (omega arith)
          (λ stack. ap (λ b. go d stack (first-head b (a.is_name (kind_of_word t.word))) t ts) (sign_same m.RIGHT_PAREN t.word ∙ is) ∙ name-head (a.is_name (kind_of_word t.word)) t ts stack
          ∙ sym (begun d s.Name (s.Sign m.COLON ∷ s.Scalar ∷ s.MoreParameters ∷ s.Sign m.RIGHT_PAREN ∷ stack) t ts refl)) (listed_parameters (t ∷ ts)))

  pub params_read : Reads d (params {P = P}) (s.Sign m.LEFT_PAREN ∷ s.FirstParameter ∷ [])
  unfolding params in_parens
  params_read = bind d (expect w.LEFT_PAREN) _ (s.Sign m.LEFT_PAREN ∷ []) (s.FirstParameter ∷ []) (mark d m.LEFT_PAREN) (λ l. parameters_read)

  -- ---- the head of a process, and the numbers of a handler

  deadline_reads : Reads d (deadline {P = P}) (s.Deadline ∷ [])
  unfolding deadline turn
  deadline_reads =
      maybe-where d s.Deadline (is_at w.DEADLINE) (λ ts. expect w.DEADLINE ts >>= λ c. constant c.1 >>= λ x. Ok (Some x.0, x.1)) None (s.Constant ∷ []) (λ t. same (kind_of_word t.word) of.Deadline) refl refl refl (λ t. refl)
      (λ t ts. deadline_same t.word) (λ t ts is. along-word d w.DEADLINE _ (s.Constant ∷ []) t ts is (λ q. last d constant _ (s.Constant ∷ []) (constant_reads d) (λ x. done d _)))

  first_reads : Reads d (first {P = P}) (s.First ∷ [])
  unfolding first turn
  first_reads =
      maybe-where d s.First (is_at w.FIRST) (λ ts. expect w.FIRST ts >>= λ c. expect w.ACTIVATION c.1 >>= λ c. expect w.AT_TIME c.1 >>= λ c. constant c.1 >>= λ x. Ok (Some x.0, x.1)) None
      (s.Keyword k.ACTIVATION ∷ s.Keyword k.AT_TIME ∷ s.Constant ∷ []) (λ t. is_key k.FIRST (kind_of_word t.word)) refl refl refl (λ t. refl) (λ t ts. key_same k.FIRST t.word)
      (λ t ts is. along-word d w.FIRST _ (s.Keyword k.ACTIVATION ∷ s.Keyword k.AT_TIME ∷ s.Constant ∷ []) t ts is (λ q.
      bind d (expect w.ACTIVATION) _ (s.Keyword k.ACTIVATION ∷ []) (s.Keyword k.AT_TIME ∷ s.Constant ∷ []) (key d k.ACTIVATION) (λ c.
      bind d (expect w.AT_TIME) _ (s.Keyword k.AT_TIME ∷ []) (s.Constant ∷ []) (key d k.AT_TIME) (λ c. last d constant _ (s.Constant ∷ []) (constant_reads d) (λ x. done d _)))))

  pub activation_reads : Reads d (activation {P = P}) (s.Activation ∷ [])
  unfolding activation turn a.activation expect
  activation_reads =
      must d s.Activation activation refl refl
      (λ t ts. branch d (λ h stack. go d stack h t ts) _ (same_word t.word w.PERIODIC) (along (s.Keyword k.FRAME ∷ s.Constant ∷ s.Deadline ∷ s.First ∷ [])) _ _ _ (length ts) (key_same k.PERIODIC t.word)
      (λ e. along-word d w.PERIODIC _ (s.Keyword k.FRAME ∷ s.Constant ∷ s.Deadline ∷ s.First ∷ []) t ts e (λ q.
      bind d (expect w.FRAME) _ (s.Keyword k.FRAME ∷ []) (s.Constant ∷ s.Deadline ∷ s.First ∷ []) (key d k.FRAME) (λ c. bind d constant _ (s.Constant ∷ []) (s.Deadline ∷ s.First ∷ []) (constant_reads d) (λ x.
      bind d deadline _ (s.Deadline ∷ []) (s.First ∷ []) deadline_reads (λ y. last d first _ (s.First ∷ []) first_reads (λ f. done d _))))))
      (λ e. word_does d w.AT_EVENT (is_key k.AT_EVENT (kind_of_word t.word)) _ (s.Name ∷ s.Keyword k.FRAME ∷ s.Constant ∷ s.Deadline ∷ []) t ts (key_same k.AT_EVENT t.word) (λ q.
      bind d name _ (s.Name ∷ []) (s.Keyword k.FRAME ∷ s.Constant ∷ s.Deadline ∷ []) (a-name d) (λ n. bind d (expect w.FRAME) _ (s.Keyword k.FRAME ∷ []) (s.Constant ∷ s.Deadline ∷ []) (key d k.FRAME) (λ c.
      bind d constant _ (s.Constant ∷ []) (s.Deadline ∷ []) (constant_reads d) (λ x. last d deadline _ (s.Deadline ∷ []) deadline_reads (λ y. done d _)))))))

  more_numbers : Reads d (many (is_at w.COMMA) (behind_comma (constant {P = P}))) (s.MoreNumbers ∷ [])
  unfolding turn behind_comma
  more_numbers =
      many-where d s.MoreNumbers (is_at w.COMMA) (behind_comma constant) (s.Constant ∷ []) (λ t. is_sign m.COMMA (kind_of_word t.word)) refl refl refl (λ t. refl) (λ t ts. sign_same m.COMMA t.word)
      (λ t ts is. of-result d _ _ (constant ts) (length ts) (past-word w.COMMA _ t ts is) (constant_reads d ts))

  pub numbers_read : Reads d (numbers {P = P}) (s.Sign m.LEFT_PAREN ∷ s.Constant ∷ s.MoreNumbers ∷ s.Sign m.RIGHT_PAREN ∷ [])
  unfolding numbers listed
  numbers_read =
      bind d (expect w.LEFT_PAREN) _ (s.Sign m.LEFT_PAREN ∷ []) (s.Constant ∷ s.MoreNumbers ∷ s.Sign m.RIGHT_PAREN ∷ []) (mark d m.LEFT_PAREN) (λ l.
      bind d (listed constant) _ (s.Constant ∷ s.MoreNumbers ∷ []) (s.Sign m.RIGHT_PAREN ∷ [])
      (bind d constant _ (s.Constant ∷ []) (s.MoreNumbers ∷ []) (constant_reads d) (λ x. last d (many (is_at w.COMMA) (behind_comma constant)) _ (s.MoreNumbers ∷ []) more_numbers (λ xs. done d _)))
      (λ xs. last d (expect w.RIGHT_PAREN) _ (s.Sign m.RIGHT_PAREN ∷ []) (mark d m.RIGHT_PAREN) (λ r. done d xs)))
