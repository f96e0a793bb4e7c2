-- Reading, as functions on lists of tokens: what is read and what follows it, or a fault.
use Rattle.std.specs.Prelude.{ℕ, zero, suc, ◌==◌, bytes_eq, Bool, true, false, ◌&&◌, if◌then◌else◌, List, [], ◌∷◌, length, Result, Ok, Err, Option, Some, None}
use Rattle.syntax_tree.specs.Plain.{Name, Op, or, and, equal, unequal, less, less_equal, greater, greater_equal, add, sub, mul, div, remainder}
use Rattle.syntax_tree.specs.Placed.{Constant, literal_constant, named_constant, Expr, literal, truth, variable, element, call, minus, negation, paren, row, Operands, no_operands, operand, exprs_of}
use Rattle.syntax.specs.Words as w
use Rattle.syntax.specs.Words.{Word, named, number, keyword, sign, Tok}
use Rattle.syntax.specs.ExprGrammar.{height}

-- what is wrong, with the number of tokens that are left from there on
pub data Fault : Type 0 where
  syntax : ℕ → Fault
  nesting : ℕ → Fault

infixl 10 ◌>>=◌
abbrev pub ◌>>=◌ : {A B : Type 0} → Result A Fault → (A → Result B Fault) → Result B Fault
(Ok x) >>= f = f x
(Err e) >>= f = Err e

abbrev pub Parse : Type 0 → Type 0 → Type 0
Parse P A = List (Tok P) → Result (A × List (Tok P)) Fault

abbrev pub refuse : {P A : Type 0} → Parse P A
refuse ts = Err (syntax (length ts))

abbrev pub too_deep : {P A : Type 0} → Parse P A
too_deep ts = Err (nesting (length ts))

-- ---- single tokens

-- of two keywords, two signs or two names
abbrev pub same_word : Word → Word → Bool
same_word (keyword a) (keyword b) = a == b
same_word (sign a) (sign b) = a == b
same_word (named m) (named n) = bytes_eq m n
same_word _ _ = false

abbrev pub is_at : {P : Type 0} → Word → List (Tok P) → Bool
is_at word [] = false
is_at word (t ∷ ts) = same_word t.word word

abbrev pub is_named : Word → Bool
is_named (named n) = true
is_named _ = false

abbrev pub is_name : {P : Type 0} → List (Tok P) → Bool
is_name [] = false
is_name (t ∷ ts) = is_named t.word

abbrev pub is_numeral : Word → Bool
is_numeral (number n) = true
is_numeral _ = false

abbrev pub is_literal : {P : Type 0} → List (Tok P) → Bool
is_literal [] = false
is_literal (t ∷ ts) = is_numeral t.word

-- a name with a `.` behind it
abbrev pub is_entry : {P : Type 0} → List (Tok P) → Bool
is_entry [] = false
is_entry (t ∷ ts) = is_named t.word && is_at w.DOT ts

-- the place of this word
unfoldable pub expect : {P : Type 0} → Word → Parse P P
expect word [] = refuse []
expect word (t ∷ ts) = if same_word t.word word then Ok (t.place, ts) else refuse (t ∷ ts)

abbrev pub name_by : {P : Type 0} → Word → Tok P → List (Tok P) → Result ((Name × P) × List (Tok P)) Fault
name_by (named n) t ts = Ok ((n, t.place), ts)
name_by _ t ts = refuse (t ∷ ts)

unfoldable pub name : {P : Type 0} → Parse P (Name × P)
name [] = refuse []
name (t ∷ ts) = name_by t.word t ts

abbrev pub numeral_by : {P : Type 0} → Word → Tok P → List (Tok P) → Result ((ℕ × P) × List (Tok P)) Fault
numeral_by (number n) t ts = Ok ((n, t.place), ts)
numeral_by _ t ts = refuse (t ∷ ts)

unfoldable pub numeral : {P : Type 0} → Parse P (ℕ × P)
numeral [] = refuse []
numeral (t ∷ ts) = numeral_by t.word t ts

-- ---- lists

-- as many of these as there are, while the next begins one, and no more than a number
unfoldable pub each : {P A : Type 0} → (List (Tok P) → Bool) → Parse P A → ℕ → Parse P (List A)
each begins p zero ts = Ok ([], ts)
each begins p (suc n) ts = if begins ts then (p ts >>= λ x. each begins p n x.1 >>= λ xs. Ok (x.0 ∷ xs.0, xs.1)) else Ok ([], ts)

unfoldable pub many : {P A : Type 0} → (List (Tok P) → Bool) → Parse P A → Parse P (List A)
many begins p ts = each begins p (length ts) ts

unfoldable pub behind_comma : {P A : Type 0} → Parse P A → Parse P A
behind_comma p ts = expect w.COMMA ts >>= λ c. p c.1

-- one or more, with commas between them
unfoldable pub listed : {P A : Type 0} → Parse P A → Parse P (List A)
listed p ts = p ts >>= λ x. many (is_at w.COMMA) (behind_comma p) x.1 >>= λ xs. Ok (x.0 ∷ xs.0, xs.1)

-- any number, with commas between them, before a closing parenthesis
unfoldable pub some_listed : {P A : Type 0} → Parse P A → Parse P (List A)
some_listed p ts = if is_at w.RIGHT_PAREN ts then Ok ([], ts) else listed p ts

unfoldable pub in_parens : {P A : Type 0} → Parse P A → Parse P (List A)
in_parens p ts = expect w.LEFT_PAREN ts >>= λ l. some_listed p l.1 >>= λ xs. expect w.RIGHT_PAREN xs.1 >>= λ r. Ok (xs.0, r.1)

-- ---- constants

unfoldable pub signless : {P : Type 0} → P → Bool → Parse P (Constant P)
signless p is_minus ts =
    if is_literal ts then (numeral ts >>= λ n. Ok (literal_constant p is_minus n.0.0 n.0.1, n.1))
    else (name ts >>= λ n. Ok (named_constant p is_minus n.0.0 n.0.1, n.1))

unfoldable pub unsigned : {P : Type 0} → Parse P (Constant P)
unsigned ts =
    if is_literal ts then (numeral ts >>= λ n. Ok (literal_constant n.0.1 false n.0.0 n.0.1, n.1))
    else (name ts >>= λ n. Ok (named_constant n.0.1 false n.0.0 n.0.1, n.1))

unfoldable pub constant : {P : Type 0} → Parse P (Constant P)
constant ts = if is_at w.MINUS ts then (expect w.MINUS ts >>= λ m. signless m.0 true m.1) else unsigned ts

-- ---- rows of operators

-- the operator that a word is
abbrev pub op_of : Word → Option Op
op_of (keyword k) =
    if same_word (keyword k) w.OR then Some or
    else if same_word (keyword k) w.AND then Some and
    else if same_word (keyword k) w.DIV then Some div
    else if same_word (keyword k) w.MOD then Some remainder
    else None
op_of (sign s) =
    if same_word (sign s) w.EQUAL then Some equal
    else if same_word (sign s) w.UNEQUAL then Some unequal
    else if same_word (sign s) w.LESS then Some less
    else if same_word (sign s) w.LESS_EQUAL then Some less_equal
    else if same_word (sign s) w.GREATER then Some greater
    else if same_word (sign s) w.GREATER_EQUAL then Some greater_equal
    else if same_word (sign s) w.PLUS then Some add
    else if same_word (sign s) w.MINUS then Some sub
    else if same_word (sign s) w.TIMES then Some mul
    else None
op_of _ = None

abbrev pub of_level : ℕ → Option Op → Option Op
of_level level None = None
of_level level (Some op) = if height op == level then Some op else None

-- the operator of this level at the front
abbrev pub op_at : {P : Type 0} → ℕ → List (Tok P) → Option Op
op_at level [] = None
op_at level (t ∷ ts) = of_level level (op_of t.word)

abbrev pub is_some : {A : Type 0} → Option A → Bool
is_some None = false
is_some (Some x) = true

abbrev pub next : {P : Type 0} → List (Tok P) → List (Tok P)
next [] = []
next (t ∷ ts) = ts

abbrev pub operand_by : {P : Type 0} → Parse P (Expr P) → Option Op → Parse P (Op × Expr P)
operand_by p None ts = refuse ts
operand_by p (Some op) ts = p (next ts) >>= λ x. Ok ((op, x.0), x.1)

-- an operator of this level with its right operand
unfoldable pub operand_at : {P : Type 0} → ℕ → Parse P (Expr P) → Parse P (Op × Expr P)
operand_at level p ts = operand_by p (op_at level ts) ts

-- a comparison has one operator
abbrev pub turns : {P : Type 0} → ℕ → List (Tok P) → ℕ
turns level ts = if level == 3 then 1 else length ts

unfoldable pub operands_at : {P : Type 0} → ℕ → Parse P (Expr P) → Parse P (List (Op × Expr P))
operands_at level p ts = each (λ us. is_some (op_at level us)) (operand_at level p) (turns level ts) ts

abbrev pub operands_from : {P : Type 0} → List (Op × Expr P) → Operands P
operands_from [] = no_operands
operands_from (r ∷ rs) = operand r.0 r.1 (operands_from rs)

abbrev pub joined : {P : Type 0} → Expr P → List (Op × Expr P) → Expr P
joined e [] = e
joined e (r ∷ rs) = row e (operands_from (r ∷ rs))

unfoldable pub row_at : {P : Type 0} → ℕ → Parse P (Expr P) → Parse P (Expr P)
row_at level p ts = p ts >>= λ x. operands_at level p x.1 >>= λ rs. Ok (joined x.0 rs.0, rs.1)

-- expressions of this level, by what reads factors
unfoldable pub level : {P : Type 0} → Parse P (Expr P) → ℕ → Parse P (Expr P)
level p zero ts = p ts
level p (suc l) ts = row_at (suc l) (level p l) ts

-- ---- factors, by what reads factors one level deeper, if a level is left

abbrev pub inside : {P A : Type 0} → Option (Parse P (Expr P)) → (Parse P (Expr P) → Parse P A) → Parse P A
inside None p ts = too_deep ts
inside (Some f) p ts = p f ts

unfoldable pub index : {P : Type 0} → Option (Parse P (Expr P)) → Parse P (Expr P)
index inner = inside inner (λ f ts.
    expect w.LEFT_BRACKET ts >>= λ l. level f 5 l.1 >>= λ i. expect w.RIGHT_BRACKET i.1 >>= λ r. Ok (i.0, r.1))

unfoldable pub args : {P : Type 0} → Option (Parse P (Expr P)) → Parse P (List (Expr P))
args inner = inside inner (λ f ts. in_parens (level f 5) ts)

-- behind a name
unfoldable pub named_factor : {P : Type 0} → Option (Parse P (Expr P)) → Name × P → Parse P (Expr P)
named_factor inner n ts =
    if is_at w.LEFT_BRACKET ts then (index inner ts >>= λ i. Ok (element n.1 n.0 i.0, i.1))
    else if is_at w.LEFT_PAREN ts then (args inner ts >>= λ es. Ok (call n.1 n.0 (exprs_of es.0), es.1))
    else Ok (variable n.1 n.0, ts)

unfoldable pub minus_factor : {P : Type 0} → Option (Parse P (Expr P)) → Parse P (Expr P)
minus_factor inner = inside inner (λ f ts. expect w.MINUS ts >>= λ m. f m.1 >>= λ e. Ok (minus m.0 e.0, e.1))

unfoldable pub negation_factor : {P : Type 0} → Option (Parse P (Expr P)) → Parse P (Expr P)
negation_factor inner = inside inner (λ f ts. expect w.NOT ts >>= λ m. f m.1 >>= λ e. Ok (negation m.0 e.0, e.1))

unfoldable pub paren_factor : {P : Type 0} → Option (Parse P (Expr P)) → Parse P (Expr P)
paren_factor inner = inside inner (λ f ts.
    expect w.LEFT_PAREN ts >>= λ l. level f 5 l.1 >>= λ e. expect w.RIGHT_PAREN e.1 >>= λ r. Ok (paren l.0 e.0, r.1))

-- a factor with no others inside
unfoldable pub simple_factor : {P : Type 0} → Parse P (Expr P)
simple_factor ts =
    if is_literal ts then (numeral ts >>= λ n. Ok (literal n.0.1 n.0.0, n.1))
    else if is_at w.TRUE ts then (expect w.TRUE ts >>= λ t. Ok (truth t.0 true, t.1))
    else (expect w.FALSE ts >>= λ t. Ok (truth t.0 false, t.1))

unfoldable pub factor_in : {P : Type 0} → Option (Parse P (Expr P)) → Parse P (Expr P)
factor_in inner ts =
    if is_name ts then (name ts >>= λ n. named_factor inner n.0 n.1)
    else if is_at w.LEFT_PAREN ts then paren_factor inner ts
    else if is_at w.MINUS ts then minus_factor inner ts
    else if is_at w.NOT ts then negation_factor inner ts
    else simple_factor ts

-- with this many levels of nesting left
unfoldable pub factor : {P : Type 0} → ℕ → Parse P (Expr P)
factor zero ts = factor_in None ts
factor (suc depth) ts = factor_in (Some (factor depth)) ts

abbrev pub inner : {P : Type 0} → ℕ → Option (Parse P (Expr P))
inner zero = None
inner (suc depth) = Some (factor depth)

abbrev pub expr : {P : Type 0} → ℕ → Parse P (Expr P)
expr depth = level (factor depth) 5
