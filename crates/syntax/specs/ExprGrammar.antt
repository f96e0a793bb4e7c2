-- The grammar: one case for each production. Each says that a tree takes its tokens from the front
-- of a list and leaves the others.
use Rattle.std.specs.Prelude.{◌≡◌, ℕ, zero, suc, ◌≤◌, true, false, List, [], ◌∷◌}
use Rattle.syntax_tree.specs.Plain.{Op, or, and, equal, unequal, less, less_equal, greater, greater_equal, add, sub, mul, div, remainder}
use Rattle.syntax_tree.specs.Placed.{Constant, literal_constant, named_constant, Expr, literal, truth, variable, element, call, minus, negation, paren, row, Exprs, no_exprs, exprs, Operands, no_operands, operand}
use Rattle.syntax.specs.Words as w
use Rattle.syntax.specs.Words.{Word, named, number, Tok}

-- ---- parts of a production

-- the first token is this word at this place
abbrev pub at : {P : Type 0} → Word → P → List (Tok P) → List (Tok P) → Type 0
at word p ts us = ts ≡ record { word = word; place = p } ∷ us

-- the first token is this word, at some place
abbrev pub a : {P : Type 0} → Word → List (Tok P) → List (Tok P) → Type 0
a {P} word ts us = (p : P) × at word p ts us

-- the one part and then the other
infixr 5 ◌▷◌
abbrev pub ◌▷◌ : {P : Type 0} → (R S : List (Tok P) → List (Tok P) → Type 0) → List (Tok P) → List (Tok P) → Type 0
◌▷◌ {P} R S ts us = (vs : List (Tok P)) × R ts vs × S vs us

-- no token
abbrev pub nothing : {P : Type 0} → List (Tok P) → List (Tok P) → Type 0
nothing ts us = ts ≡ us

abbrev pub never : {P : Type 0} → List (Tok P) → List (Tok P) → Type 0
never ts us = ⊥

-- each of these in turn
abbrev pub Each : {P A : Type 0} → (A → List (Tok P) → List (Tok P) → Type 0) → List A → List (Tok P) → List (Tok P) → Type 0
Each R [] = nothing
Each R (x ∷ xs) = R x ▷ Each R xs

-- one or more, with commas between them
abbrev pub Listed : {P A : Type 0} → (A → List (Tok P) → List (Tok P) → Type 0) → List A → List (Tok P) → List (Tok P) → Type 0
Listed R [] = never
Listed R (x ∷ xs) = R x ▷ Each (λ x. a w.COMMA ▷ R x) xs

-- any number, with commas between them
abbrev pub SomeListed : {P A : Type 0} → (A → List (Tok P) → List (Tok P) → Type 0) → List A → List (Tok P) → List (Tok P) → Type 0
SomeListed R [] = nothing
SomeListed R (x ∷ xs) = Listed R (x ∷ xs)

-- one level deeper, where a level is left
abbrev pub Deeper : {P : Type 0} → ℕ → (ℕ → List (Tok P) → List (Tok P) → Type 0) → List (Tok P) → List (Tok P) → Type 0
Deeper zero R = never
Deeper (suc depth) R = R depth

-- ---- constants and expressions

-- the places of a constant with no minus are one
abbrev pub Unsigned : {P : Type 0} → Word → P → P → List (Tok P) → List (Tok P) → Type 0
Unsigned word p q ts us = (q ≡ p) × at word p ts us

abbrev pub IsConstant : {P : Type 0} → Constant P → List (Tok P) → List (Tok P) → Type 0
IsConstant (literal_constant p true n q) = at w.MINUS p ▷ at (number n) q
IsConstant (literal_constant p false n q) = Unsigned (number n) p q
IsConstant (named_constant p true n q) = at w.MINUS p ▷ at (named n) q
IsConstant (named_constant p false n q) = Unsigned (named n) p q

abbrev pub op_word : Op → Word
op_word or = w.OR
op_word and = w.AND
op_word equal = w.EQUAL
op_word unequal = w.UNEQUAL
op_word less = w.LESS
op_word less_equal = w.LESS_EQUAL
op_word greater = w.GREATER
op_word greater_equal = w.GREATER_EQUAL
op_word add = w.PLUS
op_word sub = w.MINUS
op_word mul = w.TIMES
op_word div = w.DIV
op_word remainder = w.MOD

-- the level of an operator's row: 5 expr, 4 conj, 3 rel, 2 sum, 1 term; a factor is at level 0
abbrev pub height : Op → ℕ
height or = 5
height and = 4
height equal = 3
height unequal = 3
height less = 3
height less_equal = 3
height greater = 3
height greater_equal = 3
height add = 2
height sub = 2
height mul = 1
height div = 1
height remainder = 1

-- a row has an operator; one of comparisons has no second
abbrev pub IsRow : {P : Type 0} → ℕ → Operands P → Type 0
IsRow level no_operands = ⊥
IsRow level (operand op e no_operands) = Unit {0}
IsRow level (operand op e (operand op_2 e_2 more)) = level ≡ 3 → ⊥

-- the operator is of this level
abbrev pub OfLevel : {P : Type 0} → ℕ → Op → List (Tok P) → List (Tok P) → Type 0
OfLevel level op ts us = (height op ≡ level) × a (op_word op) ts us

-- expressions of at most this level, with this many levels of nesting left
abbrev mutual
  pub IsExpr : {P : Type 0} → (level depth : ℕ) → Expr P → List (Tok P) → List (Tok P) → Type 0
  IsExpr level depth (literal p n) = at (number n) p
  IsExpr level depth (truth p true) = at w.TRUE p
  IsExpr level depth (truth p false) = at w.FALSE p
  IsExpr level depth (variable p n) = at (named n) p
  IsExpr level depth (element p n i) = at (named n) p ▷ Deeper depth (λ depth. a w.LEFT_BRACKET ▷ IsExpr 5 depth i ▷ a w.RIGHT_BRACKET)
  IsExpr level depth (call p n es) = at (named n) p ▷ Deeper depth (λ depth. a w.LEFT_PAREN ▷ AreArgs depth es ▷ a w.RIGHT_PAREN)
  IsExpr level depth (minus p e) = Deeper depth (λ depth. at w.MINUS p ▷ IsExpr 0 depth e)
  IsExpr level depth (negation p e) = Deeper depth (λ depth. at w.NOT p ▷ IsExpr 0 depth e)
  IsExpr level depth (paren p e) = Deeper depth (λ depth. at w.LEFT_PAREN p ▷ IsExpr 5 depth e ▷ a w.RIGHT_PAREN)
  IsExpr level depth (row e rs) = λ ts us. (l : ℕ) × (suc l ≤ level) × IsRow (suc l) rs × (IsExpr l depth e ▷ AreOperands l depth rs) ts us

  -- operators of one level up, each with an operand of this level
  pub AreOperands : {P : Type 0} → (level depth : ℕ) → Operands P → List (Tok P) → List (Tok P) → Type 0
  AreOperands level depth no_operands = nothing
  AreOperands level depth (operand op e rs) = OfLevel (suc level) op ▷ IsExpr level depth e ▷ AreOperands level depth rs

  pub AreArgs : {P : Type 0} → (depth : ℕ) → Exprs P → List (Tok P) → List (Tok P) → Type 0
  AreArgs depth no_exprs = nothing
  AreArgs depth (exprs e es) = IsExpr 5 depth e ▷ AreMoreArgs depth es

  pub AreMoreArgs : {P : Type 0} → (depth : ℕ) → Exprs P → List (Tok P) → List (Tok P) → Type 0
  AreMoreArgs depth no_exprs = nothing
  AreMoreArgs depth (exprs e es) = a w.COMMA ▷ IsExpr 5 depth e ▷ AreMoreArgs depth es

-- arguments in parentheses, which are one level
abbrev pub InParens : {P : Type 0} → ℕ → Exprs P → List (Tok P) → List (Tok P) → Type 0
InParens depth es = Deeper depth (λ depth. a w.LEFT_PAREN ▷ AreArgs depth es ▷ a w.RIGHT_PAREN)
