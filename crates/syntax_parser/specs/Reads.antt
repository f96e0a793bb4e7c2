-- What a function returned is what reading gives, unless memory ran out.
use Rattle.std.specs.Prelude.{◌≡◌, ℕ, List, [], ◌∷◌, ◌++◌, map, Option, Some, None, Result, Ok, Err}
use Rattle.syntax_tree.specs.declared.place.Place.{Place}
use Rattle.syntax.specs.declared.token.TokenKind.{TokenKind}
use Rattle.syntax.specs.declared.token.TokenKind.TheVariants as kind
use Rattle.syntax.specs.Words.{Word, named, number, keyword, sign, Tok, word_of}
use Rattle.syntax_tree.specs.Plain.{Name, Op}
use Rattle.syntax_tree.specs.Placed as tree
use Rattle.syntax_tree.specs.declared.expr.Op as code_op
use Rattle.syntax_tree.specs.declared.expr.Expr as code_expr
use Rattle.syntax_tree.specs.declared.expr.Constant as code_constant
use Rattle.syntax_reading.specs.ExprReading.{Fault, Parse, syntax, nesting, ◌>>=◌, op_of, operands_at, joined}
use Rattle.syntax_parser.specs.declared.fault.Refusal.{Refusal}
use Rattle.syntax_parser.specs.declared.fault.Refusal.TheVariants as refusal

-- the kind of a token of this word
abbrev pub kind_of : Word → TokenKind
kind_of (named n) = kind.Ident
kind_of (number n) = kind.Literal n
kind_of (keyword at) = kind.Keyword at
kind_of (sign at) = kind.Sign at

-- the kind of the first token
abbrev pub kind_at : {P : Type 0} → List (Tok P) → Option TokenKind
kind_at [] = None
kind_at (t ∷ ts) = Some (kind_of t.word)

-- from what was read, what is left and what the function returned
abbrev pub Reads : {X Y : Type 0} → (X → Y) → Result (Y × List (Tok Place)) Fault → Result X Refusal → List (Tok Place) → Type 0
Reads view read (Ok x) left = read ≡ Ok (view x, left)
Reads view read (Err (refusal.Memory _)) left = Unit {0}
Reads view read (Err (refusal.Syntax n)) left = read ≡ Err (syntax n)
Reads view read (Err (refusal.Nesting n)) left = read ≡ Err (nesting n)

-- what was read stands behind this
abbrev pub with_front : {P A : Type 0} → List A → Result (List A × List (Tok P)) Fault → Result (List A × List (Tok P)) Fault
with_front front read = read >>= λ r. Ok (front ++ r.0, r.1)

abbrev pub placed_op : Option code_op.Op → Option Op
placed_op None = None
placed_op (Some op) = Some (tree.op_of op)

-- the operator that a token of this kind is
abbrev pub op_of_kind : TokenKind → Option Op
op_of_kind kind = op_of (word_of kind [])

abbrev pub placed_pair : code_op.Op × code_expr.Expr → Op × tree.Expr Place
placed_pair r = (tree.op_of r.0, tree.placed_expr r.1)

-- an entry that is called, its place and its arguments
abbrev pub placed_entry : Name × Place × List code_expr.Expr → Name × Place × List (tree.Expr Place)
placed_entry e = (e.0, e.1, map tree.placed_expr e.2)

-- the bounds of a range
abbrev pub placed_range : code_constant.Constant × code_constant.Constant → tree.Constant Place × tree.Constant Place
placed_range r = (tree.placed_constant r.0, tree.placed_constant r.1)

-- the same of what is read to the last token
abbrev pub Gives : {X Y : Type 0} → (X → Y) → Result Y Fault → Result X Refusal → Type 0
Gives view read (Ok x) = read ≡ Ok (view x)
Gives view read (Err (refusal.Memory _)) = Unit {0}
Gives view read (Err (refusal.Syntax n)) = read ≡ Err (syntax n)
Gives view read (Err (refusal.Nesting n)) = read ≡ Err (nesting n)

-- behind a first operand, operators of this level with theirs, read by what reads operands
abbrev pub row_from : {P : Type 0} → ℕ → Parse P (tree.Expr P) → tree.Expr P → Parse P (tree.Expr P)
row_from level p first ts = operands_at level p ts >>= λ rs. Ok (joined first rs.0, rs.1)
