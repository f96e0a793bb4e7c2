-- The grammar of statements.
use Rattle.std.specs.Prelude.{ℕ, List}
use Rattle.syntax_tree.specs.Placed.{Ref, whole, part, Stmt, assign, assign_entry, assign_empty, perform, perform_entry, when, when_else, loop, exit_when, get, put, wait, signal, broadcast, except, assert, Stmts, no_stmts, stmts}
use Rattle.syntax.specs.Words as w
use Rattle.syntax.specs.Words.{Word, named, Tok}
use Rattle.syntax.specs.ExprGrammar.{at, a, ◌▷◌, nothing, Deeper, IsConstant, IsExpr, InParens}

abbrev pub IsRef : {P : Type 0} → (depth : ℕ) → Ref P → List (Tok P) → List (Tok P) → Type 0
IsRef depth (whole p n) = at (named n) p
IsRef depth (part p n i) = at (named n) p ▷ Deeper depth (λ depth. a w.LEFT_BRACKET ▷ IsExpr 5 depth i ▷ a w.RIGHT_BRACKET)

-- statements, with this many levels of nesting left
abbrev mutual
  pub IsStmt : {P : Type 0} → (depth : ℕ) → Stmt P → List (Tok P) → List (Tok P) → Type 0
  IsStmt depth (assign r e) = IsRef depth r ▷ a w.ASSIGN ▷ IsExpr 5 depth e
  IsStmt depth (assign_entry r mon p entry q es) =
      IsRef depth r ▷ a w.ASSIGN ▷ at (named mon) p ▷ a w.DOT ▷ at (named entry) q ▷ InParens depth es
  IsStmt depth (assign_empty r cond p) = IsRef depth r ▷ a w.ASSIGN ▷ a w.EMPTY ▷ at (named cond) p
  IsStmt depth (perform p n es) = at (named n) p ▷ InParens depth es
  IsStmt depth (perform_entry p mon entry q es) = at (named mon) p ▷ a w.DOT ▷ at (named entry) q ▷ InParens depth es
  IsStmt depth (when p e ss) =
      Deeper depth (λ depth. at w.IF p ▷ IsExpr 5 depth e ▷ a w.THEN ▷ AreStmts depth ss ▷ a w.END ▷ a w.IF)
  IsStmt depth (when_else p e ss others) =
      Deeper depth (λ depth. at w.IF p ▷ IsExpr 5 depth e ▷ a w.THEN ▷ AreStmts depth ss ▷ a w.ELSE ▷ AreStmts depth others ▷ a w.END ▷ a w.IF)
  IsStmt depth (loop p n q low high ss) =
      Deeper depth (λ depth. at w.FOR p ▷ at (named n) q ▷ a w.COLON ▷ IsConstant low ▷ a w.RANGE ▷ IsConstant high ▷ a w.DO ▷ AreStmts depth ss ▷ a w.END ▷ a w.FOR)
  IsStmt depth (exit_when p e) = at w.EXIT p ▷ a w.WHEN ▷ IsExpr 5 depth e
  IsStmt depth (get p dev q r) = at w.GET p ▷ at (named dev) q ▷ IsRef depth r
  IsStmt depth (put p dev q e) = at w.PUT p ▷ at (named dev) q ▷ IsExpr 5 depth e
  IsStmt depth (wait p cond q limit number) =
      at w.WAIT p ▷ at (named cond) q ▷ a w.NO_LONGER_THAN ▷ IsConstant limit ▷ a w.COLON ▷ IsConstant number
  IsStmt depth (signal p cond q) = at w.SIGNAL p ▷ at (named cond) q
  IsStmt depth (broadcast p cond q) = at w.BROADCAST p ▷ at (named cond) q
  IsStmt depth (except p number) = at w.EXCEPT p ▷ IsConstant number
  IsStmt depth (assert p e) = at w.ASSERT p ▷ IsExpr 5 depth e

  pub AreStmts : {P : Type 0} → (depth : ℕ) → Stmts P → List (Tok P) → List (Tok P) → Type 0
  AreStmts depth no_stmts = nothing
  AreStmts depth (stmts s ss) = IsStmt depth s ▷ AreStmts depth ss
