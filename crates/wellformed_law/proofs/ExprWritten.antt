-- Where the literals among the tokens are words, those of constants, expressions and statements are.
use Rattle.std.proofs.Common.{ℕ, suc, true, false}
use Rattle.syntax_tree.specs.Plain.{Op}
use Rattle.syntax_tree.specs.Placed.{Constant, literal_constant, named_constant, Expr, literal, truth, variable, element, call, minus, negation, paren, row, Exprs, no_exprs, exprs, Operands, no_operands, operand, Ref, whole, part, Stmt, assign, assign_entry, assign_empty, perform, perform_entry, when, when_else, loop, exit_when, get, put, wait, signal, broadcast, except, assert, Stmts, no_stmts, stmts}
use Rattle.syntax_tree.specs.declared.place.Place.{Place}
use Rattle.syntax.specs.Words as w
use Rattle.syntax.specs.Words.{Word, named, number, Tok}
use Rattle.syntax.specs.ExprGrammar.{IsConstant, op_word, OfLevel, IsExpr, AreOperands, AreArgs, AreMoreArgs, InParens}
use Rattle.syntax.specs.StmtGrammar.{IsRef, IsStmt, AreStmts}
use Rattle.static_semantics.specs.Written.{ConstantWritten, ExprWritten, ExprsWritten, OperandsWritten, RefWritten, StmtWritten, StmtsWritten}
use Rattle.wellformed_law.proofs.Given.{Gives, ◌▸◌, ◌▹◌, ◌◃◌, three, none, any_at, any, literal_at, deeper}

pub constant-written : (c : Constant Place) → Gives (IsConstant c) (ConstantWritten c)
constant-written (literal_constant p true n q) = any_at w.MINUS p ▹ literal_at n q
constant-written (literal_constant p false n q) = record { from = λ ts us t fit. (literal_at n p).from ts us t.1 fit }
constant-written (named_constant p true n q) = any_at w.MINUS p ▹ any_at (named n) q
constant-written (named_constant p false n q) = record { from = λ ts us t fit. (any_at (named n) p).from ts us t.1 fit }

op-written : (level : ℕ) (op : Op) → Gives (OfLevel level op) (Unit {0})
op-written level op = record { from = λ ts us t fit. (any (op_word op)).from ts us t.1 fit }

mutual
  pub expr-written : (level depth : ℕ) (e : Expr Place) → Gives (IsExpr level depth e) (ExprWritten e)
  expr-written level depth (literal p n) = literal_at n p
  expr-written level depth (truth p true) = any_at w.TRUE p
  expr-written level depth (truth p false) = any_at w.FALSE p
  expr-written level depth (variable p n) = any_at (named n) p
  expr-written level depth (element p n i) = any_at (named n) p ▹ deeper depth (λ d. any w.LEFT_BRACKET ▹ expr-written 5 d i ◃ any w.RIGHT_BRACKET)
  expr-written level depth (call p n es) = any_at (named n) p ▹ deeper depth (λ d. any w.LEFT_PAREN ▹ args-written d es ◃ any w.RIGHT_PAREN)
  expr-written level depth (minus p e) = deeper depth (λ d. any_at w.MINUS p ▹ expr-written 0 d e)
  expr-written level depth (negation p e) = deeper depth (λ d. any_at w.NOT p ▹ expr-written 0 d e)
  expr-written level depth (paren p e) = deeper depth (λ d. any_at w.LEFT_PAREN p ▹ expr-written 5 d e ◃ any w.RIGHT_PAREN)
  expr-written level depth (row e rs) = record { from = λ ts us t fit. (expr-written t.0 depth e ▸ operands-written t.0 depth rs).from ts us t.3 fit }

  operands-written : (level depth : ℕ) (rs : Operands Place) → Gives (AreOperands level depth rs) (OperandsWritten rs)
  operands-written level depth no_operands = none
  operands-written level depth (operand op e rs) = op-written (suc level) op ▹ expr-written level depth e ▸ operands-written level depth rs

  args-written : (depth : ℕ) (es : Exprs Place) → Gives (AreArgs depth es) (ExprsWritten es)
  args-written depth no_exprs = none
  args-written depth (exprs e es) = expr-written 5 depth e ▸ more-written depth es

  more-written : (depth : ℕ) (es : Exprs Place) → Gives (AreMoreArgs depth es) (ExprsWritten es)
  more-written depth no_exprs = none
  more-written depth (exprs e es) = any w.COMMA ▹ expr-written 5 depth e ▸ more-written depth es

parens-written : (depth : ℕ) (es : Exprs Place) → Gives (InParens depth es) (ExprsWritten es)
parens-written depth es = deeper depth (λ d. any w.LEFT_PAREN ▹ args-written d es ◃ any w.RIGHT_PAREN)

ref-written : (depth : ℕ) (r : Ref Place) → Gives (IsRef depth r) (RefWritten r)
ref-written depth (whole p n) = any_at (named n) p
ref-written depth (part p n i) = any_at (named n) p ▹ deeper depth (λ d. any w.LEFT_BRACKET ▹ expr-written 5 d i ◃ any w.RIGHT_BRACKET)

mutual
  pub stmt-written : (depth : ℕ) (s : Stmt Place) → Gives (IsStmt depth s) (StmtWritten s)
  stmt-written depth (assign r e) = ref-written depth r ▸ any w.ASSIGN ▹ expr-written 5 depth e
  stmt-written depth (assign_entry r mon p entry q es) = ref-written depth r ▸ any w.ASSIGN ▹ any_at (named mon) p ▹ any w.DOT ▹ any_at (named entry) q ▹ parens-written depth es
  stmt-written depth (assign_empty r cond p) = ref-written depth r ◃ any w.ASSIGN ▹ any w.EMPTY ▹ any_at (named cond) p
  stmt-written depth (perform p n es) = any_at (named n) p ▹ parens-written depth es
  stmt-written depth (perform_entry p mon entry q es) = any_at (named mon) p ▹ any w.DOT ▹ any_at (named entry) q ▹ parens-written depth es
  stmt-written depth (when p e ss) = deeper depth (λ d. any_at w.IF p ▹ expr-written 5 d e ▸ any w.THEN ▹ stmts-written d ss ◃ any w.END ▹ any w.IF)
  stmt-written depth (when_else p e ss others) =
      three (deeper depth (λ d. any_at w.IF p ▹ expr-written 5 d e ▸ any w.THEN ▹ stmts-written d ss ▸ any w.ELSE ▹ stmts-written d others ◃ any w.END ▹ any w.IF))
  stmt-written depth (loop p n q low high ss) =
      three (deeper depth (λ d. any_at w.FOR p ▹ any_at (named n) q ▹ any w.COLON ▹ constant-written low ▸ any w.RANGE ▹ constant-written high ▸ any w.DO ▹ stmts-written d ss ◃ any w.END ▹ any w.FOR))
  stmt-written depth (exit_when p e) = any_at w.EXIT p ▹ any w.WHEN ▹ expr-written 5 depth e
  stmt-written depth (get p dev q r) = any_at w.GET p ▹ any_at (named dev) q ▹ ref-written depth r
  stmt-written depth (put p dev q e) = any_at w.PUT p ▹ any_at (named dev) q ▹ expr-written 5 depth e
  stmt-written depth (wait p cond q limit c) = any_at w.WAIT p ▹ any_at (named cond) q ▹ any w.NO_LONGER_THAN ▹ constant-written limit ▸ any w.COLON ▹ constant-written c
  stmt-written depth (signal p cond q) = any_at w.SIGNAL p ▹ any_at (named cond) q
  stmt-written depth (broadcast p cond q) = any_at w.BROADCAST p ▹ any_at (named cond) q
  stmt-written depth (except p c) = any_at w.EXCEPT p ▹ constant-written c
  stmt-written depth (assert p e) = any_at w.ASSERT p ▹ expr-written 5 depth e

  pub stmts-written : (depth : ℕ) (ss : Stmts Place) → Gives (AreStmts depth ss) (StmtsWritten ss)
  stmts-written depth no_stmts = none
  stmts-written depth (stmts s ss) = stmt-written depth s ▸ stmts-written depth ss
