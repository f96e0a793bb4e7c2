-- The names of constants, expressions and statements stand where the names among their tokens do.
use Rattle.std.proofs.Common.{ℕ, suc, true, false, [], ◌∷◌, ap, arith}
use Rattle.syntax_tree.specs.Plain.{Name, Op, or, and, equal, unequal, less, less_equal, greater, greater_equal, add, sub, mul, div, remainder}
use Rattle.syntax_tree.specs.Placed.{Constant, literal_constant, named_constant, Expr, literal, truth, variable, element, call, minus, negation, paren, row, Exprs, no_exprs, exprs, Operands, no_operands, operand, Ref, whole, part, Stmt, assign, assign_entry, assign_empty, perform, perform_entry, when, when_else, loop, exit_when, get, put, wait, signal, broadcast, except, assert, Stmts, no_stmts, stmts}
use Rattle.syntax_tree.specs.declared.place.Place.{Place}
use Rattle.syntax.specs.Words as w
use Rattle.syntax.specs.Words.{Word, named, number, Tok}
use Rattle.syntax.specs.ExprGrammar.{Unsigned, IsConstant, op_word, OfLevel, IsExpr, AreOperands, AreArgs, AreMoreArgs, InParens}
use Rattle.syntax.specs.StmtGrammar.{IsRef, IsStmt, AreStmts}
use Rattle.static_names.specs.declared.kind.NameUse.TheVariants as want_is
use Rattle.syntax_tree.specs.Parts.{same_place}
use Rattle.static_names.specs.Reach.{Site, inside, through}
use Rattle.static_names.specs.Occurrences.{declares, used, uses, constant_names, expr_names, exprs_names, operands_names, ref_names, loop_name, stmt_names, stmts_names}
use Rattle.wellformed_law.proofs.WellformedNamesCounts.{one}
use Rattle.wellformed_law.proofs.Parts.{named_at, Keeps, ◌▸◌, none, quiet_at, quiet, name, deeper}

constant-name : {z : Place} (here : Site) (n : Name) (p q : Place) → Keeps z (Unsigned (named n) p q) (λ more. uses here n q want_is.Constant ∷ more)
constant-name {z} here n p q = record {
  counts = λ ts us more t. let x = ap (named_at z) t.1 in let y = ap (λ r. one (same_place r z)) t.0 in omega arith;
}

constant-literal : {z : Place} (n : ℕ) (p q : Place) → Keeps z (Unsigned (number n) p q) (λ more. more)
constant-literal {z} n p q = record { counts = λ ts us more t. (quiet_at {z = z} (number n) p).counts ts us more t.1 }

pub constant-keeps : {z : Place} (here : Site) (c : Constant Place) → Keeps z (IsConstant c) (constant_names here c)
constant-keeps here (literal_constant p true n q) = quiet_at w.MINUS p ▸ quiet_at (number n) q
constant-keeps here (literal_constant p false n q) = constant-literal n p q
constant-keeps here (named_constant p true n q) = quiet_at w.MINUS p ▸ name n (uses here n q want_is.Constant)
constant-keeps here (named_constant p false n q) = constant-name here n p q

op-keeps : {z : Place} (level : ℕ) (op : Op) → Keeps z (OfLevel level op) (λ more. more)
op-keeps {z} level op = record { counts = λ ts us more t. (quiet {z = z} (op_word op)).counts ts us more t.1 }

mutual
  pub expr-keeps : {z : Place} (here : Site) (level depth : ℕ) (e : Expr Place) → Keeps z (IsExpr level depth e) (expr_names here e)
  expr-keeps here level depth (literal p n) = quiet_at (number n) p
  expr-keeps here level depth (truth p true) = quiet_at w.TRUE p
  expr-keeps here level depth (truth p false) = quiet_at w.FALSE p
  expr-keeps here level depth (variable p n) = name n (uses here n p want_is.Value)
  expr-keeps here level depth (element p n i) = name n (uses here n p want_is.Value) ▸ deeper depth (λ d. quiet w.LEFT_BRACKET ▸ expr-keeps here 5 d i ▸ quiet w.RIGHT_BRACKET)
  expr-keeps here level depth (call p n es) = name n (uses here n p want_is.Routine) ▸ deeper depth (λ d. quiet w.LEFT_PAREN ▸ args-keep here d es ▸ quiet w.RIGHT_PAREN)
  expr-keeps here level depth (minus p e) = deeper depth (λ d. quiet_at w.MINUS p ▸ expr-keeps here 0 d e)
  expr-keeps here level depth (negation p e) = deeper depth (λ d. quiet_at w.NOT p ▸ expr-keeps here 0 d e)
  expr-keeps here level depth (paren p e) = deeper depth (λ d. quiet_at w.LEFT_PAREN p ▸ expr-keeps here 5 d e ▸ quiet w.RIGHT_PAREN)
  expr-keeps {z} here level depth (row e rs) = record {
    counts = λ ts us more t. let both = expr-keeps {z = z} here t.0 depth e ▸ operands-keep {z = z} here t.0 depth rs in both.counts ts us more t.3;
  }

  operands-keep : {z : Place} (here : Site) (level depth : ℕ) (rs : Operands Place) → Keeps z (AreOperands level depth rs) (operands_names here rs)
  operands-keep here level depth no_operands = none
  operands-keep here level depth (operand op e rs) = op-keeps (suc level) op ▸ expr-keeps here level depth e ▸ operands-keep here level depth rs

  args-keep : {z : Place} (here : Site) (depth : ℕ) (es : Exprs Place) → Keeps z (AreArgs depth es) (exprs_names here es)
  args-keep here depth no_exprs = none
  args-keep here depth (exprs e es) = expr-keeps here 5 depth e ▸ more-keep here depth es

  more-keep : {z : Place} (here : Site) (depth : ℕ) (es : Exprs Place) → Keeps z (AreMoreArgs depth es) (exprs_names here es)
  more-keep here depth no_exprs = none
  more-keep here depth (exprs e es) = quiet w.COMMA ▸ expr-keeps here 5 depth e ▸ more-keep here depth es

parens-keep : {z : Place} (here : Site) (depth : ℕ) (es : Exprs Place) → Keeps z (InParens depth es) (exprs_names here es)
parens-keep here depth es = deeper depth (λ d. quiet w.LEFT_PAREN ▸ args-keep here d es ▸ quiet w.RIGHT_PAREN)

ref-keeps : {z : Place} (here : Site) (depth : ℕ) (r : Ref Place) → Keeps z (IsRef depth r) (ref_names here r)
ref-keeps here depth (whole p n) = name n (uses here n p want_is.Target)
ref-keeps here depth (part p n i) = name n (uses here n p want_is.Target) ▸ deeper depth (λ d. quiet w.LEFT_BRACKET ▸ expr-keeps here 5 d i ▸ quiet w.RIGHT_BRACKET)

mutual
  pub stmt-keeps : {z : Place} (here : Site) (depth : ℕ) (s : Stmt Place) → Keeps z (IsStmt depth s) (stmt_names here s)
  stmt-keeps here depth (assign r e) = ref-keeps here depth r ▸ quiet w.ASSIGN ▸ expr-keeps here 5 depth e
  stmt-keeps here depth (assign_entry r mon p entry q es) = ref-keeps here depth r ▸ quiet w.ASSIGN ▸ name mon (uses here mon p want_is.Monitor) ▸ quiet w.DOT ▸ name entry (used entry q want_is.Entry (through here mon entry)) ▸ parens-keep here depth es
  stmt-keeps here depth (assign_empty r cond p) = ref-keeps here depth r ▸ quiet w.ASSIGN ▸ quiet w.EMPTY ▸ name cond (uses here cond p want_is.Condition)
  stmt-keeps here depth (perform p n es) = name n (uses here n p want_is.Routine) ▸ parens-keep here depth es
  stmt-keeps here depth (perform_entry p mon entry q es) = name mon (uses here mon p want_is.Monitor) ▸ quiet w.DOT ▸ name entry (used entry q want_is.Entry (through here mon entry)) ▸ parens-keep here depth es
  stmt-keeps here depth (when p e ss) = deeper depth (λ d. quiet_at w.IF p ▸ expr-keeps here 5 d e ▸ quiet w.THEN ▸ stmts-keep here d ss ▸ quiet w.END ▸ quiet w.IF)
  stmt-keeps here depth (when_else p e ss others) = deeper depth (λ d. quiet_at w.IF p ▸ expr-keeps here 5 d e ▸ quiet w.THEN ▸ stmts-keep here d ss ▸ quiet w.ELSE ▸ stmts-keep here d others ▸ quiet w.END ▸ quiet w.IF)
  stmt-keeps here depth (loop p n q low high ss) = deeper depth (λ d. quiet_at w.FOR p ▸ name n (declares n q _) ▸ quiet w.COLON ▸ constant-keeps here low ▸ quiet w.RANGE ▸ constant-keeps here high ▸ quiet w.DO ▸ stmts-keep (inside (loop_name n q ∷ []) here) d ss ▸ quiet w.END ▸ quiet w.FOR)
  stmt-keeps here depth (exit_when p e) = quiet_at w.EXIT p ▸ quiet w.WHEN ▸ expr-keeps here 5 depth e
  stmt-keeps here depth (get p dev q r) = quiet_at w.GET p ▸ name dev (uses here dev q want_is.Device) ▸ ref-keeps here depth r
  stmt-keeps here depth (put p dev q e) = quiet_at w.PUT p ▸ name dev (uses here dev q want_is.Device) ▸ expr-keeps here 5 depth e
  stmt-keeps here depth (wait p cond q limit c) = quiet_at w.WAIT p ▸ name cond (uses here cond q want_is.Condition) ▸ quiet w.NO_LONGER_THAN ▸ constant-keeps here limit ▸ quiet w.COLON ▸ constant-keeps here c
  stmt-keeps here depth (signal p cond q) = quiet_at w.SIGNAL p ▸ name cond (uses here cond q want_is.Condition)
  stmt-keeps here depth (broadcast p cond q) = quiet_at w.BROADCAST p ▸ name cond (uses here cond q want_is.Condition)
  stmt-keeps here depth (except p c) = quiet_at w.EXCEPT p ▸ constant-keeps here c
  stmt-keeps here depth (assert p e) = quiet_at w.ASSERT p ▸ expr-keeps here 5 depth e

  pub stmts-keep : {z : Place} (here : Site) (depth : ℕ) (ss : Stmts Place) → Keeps z (AreStmts depth ss) (stmts_names here ss)
  stmts-keep here depth no_stmts = none
  stmts-keep here depth (stmts s ss) = stmt-keeps here depth s ▸ stmts-keep here depth ss
