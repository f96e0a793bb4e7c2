-- How deep calls can be nested: each routine has a level, above that of each routine that its text
-- calls.
use Rattle.std.specs.Prelude.{◌≡◌, ℕ, ◌<◌, Option, Some, None}
use Rattle.syntax_tree.specs.Plain.{Name, Expr, literal, truth, variable, element, call, minus, negation, paren, row, Exprs, no_exprs, exprs, Operands, no_operands, operand, Ref, whole, part, Stmt, assign, assign_entry, assign_empty, perform, perform_entry, when, when_else, loop, exit_when, get, put, wait, signal, broadcast, except, assert, Stmts, no_stmts, stmts, Answers, Process, Program}
use Rattle.source_semantics.specs.Names.{routine_count}
use Rattle.source_semantics.specs.Run.{Found, Memory, Calls, routine_named}

-- each call in an expression is of a routine below the level
abbrev mutual
  pub ExprBelow : (Name → ℕ) → ℕ → Expr → Type 0
  ExprBelow level n (literal v) = Unit {0}
  ExprBelow level n (truth b) = Unit {0}
  ExprBelow level n (variable x) = Unit {0}
  ExprBelow level n (element x e) = ExprBelow level n e
  ExprBelow level n (call f es) = (level f < n) × ExprsBelow level n es
  ExprBelow level n (minus e) = ExprBelow level n e
  ExprBelow level n (negation e) = ExprBelow level n e
  ExprBelow level n (paren e) = ExprBelow level n e
  ExprBelow level n (row e r) = ExprBelow level n e × OperandsBelow level n r

  pub ExprsBelow : (Name → ℕ) → ℕ → Exprs → Type 0
  ExprsBelow level n no_exprs = Unit {0}
  ExprsBelow level n (exprs e es) = ExprBelow level n e × ExprsBelow level n es

  pub OperandsBelow : (Name → ℕ) → ℕ → Operands → Type 0
  OperandsBelow level n no_operands = Unit {0}
  OperandsBelow level n (operand op e r) = ExprBelow level n e × OperandsBelow level n r

abbrev pub RefBelow : (Name → ℕ) → ℕ → Ref → Type 0
RefBelow level n (whole x) = Unit {0}
RefBelow level n (part x e) = ExprBelow level n e

-- each call in a statement is of a routine below the level
abbrev mutual
  pub StmtBelow : (Name → ℕ) → ℕ → Stmt → Type 0
  StmtBelow level n (assign r e) = RefBelow level n r × ExprBelow level n e
  StmtBelow level n (assign_entry r m e es) = RefBelow level n r × ExprsBelow level n es
  StmtBelow level n (assign_empty r x) = RefBelow level n r
  StmtBelow level n (perform f es) = (level f < n) × ExprsBelow level n es
  StmtBelow level n (perform_entry m e es) = ExprsBelow level n es
  StmtBelow level n (when e a) = ExprBelow level n e × StmtsBelow level n a
  StmtBelow level n (when_else e a b) = ExprBelow level n e × StmtsBelow level n a × StmtsBelow level n b
  StmtBelow level n (loop i low high ss) = StmtsBelow level n ss
  StmtBelow level n (exit_when e) = ExprBelow level n e
  StmtBelow level n (get d r) = RefBelow level n r
  StmtBelow level n (put d e) = ExprBelow level n e
  StmtBelow level n (wait x limit number) = Unit {0}
  StmtBelow level n (signal x) = Unit {0}
  StmtBelow level n (broadcast x) = Unit {0}
  StmtBelow level n (except c) = Unit {0}
  StmtBelow level n (assert e) = ExprBelow level n e

  pub StmtsBelow : (Name → ℕ) → ℕ → Stmts → Type 0
  StmtsBelow level n no_stmts = Unit {0}
  StmtsBelow level n (stmts s ss) = StmtBelow level n s × StmtsBelow level n ss

abbrev pub AnswersBelow : (Name → ℕ) → ℕ → Option Answers → Type 0
AnswersBelow level n None = Unit {0}
AnswersBelow level n (Some a) = ExprBelow level n a.value

-- the routines in reach of a process do not reach themselves: each calls those of lower levels
-- alone
pub record Levels (g : Program) (p : Process) (level : Name → ℕ) : Type 0 where
  pub body : (f : Name) (r : Found) → routine_named g p f ≡ Some r → StmtsBelow level (level f) r.routine.body
  pub answers : (f : Name) (r : Found) → routine_named g p f ≡ Some r → AnswersBelow level (level f) r.routine.answers
  pub few : (f : Name) (r : Found) → routine_named g p f ≡ Some r → level f < routine_count g

-- two ways of calling come to the same for the routines below a level
pub record Agree (g : Program) (p : Process) (level : Name → ℕ) (n : ℕ) (k l : Calls) : Type 0 where
  pub answer : (f : Name) (r : Found) → routine_named g p f ≡ Some r → level f < n → (m : Memory) → k.answer r m ≡ l.answer r m
  pub run : (f : Name) (r : Found) → routine_named g p f ≡ Some r → level f < n → (m : Memory) → k.run r m ≡ l.run r m
