-- No number of a text is cut off where it becomes an operand, and no exit stands outside a loop.
use Rattle.std.specs.Prelude.{◌≡◌, ℕ, suc, ◌+◌, Bool, true, T, List, [], ◌∷◌, Option, Some, None, ℤ, pos}
use Rattle.syntax_tree.specs.Plain.{Param, Expr, literal, truth, variable, element, call, minus, negation, paren, row, Exprs, no_exprs, exprs, Operands, no_operands, operand, Ref, whole, part, Stmt, assign, assign_entry, assign_empty, perform, perform_entry, when, when_else, loop, exit_when, get, put, wait, signal, broadcast, except, assert, Stmts, no_stmts, stmts, Program}
use Rattle.source_semantics.specs.Names.{constant_value, count_value, device_number}
use Rattle.source_semantics.specs.Store.{Range, range_of}
use Rattle.code_spec.specs.Layout.{Shape, single, array, Spot, Scope, spot_of, loops_in, loops}
use Rattle.code_spec.specs.Code.{constant_named}
use Rattle.code_spec.specs.Numbering.{Text, routine_in, entry_in, number_of}
use Rattle.code_spec.specs.Emits.{turns_of, condition_of, monitor_of}
use Rattle.codegen_spec.specs.Told.{fit, value_told, within}

abbrev pub Fit : ℤ → Type 0
Fit v = fit v ≡ v

abbrev pub ShapeFits : Shape → Type 0
ShapeFits single = Unit {0}
ShapeFits (array low len) = Fit low × Fit (pos len)

abbrev pub RangeFits : Option Range → Type 0
RangeFits None = Unit {0}
RangeFits (Some r) = Fit r.low × Fit r.high

abbrev pub SpotFits : Option Spot → Type 0
SpotFits None = Unit {0}
SpotFits (Some s) = Fit (pos s.place.word) × ShapeFits s.place.shape × RangeFits s.place.range

-- a call of what it names, if it names a routine: its number, and the arguments
abbrev pub CallFits : Program → Option Text → (List Param → Type 0) → Type 0
CallFits g None args = Unit {0}
CallFits g (Some t) args = Fit (pos (number_of g t)) × args t.routine.params

abbrev mutual
  pub ExprFits : Program → Scope → Expr → Type 0
  ExprFits g c (literal n) = Fit (pos n)
  ExprFits g c (truth b) = Unit {0}
  ExprFits g c (variable x) = SpotFits (spot_of g c x) × Fit (value_told (constant_named g x))
  ExprFits g c (element x e) = SpotFits (spot_of g c x) × ExprFits g c e
  ExprFits g c (call f es) = CallFits g (routine_in g c.owner f) (λ ps. ArgsFit g c es ps)
  ExprFits g c (minus e) = ExprFits g c e
  ExprFits g c (negation e) = ExprFits g c e
  ExprFits g c (paren e) = ExprFits g c e
  ExprFits g c (row e r) = ExprFits g c e × RowFits g c r

  pub RowFits : Program → Scope → Operands → Type 0
  RowFits g c no_operands = Unit {0}
  RowFits g c (operand op e r) = ExprFits g c e × RowFits g c r

  -- each argument, with the range of its parameter
  pub ArgsFit : Program → Scope → Exprs → List Param → Type 0
  ArgsFit g c no_exprs ps = Unit {0}
  ArgsFit g c (exprs e es) [] = Unit {0}
  ArgsFit g c (exprs e es) (p ∷ ps) =
      ExprFits g c e × RangeFits (range_of g p.kind) × ArgsFit g c es ps

abbrev pub RefFits : Program → Scope → Ref → Type 0
RefFits g c (whole x) = SpotFits (spot_of g c x)
RefFits g c (part x e) = SpotFits (spot_of g c x) × ExprFits g c e

-- whether a loop is around; the first loop of the statement has its variable at word w
abbrev mutual
  pub StmtFits : Program → Scope → Bool → ℕ → Stmt → Type 0
  StmtFits g c b w (assign r e) = RefFits g c r × ExprFits g c e
  StmtFits g c b w (put d e) = ExprFits g c e × Fit (pos (device_number g d))
  StmtFits g c b w (when e a) = ExprFits g c e × StmtsFit g c b w a
  StmtFits g c b w (when_else e a d) =
      ExprFits g c e × StmtsFit g c b w a × StmtsFit g c b (w + loops a) d
  StmtFits g c b w (loop x low high ss) =
      Fit (constant_value g low) × Fit (constant_value g high)
      × Fit (pos (turns_of (constant_value g low) (constant_value g high))) × Fit (pos w)
      × StmtsFit g (within c x w) true (suc w) ss
  StmtFits g c b w (exit_when e) = ExprFits g c e × T b
  StmtFits g c b w (assign_entry r m e es) =
      RefFits g c r × CallFits g (entry_in g m e) (λ ps. ArgsFit g c es ps)
  StmtFits g c b w (assign_empty r x) = RefFits g c r × Fit (pos (condition_of g c.owner x))
  StmtFits g c b w (perform f es) = CallFits g (routine_in g c.owner f) (λ ps. ArgsFit g c es ps)
  StmtFits g c b w (perform_entry m e es) = CallFits g (entry_in g m e) (λ ps. ArgsFit g c es ps)
  StmtFits g c b w (get d r) = RefFits g c r × Fit (pos (device_number g d))
  StmtFits g c b w (wait x limit number) =
      Fit (pos (condition_of g c.owner x)) × Fit (pos (count_value g limit))
      × Fit (pos (count_value g number)) × Fit (pos (monitor_of c.owner))
  StmtFits g c b w (signal x) = Fit (pos (condition_of g c.owner x))
  StmtFits g c b w (broadcast x) = Fit (pos (condition_of g c.owner x))
  StmtFits g c b w (except n) = Fit (pos (count_value g n))
  StmtFits g c b w (assert e) = ExprFits g c e

  pub StmtsFit : Program → Scope → Bool → ℕ → Stmts → Type 0
  StmtsFit g c b w no_stmts = Unit {0}
  StmtsFit g c b w (stmts s ss) = StmtFits g c b w s × StmtsFit g c b (w + loops_in s) ss
