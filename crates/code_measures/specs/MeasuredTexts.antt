-- What the measures of a program's texts are: their defined costs, heights and lengths, as far as
-- they are counted.
use Rattle.std.specs.Prelude.{◌≡◌, ℕ, List}
use Rattle.syntax_tree.specs.Plain.{Expr, Stmt, no_stmts, when, when_else, loop, Stmts, stmts, Program}
use Rattle.base.specs.Capped.{cap}
use Rattle.base.specs.declared.capped.Cost.{Cost}
use Rattle.source_semantics.specs.Names.{constant_value}
use Rattle.valid_image.specs.Found.{amount}
use Rattle.code_spec.specs.Layout.{Scope, routine_words}
use Rattle.code_spec.specs.Numbering.{Text, number_of}
use Rattle.code_cost_spec.specs.Names.{Calls, names_of}
use Rattle.code_cost_spec.specs.Costs.{expr_cost, stmts_cost}
use Rattle.code_cost_spec.specs.Heights.{expr_height, stmts_height}
use Rattle.code_cost_spec.specs.Lengths.{expr_length, stmts_length}
use Rattle.code_measures.specs.Sound.{SoundExpr, SoundAll}
use Rattle.codegen_spec.specs.Told.{fit}
use Rattle.code_cost.specs.declared.measure.Measure.{Measure}
use Rattle.code_cost.specs.declared.measure.RoutineMeasure.{RoutineMeasure}
use Rattle.code_cost.specs.Sums.{held, row_at, nothing}
use Rattle.code_cost.specs.Forms.{expr_size, stmts_size}

-- a cost, a height and a length, each up to where it is counted
abbrev pub measured : Cost → (height length : ℕ) → Measure
measured c h n = record { cost = amount (cap c.run) (cap c.susp) (cap c.waits); height = held h; length = held n }

-- the row of a routine tells its cost, its height and the words of its locals
pub record IsRow (g : Program) (rows : List RoutineMeasure) (k : Calls) (t : Text) : Type 0 where
  pub run : (row_at rows (number_of g t)).cost.run ≡ cap (k.cost t).run
  pub susp : (row_at rows (number_of g t)).cost.susp ≡ cap (k.cost t).susp
  pub waits : (row_at rows (number_of g t)).cost.waits ≡ cap (k.cost t).waits
  pub height : (row_at rows (number_of g t)).height ≡ held (k.height t)
  pub words : (row_at rows (number_of g t)).words ≡ held (routine_words g t.routine)

-- the bounds of each loop are numbers of 32 bits
abbrev mutual
  pub BoundsFit : Program → Stmt → Type 0
  BoundsFit g (when e a) = AllBoundsFit g a
  BoundsFit g (when_else e a b) = AllBoundsFit g a × AllBoundsFit g b
  BoundsFit g (loop x low high ss) = (fit (constant_value g low) ≡ constant_value g low) × (fit (constant_value g high) ≡ constant_value g high) × AllBoundsFit g ss
  BoundsFit g _ = Unit {0}

  pub AllBoundsFit : Program → Stmts → Type 0
  AllBoundsFit g no_stmts = Unit {0}
  AllBoundsFit g (stmts s ss) = BoundsFit g s × AllBoundsFit g ss

-- The law: the measure of an expression that means what it should, where the rows tell of all that
-- it calls.
abbrev pub ExpressionsAreMeasured : Type 0
ExpressionsAreMeasured = (g : Program) (rows : List RoutineMeasure) (k : Calls) (c : Scope) (e : Expr) → SoundExpr g (λ t. IsRow g rows k t) c e
    → expr_size g c rows e ≡ measured (expr_cost g (names_of g c) k e) (expr_height g c.owner k e) (expr_length g c.owner e)

-- The law: the measure of statements.
abbrev pub StatementsAreMeasured : Type 0
StatementsAreMeasured = (g : Program) (rows : List RoutineMeasure) (k : Calls) (c : Scope) (ss : Stmts) → SoundAll g (λ t. IsRow g rows k t) c ss → AllBoundsFit g ss
    → stmts_size g c rows nothing ss ≡ measured (stmts_cost g (names_of g c) k ss) (stmts_height g c.owner k ss) (stmts_length g (names_of g c) ss)
