-- What the static rules give of a text where it stands, as far as what its code comes to goes:
-- names mean variables of the right shape, calls mean routines that are known, with as many
-- arguments as parameters.
use Rattle.std.specs.Prelude.{◌≡◌, ℕ, suc, false, List, [], ◌∷◌, Option, Some, None, is_some, slice_get}
use Rattle.syntax_tree.specs.Plain.{Param, Expr, literal, truth, variable, element, call, minus, negation, paren, row, Exprs, no_exprs, exprs, Operands, no_operands, operand, Ref, whole, part, Stmt, assign, assign_entry, assign_empty, perform, perform_entry, when, when_else, loop, exit_when, get, put, wait, signal, broadcast, except, assert, Stmts, no_stmts, stmts, Answers, Handler, Process, Program}
use Rattle.source_semantics.specs.Names.{constant_value}
use Rattle.code_spec.specs.Layout.{by_monitor, Spot, Scope, spot_of, routine_words, count}
use Rattle.code_spec.specs.Numbering.{Text, routine_in, entry_in, number_of}
use Rattle.code_spec.specs.Emits.{inner, turns_of}
use Rattle.code_spec.specs.Compiled.{routine_scope, process_scope}
use Rattle.code_spec.specs.Proper.{IsArray, IsSingle}
use Rattle.valid_image.specs.Found.{Known}
use Rattle.valid_image.specs.Tables.{count as count_of}
use Rattle.code_cost_spec.specs.Names.{Calls}

-- the table's row of a routine tells what is known of it
pub record IsKnown (g : Program) (known : List Known) (k : Calls) (t : Text) : Type 0 where
  pub known_as : Known
  pub there : slice_get known (number_of g t) ≡ Some known_as
  pub params : known_as.params ≡ count t.routine.params
  pub results : known_as.results ≡ count_of (is_some t.routine.answers)
  pub locals : known_as.locals ≡ routine_words g t.routine
  pub height : known_as.depth ≡ k.height t
  pub cost : known_as.cost ≡ k.cost t

-- it may be assigned to: it is no loop's variable
abbrev pub IsFree : Option Spot → Type 0
IsFree None = ⊥
IsFree (Some s) = s.place.fixed ≡ false

abbrev mutual
  pub SoundExpr : Program → (Text → Type 0) → Scope → Expr → Type 0
  SoundExpr g may c (literal v) = Unit {0}
  SoundExpr g may c (truth b) = Unit {0}
  SoundExpr g may c (variable x) = Unit {0}
  SoundExpr g may c (element x e) = SoundExpr g may c e × IsArray (spot_of g c x)
  SoundExpr g may c (call f es) =
      (t : Text) × (a : Answers) × (routine_in g c.owner f ≡ Some t) × may t × (t.routine.answers ≡ Some a) × SoundArgs g may c es t.routine.params
  SoundExpr g may c (minus e) = SoundExpr g may c e
  SoundExpr g may c (negation e) = SoundExpr g may c e
  SoundExpr g may c (paren e) = SoundExpr g may c e
  SoundExpr g may c (row e r) = SoundExpr g may c e × SoundRow g may c r

  pub SoundRow : Program → (Text → Type 0) → Scope → Operands → Type 0
  SoundRow g may c no_operands = Unit {0}
  SoundRow g may c (operand op e r) = SoundExpr g may c e × SoundRow g may c r

  -- as many arguments as parameters
  pub SoundArgs : Program → (Text → Type 0) → Scope → Exprs → List Param → Type 0
  SoundArgs g may c no_exprs [] = Unit {0}
  SoundArgs g may c no_exprs (p ∷ ps) = ⊥
  SoundArgs g may c (exprs e es) [] = ⊥
  SoundArgs g may c (exprs e es) (p ∷ ps) = SoundExpr g may c e × SoundArgs g may c es ps

abbrev pub SoundIndex : Program → (Text → Type 0) → Scope → Ref → Type 0
SoundIndex g may c (whole x) = Unit {0}
SoundIndex g may c (part x e) = SoundExpr g may c e

-- what is assigned to
abbrev pub SoundRef : Program → Scope → Ref → Type 0
SoundRef g c (whole x) = IsSingle (spot_of g c x) × IsFree (spot_of g c x)
SoundRef g c (part x e) = IsArray (spot_of g c x) × IsFree (spot_of g c x)

abbrev mutual
  pub Sound : Program → (Text → Type 0) → Scope → Stmt → Type 0
  Sound g may c (assign r e) = SoundIndex g may c r × SoundRef g c r × SoundExpr g may c e
  Sound g may c (assign_entry r m en es) =
      SoundIndex g may c r × SoundRef g c r
      × ((t : Text) × (a : Answers) × (entry_in g m en ≡ Some t) × may t × (t.routine.answers ≡ Some a) × SoundArgs g may c es t.routine.params)
  Sound g may c (assign_empty r x) = SoundIndex g may c r × SoundRef g c r
  Sound g may c (perform f es) = (t : Text) × (routine_in g c.owner f ≡ Some t) × may t × (t.routine.answers ≡ None) × SoundArgs g may c es t.routine.params
  Sound g may c (perform_entry m en es) = (t : Text) × (entry_in g m en ≡ Some t) × may t × (t.routine.answers ≡ None) × SoundArgs g may c es t.routine.params
  Sound g may c (when e a) = SoundExpr g may c e × SoundAll g may c a
  Sound g may c (when_else e a b) = SoundExpr g may c e × SoundAll g may c a × SoundAll g may c b
  Sound g may c (loop x low high ss) =
      ((j : ℕ) × (turns_of (constant_value g low) (constant_value g high) ≡ suc j)) × ((w : ℕ) (q : ℕ) → SoundAll g may (inner c x w q) ss)
  Sound g may c (exit_when e) = SoundExpr g may c e
  Sound g may c (get d r) = SoundIndex g may c r × SoundRef g c r
  Sound g may c (put d e) = SoundExpr g may c e
  Sound g may c (wait x limit number) = (m : ℕ) × (c.owner ≡ by_monitor m)
  Sound g may c (signal x) = Unit {0}
  Sound g may c (broadcast x) = Unit {0}
  Sound g may c (except e) = Unit {0}
  Sound g may c (assert e) = SoundExpr g may c e

  pub SoundAll : Program → (Text → Type 0) → Scope → Stmts → Type 0
  SoundAll g may c no_stmts = Unit {0}
  SoundAll g may c (stmts s ss) = Sound g may c s × SoundAll g may c ss

abbrev pub SoundAnswers : Program → (Text → Type 0) → Scope → Option Answers → Type 0
SoundAnswers g may c None = Unit {0}
SoundAnswers g may c (Some a) = SoundExpr g may c a.value

-- ---- routines and processes

-- a routine where it stands
abbrev pub SoundRoutine : Program → (Text → Type 0) → Text → Type 0
SoundRoutine g may t = SoundAll g may (routine_scope g t) t.routine.body × SoundAnswers g may (routine_scope g t) t.routine.answers

abbrev pub SoundHandler : Program → (Text → Type 0) → Scope → Option Handler → Type 0
SoundHandler g may c None = Unit {0}
SoundHandler g may c (Some h) = SoundAll g may c h.body

abbrev pub SoundProcess : Program → (Text → Type 0) → ℕ → Process → Type 0
SoundProcess g may j p = SoundAll g may (process_scope g j p) p.body × SoundHandler g may (process_scope g j p) p.handler
