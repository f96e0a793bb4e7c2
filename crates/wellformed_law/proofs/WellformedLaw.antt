-- What is known of a program that keeps to all rules: its names, texts and limits.
use Rattle.std.proofs.Common.{ℕ, Option, []}
use Rattle.std.specs.Prelude.{Contains}
use Rattle.syntax_tree.specs.Plain.{Name}
use Rattle.syntax_tree.specs.Placed.{Constant, Scalar, Expr, Stmts, Process, process, Prog, plain, plain_constant, plain_scalar, plain_expr, plain_stmts, plain_process}
use Rattle.syntax_tree.specs.declared.place.Place.{Place}
use Rattle.static_names.specs.Reach.{Site}
use Rattle.static_names.specs.Occurrences.{constant_names, expr_names, stmts_names}
use Rattle.static_declarations.specs.declared.home.Where.{Where}
use Rattle.static_declarations.specs.Parts.{answer, stmts_parts, parts}
use Rattle.static_types.specs.Rules.{StatementFails}
use Rattle.source_semantics.specs.Names.{constants}
use Rattle.source_semantics.specs.Nesting.{Levels}
use Rattle.static_semantics.specs.Here.{Here, scalar_sort}
use Rattle.static_semantics.specs.Typed.{IsOf}
use Rattle.static_semantics.specs.Statements.{IsConstant, AllFit}
use Rattle.static_semantics.specs.Places.{StandApart, NamesFound}
use Rattle.static_semantics.specs.Written.{ConstantWritten, ExprWritten, StmtsWritten, IsWritten}
use Rattle.static_semantics.specs.Things.{ThingsKnown}
use Rattle.static_semantics.specs.Mirrors.{NamesListed, PartsListed, Mirrors, AreMirrored}
use Rattle.static_semantics.specs.Judged.{IsKept, IsPlaced, AreNames, AreParts}
use Rattle.wellformed_law.proofs.Rules.{Limits}
use Rattle.wellformed_law.proofs.Constants.{constants_small, Reaches, is_constant}

pub record Laws (g : Prog Place) : Type 0 where
  pub apart : StandApart g
  pub written : IsWritten g
  pub found : NamesFound g
  pub things : ThingsKnown g
  pub all_names : NamesListed g
  pub all_parts : PartsListed g
  pub mirrored : (p : Process Place) → Contains g.decls (process p) → AreMirrored g p
  pub answers : (p : Process Place) (at : Option Place) (site : Site) (c : Here) (name : Place) (s : Scalar Place) (e : Expr Place) → IsKept g → Mirrors g p at site c
      → ExprWritten e → AreNames g (expr_names site e []) → Contains (parts g) (answer name s e) → IsOf c (scalar_sort (plain_scalar s)) (plain_expr e)
  pub bodies : (p : Process Place) (at : Option Place) (site : Site) (c : Here) (w : Where) (ss : Stmts Place) → IsKept g → Mirrors g p at site c → IsPlaced w at c
      → StmtsWritten ss → AreNames g (stmts_names site ss []) → AreParts g (stmts_parts w ss []) → AllFit c (plain_stmts ss)
  pub levels : (p : Process Place) → Contains g.decls (process p) → (level : Name → ℕ) × Levels (plain g) (plain_process p) level
  pub statements : (number : ℕ) (place : Place) → ¬ StatementFails g number place
  pub limits : Limits g

pub kept : (g : Prog Place) → Laws g → IsKept g
kept g l = record { names = l.found; things = l.things; constants = constants_small g l.written; statements = l.statements }

-- a constant is a word that is known
pub constant_fits : (g : Prog Place) → Laws g → (site : Site) → Reaches (constants (plain g)) site → (k : Constant Place) → ConstantWritten k → AreNames g (constant_names site k [])
    → IsConstant (constants (plain g)) (plain_constant k)
constant_fits g l site reaches k w names = is_constant g l.found (constants (plain g)) (constants_small g l.written) site reaches k w names
