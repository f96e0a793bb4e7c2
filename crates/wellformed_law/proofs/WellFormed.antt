-- Programs that keep to all static rules are well formed.
use Rattle.std.proofs.Common.{inl, inr, refl}
use Rattle.std.specs.Prelude.{ℕ, Option, [], Contains}
use Rattle.syntax_tree.specs.Plain.{Name}
use Rattle.syntax_tree.specs.Placed.{Scalar, Expr, Stmts, Process, process, Prog, plain, plain_scalar, plain_expr, plain_process, plain_stmts}
use Rattle.syntax_tree.specs.declared.place.Place.{Place}
use Rattle.static_names.specs.Reach.{Site}
use Rattle.static_names.specs.Occurrences.{expr_names, stmts_names}
use Rattle.static_names.specs.Resolved.{IsRead, IsNamed}
use Rattle.static_declarations.specs.declared.home.Where.{Where}
use Rattle.static_declarations.specs.Parts.{answer, stmts_parts, parts}
use Rattle.static_calls.specs.Reaching.{ReachesItself}
use Rattle.static_semantics.specs.Static.{IsChecked}
use Rattle.wellformed_law.specs.Levels.{HasPlaceLevels}
use Rattle.source_semantics.specs.Nesting.{Levels}
use Rattle.static_semantics.specs.Here.{Here, scalar_sort}
use Rattle.static_semantics.specs.Typed.{IsOf}
use Rattle.static_semantics.specs.Statements.{AllFit}
use Rattle.static_semantics.specs.WellFormed.{IsWellFormed}
use Rattle.static_semantics.specs.Places.{StandApart, NamesFound}
use Rattle.static_semantics.specs.Written.{ExprWritten, StmtsWritten, IsWritten}
use Rattle.static_semantics.specs.Things.{ThingsKnown}
use Rattle.static_semantics.specs.Mirrors.{NamesListed, PartsListed, Mirrors, AreMirrored}
use Rattle.static_semantics.specs.Judged.{IsKept, IsPlaced, AreNames, AreParts}
use Rattle.wellformed_law.proofs.Rules.{limits_hold}
use Rattle.wellformed_law.proofs.Constants.{constants_fit}
use Rattle.wellformed_law.proofs.WellformedLaw.{Laws}
use Rattle.wellformed_law.proofs.ProcessesFit.{all_processes_fit, all_monitors_fit}
use Rattle.wellformed_law.proofs.EventsFit.{events_fit}
use Rattle.wellformed_law.proofs.CountsFit.{counts_fit}

pub well_formed : (g : Prog Place) → Laws g → IsWellFormed (plain g)
well_formed g l = record {
  constants_fit = constants_fit g l.found l.all_names l.written;
  processes_fit = all_processes_fit g l;
  monitors_fit = all_monitors_fit g l;
  events_fit = events_fit g l;
  counts_fit = counts_fit g l;
}

-- what the laws below give
pub record RuleLaws : Type 0 where
  pub apart : (g : Prog Place) → IsRead g → StandApart g
  pub written : (g : Prog Place) → IsRead g → IsWritten g
  pub found : (g : Prog Place) → IsRead g → IsNamed g → NamesFound g
  pub things : (g : Prog Place) → StandApart g → ThingsKnown g
  pub all_names : (g : Prog Place) → NamesListed g
  pub all_parts : (g : Prog Place) → PartsListed g
  pub mirrored : (g : Prog Place) → StandApart g → IsWritten g → NamesFound g → NamesListed g → ThingsKnown g → (p : Process Place) → Contains g.decls (process p) → AreMirrored g p
  pub answers : (g : Prog Place) (p : Process Place) (at : Option Place) (site : Site) (c : Here) (name : Place) (s : Scalar Place) (e : Expr Place) → IsKept g → Mirrors g p at site c
      → ExprWritten e → AreNames g (expr_names site e []) → Contains (parts g) (answer name s e) → IsOf c (scalar_sort (plain_scalar s)) (plain_expr e)
  pub bodies : (g : Prog Place) (p : Process Place) (at : Option Place) (site : Site) (c : Here) (w : Where) (ss : Stmts Place) → IsKept g → Mirrors g p at site c → IsPlaced w at c
      → StmtsWritten ss → AreNames g (stmts_names site ss []) → AreParts g (stmts_parts w ss []) → AllFit c (plain_stmts ss)
  pub falling : (g : Prog Place) → ((place : Place) → ¬ ReachesItself g place) → HasPlaceLevels g
  pub levels : (g : Prog Place) → NamesFound g → NamesListed g → HasPlaceLevels g → (p : Process Place) → Contains g.decls (process p) → AreMirrored g p → (level : Name → ℕ) × Levels (plain g) (plain_process p) level

-- all that is known of a checked program
pub laws_of : RuleLaws → (g : Prog Place) → IsChecked g → Laws g
laws_of laws g is = record {
  apart = laws.apart g is.read;
  written = laws.written g is.read;
  found = is_found;
  things = laws.things g (laws.apart g is.read);
  all_names = laws.all_names g;
  all_parts = laws.all_parts g;
  mirrored = mirrors;
  answers = laws.answers g;
  bodies = laws.bodies g;
  levels = λ p h. laws.levels g is_found (laws.all_names g) (laws.falling g (λ place round. is.checked 31 place (inr (inr (inl (refl, round)))))) p h (mirrors p h);
  statements = λ n p f. is.checked n p (inl f);
  limits = limits_hold g (λ n p f. is.checked n p (inr (inl f)));
}
  where
    is_found : NamesFound g
    is_found = laws.found g is.read is.named

    mirrors : (p : Process Place) → Contains g.decls (process p) → AreMirrored g p
    mirrors = laws.mirrored g (laws.apart g is.read) (laws.written g is.read) is_found (laws.all_names g) (laws.things g (laws.apart g is.read))

pub checked_is_well_formed : RuleLaws → (g : Prog Place) → IsChecked g → IsWellFormed (plain g)
checked_is_well_formed laws g is = well_formed g (laws_of laws g is)
