-- The rule for events, and all rules together.
use Rattle.std.proofs.Common.{◌≡◌, ◌≢◌, ◌≤◌, ℕ, inl, inr, List, [], ◌∷◌, ◌++◌, Some, ap, sym, ◌∙◌}
use Rattle.std.specs.Prelude.{Contains}
use Rattle.syntax_tree.specs.Plain.{Name}
use Rattle.syntax_tree.specs.declared.place.Place.{Place}
use Rattle.syntax_tree.specs.Placed.{Process, Decl, process, Prog}
use Rattle.syntax_tree.specs.Bare.{bare}
use Rattle.syntax_tree.specs.Parts.{events}
use Rattle.static_rule.specs.Parts.{FailsAmong}
use Rattle.static_names.specs.declared.kind.Declared.{Declared}
use Rattle.static_names.specs.declared.kind.NameUse.{NameUse}
use Rattle.static_names.specs.Occurrences.{used, declared_at, names}
use Rattle.static_numbers.specs.Rules.{event_rules}
use Rattle.static_semantics.specs.Places.{StandApart, NamesFound}
use Rattle.static_semantics.specs.Mirrors.{NamesListed}
use Rattle.static_semantics.specs.Static.{Fails}
use Rattle.table_format.specs.declared.table.TaskTable.{TaskTable}
use Rattle.table_format.specs.Rules.{IsBegun}
use Rattle.table_format.specs.Program.{made_tail, program_of}
use Rattle.table_law.proofs.Fits.{table_fits}
use Rattle.table_law.specs.Rules.{KeepsStatements, KeepsReach, KeepsLimits}
use Rattle.table_law.proofs.Shapes.{decls_are}
use Rattle.table_law.proofs.Statements.{NoneOf, none_among}
use Rattle.table_law.specs.Names.{KeepsNames}
use Rattle.table_law.proofs.Firsts.{Elem, each_of}
use Rattle.table_law.specs.Checked.{KeepsEvents, KeepsRules}
use Rattle.table_law.proofs.Events.{used_once}
use Rattle.table_law.proofs.Standing.{one_event}

found_at : (g : Prog Place) → NamesFound g → (name : Name) (place : Place) (want : NameUse) (d : Declared) → Contains (names g) (used name place want (Some d)) → declared_at (names g) place ≡ Some d.place
found_at g found name place want d has =
    let it = found.uses name place want (Some d) has in
    let meant : d ≡ it.declared = cc in
    it.found ∙ ap (λ (x : Declared). Some x.place) (sym meant)

pub events_kept : (t : TaskTable) → IsBegun t → (g : Prog Place) → bare g ≡ program_of t → StandApart g → NamesFound g → NamesListed g
    → (number : ℕ) (place : Place) → ¬ FailsAmong (event_rules g) (events g.decls) number place
unfolding program_of
events_kept t is g same apart found listed number place fails =
    let are = decls_are (made_tail t) t (table_fits t is) g same in
    none_among (event_rules g) (events g.decls)
    (each_of (NoneOf (event_rules g)) (events g.decls) (λ e0 there.
    (used_once t is g same are (λ before p after split o has. listed before (process p) after split o has) (found_at g found) (λ q. one_event g apart q) e0 there, tt)))
    number place fails

pub keeps_rules : KeepsNames → KeepsStatements → KeepsReach → KeepsLimits → KeepsEvents → KeepsRules
keeps_rules names_kept statements reach limits events_are t is some g read same = record {
  read = read;
  named = names_kept t is g same;
  checked = none;
} where
  none : (number : ℕ) (place : Place) → ¬ Fails g number place
  none number place (inl fails) = statements t is g same number place fails
  none number place (inr (inl fails)) = events_are t is g read same number place (limits t is some g same number place fails)
  none number place (inr (inr fails)) = reach t is g same number place fails
