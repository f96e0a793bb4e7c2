-- The program of a table keeps to all rules: so does each tree that is read, and is that of the
-- program apart from places.
use Rattle.std.specs.Prelude.{◌≡◌, ◌≢◌, ℕ, []}
use Rattle.syntax_tree.specs.declared.place.Place.{Place}
use Rattle.syntax_tree.specs.Placed.{Prog}
use Rattle.syntax_tree.specs.Bare.{bare}
use Rattle.syntax_tree.specs.Parts.{events}
use Rattle.static_rule.specs.Parts.{FailsAmong}
use Rattle.static_names.specs.Resolved.{IsRead}
use Rattle.static_numbers.specs.Rules.{event_rules}
use Rattle.static_semantics.specs.Static.{IsChecked}
use Rattle.table_format.specs.declared.table.TaskTable.{TaskTable}
use Rattle.table_format.specs.Rules.{IsBegun}
use Rattle.table_format.specs.Program.{program_of}

-- each event activates just one process
abbrev pub KeepsEvents : Type 0
KeepsEvents =
    (t : TaskTable) → IsBegun t → (g : Prog Place) → IsRead g → bare g ≡ program_of t
    → (number : ℕ) (place : Place) → ¬ FailsAmong (event_rules g) (events g.decls) number place

abbrev pub KeepsRules : Type 0
KeepsRules = (t : TaskTable) → IsBegun t → t.tasks ≢ [] → (g : Prog Place) → IsRead g → bare g ≡ program_of t → IsChecked g
