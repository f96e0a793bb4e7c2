-- The program of a table keeps to the rules for statements, for what is reached by calls, and for
-- declarations: so does each tree that is that of the program apart from places.
use Rattle.std.specs.Prelude.{◌≡◌, ◌≢◌, ℕ, []}
use Rattle.syntax_tree.specs.declared.place.Place.{Place}
use Rattle.syntax_tree.specs.Placed.{Prog}
use Rattle.syntax_tree.specs.Bare.{bare}
use Rattle.syntax_tree.specs.Parts.{events}
use Rattle.static_rule.specs.Parts.{FailsAmong}
use Rattle.static_types.specs.Rules.{StatementFails}
use Rattle.static_calls.specs.Reaching.{ReachFails}
use Rattle.static_numbers.specs.Rules.{event_rules, LimitFails}
use Rattle.table_format.specs.declared.table.TaskTable.{TaskTable}
use Rattle.table_format.specs.Rules.{IsBegun}
use Rattle.table_format.specs.Program.{program_of}

-- types fit, each statement may stand where it does, and turns are within their limits
abbrev pub KeepsStatements : Type 0
KeepsStatements =
    (t : TaskTable) → IsBegun t → (g : Prog Place) → bare g ≡ program_of t
    → (number : ℕ) (place : Place) → ¬ StatementFails g number place

-- no entry reaches itself, and no handler waits
abbrev pub KeepsReach : Type 0
KeepsReach =
    (t : TaskTable) → IsBegun t → (g : Prog Place) → bare g ≡ program_of t
    → (number : ℕ) (place : Place) → ¬ ReachFails g number place

-- of the rules for declarations only the one for events may fail
abbrev pub KeepsLimits : Type 0
KeepsLimits =
    (t : TaskTable) → IsBegun t → t.tasks ≢ [] → (g : Prog Place) → bare g ≡ program_of t
    → (number : ℕ) (place : Place) → LimitFails g number place → FailsAmong (event_rules g) (events g.decls) number place
