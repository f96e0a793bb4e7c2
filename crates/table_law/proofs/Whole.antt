-- The rules that a table's program keeps to.
use Rattle.std.proofs.Common.{◌≡◌, ◌≢◌, ℕ, inl, inr, []}
use Rattle.syntax_tree.specs.declared.place.Place.{Place}
use Rattle.syntax_tree.specs.Placed.{Prog}
use Rattle.syntax_tree.specs.Bare.{bare}
use Rattle.syntax_tree.specs.Parts.{events}
use Rattle.static_rule.specs.Parts.{FailsAmong}
use Rattle.static_types.specs.Rules.{StatementFails}
use Rattle.static_calls.specs.Reaching.{ReachFails}
use Rattle.static_numbers.specs.Rules.{event_rules, LimitFails}
use Rattle.table_format.specs.declared.table.TaskTable.{TaskTable}
use Rattle.table_format.specs.Rules.{IsBegun}
use Rattle.table_format.specs.Program.{made_tail, program_of}
use Rattle.table_law.proofs.Lists.{Every}
use Rattle.table_law.proofs.Fits.{table_fits}
use Rattle.table_law.proofs.Shapes.{IsDeclOf, decls_are}
use Rattle.table_law.proofs.Statements.{no_statement_fails}
use Rattle.table_law.proofs.Reach.{no_reach_fails}
use Rattle.table_law.proofs.Limits.{bounds_kept, processes_kept, handlers_kept}
use Rattle.table_law.proofs.Counts.{counts_kept}

are_of : (t : TaskTable) → IsBegun t → (g : Prog Place) → bare g ≡ program_of t → Every (IsDeclOf (made_tail t) t) g.decls
unfolding program_of
are_of t is g same = decls_are (made_tail t) t (table_fits t is) g same

pub statements_kept : (t : TaskTable) → IsBegun t → (g : Prog Place) → bare g ≡ program_of t → (number : ℕ) (place : Place) → ¬ StatementFails g number place
statements_kept t is g same number place fails = no_statement_fails (made_tail t) t g (are_of t is g same) number place fails

pub reach_kept : (t : TaskTable) → IsBegun t → (g : Prog Place) → bare g ≡ program_of t → (number : ℕ) (place : Place) → ¬ ReachFails g number place
reach_kept t is g same number place fails = no_reach_fails (made_tail t) t g (are_of t is g same) number place fails

pub limits_kept : (t : TaskTable) → IsBegun t → t.tasks ≢ [] → (g : Prog Place) → bare g ≡ program_of t → (number : ℕ) (place : Place)
    → LimitFails g number place → FailsAmong (event_rules g) (events g.decls) number place
unfolding program_of
limits_kept t is some g same number place (inl bounds) = absurd (bounds_kept (made_tail t) t g (are_of t is g same) number place bounds)
limits_kept t is some g same number place (inr (inl ticks)) = absurd (processes_kept (made_tail t) t g (are_of t is g same) number place ticks)
limits_kept t is some g same number place (inr (inr (inl fails))) = fails
limits_kept t is some g same number place (inr (inr (inr (inl handled)))) = absurd (handlers_kept (made_tail t) t g (are_of t is g same) number place handled)
limits_kept t is some g same number place (inr (inr (inr (inr counts)))) = absurd (counts_kept (made_tail t) t is some g same (are_of t is g same) number place counts)
