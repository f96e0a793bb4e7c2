-- What is due of a task table is one.
use Rattle.std.proofs.Common.{◌≡◌, ℕ, List}
use Rattle.table_law.specs.Once.{TablesAreOne, TablesHaveNoFault, FaultsAreOne}
use Rattle.command_due.specs.CommandsDue.{Outcome}
use Rattle.command_due.specs.TableDue.{IsTableDue, table_faulty, tabled}

pub table_one : TablesAreOne → TablesHaveNoFault → FaultsAreOne → (lines : List ℕ) (o p : Outcome) → IsTableDue lines o → IsTableDue lines p → o ≡ p
table_one one none faults lines o p (table_faulty n l fault same) (table_faulty m k other that) =
    let both = faults lines n m l k fault other in
    let number = both.0 in
    let line = both.1 in
    cc
table_one one none faults lines o p (table_faulty n l fault same) (tabled u also that) = absurd (none lines u n l also fault)
table_one one none faults lines o p (tabled t is same) (table_faulty m k other that) = absurd (none lines t m k is other)
table_one one none faults lines o p (tabled t is same) (tabled u also that) =
    let table = one lines t u is also in
    cc
