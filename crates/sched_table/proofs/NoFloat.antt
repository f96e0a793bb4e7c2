-- The report has no float.
use Rattle.std.proofs.Common.{◌≡◌, ℕ, List, [], ◌∷◌, Option, Some, None, Bool, true, false, refl, codes}
use Rattle.std.specs.Prelude.{nat_le, nat_eq, if◌then◌else◌}
use Rattle.serde_json.specs.Data.{number, string, unsigned, Members}
use Rattle.serde_json.specs.View.{items_of}
use Rattle.serde_json.specs.Written.{has_float, items_have_float, members_have_float}
use Rattle.image.specs.declared.names.ImageNames.{ImageNames}
use Rattle.sched_table.specs.declared.table.Row.{Row}
use Rattle.sched_table.specs.declared.table.Table.{Table}
use Rattle.sched_table.specs.Json.{number_data, optional_data, with_deadline, process_members, processes_data, monitor_data, monitors_data, report_data}

number_either : (small : Bool) (n : ℕ) → has_float (if small then number (unsigned n) else string (codes "over")) ≡ false
number_either true n = refl
number_either false n = refl

number_has : (n : ℕ) → has_float (number_data n) ≡ false
unfolding number_data
number_has n = number_either (nat_le n 1000000000) n

optional_has : (n : Option ℕ) → has_float (optional_data n) ≡ false
unfolding optional_data
optional_has None = refl
optional_has (Some n) = number_has n

either_has : (same : Bool) (a b : Members) → members_have_float a ≡ false → members_have_float b ≡ false → members_have_float (if same then a else b) ≡ false
either_has true a b first second = first
either_has false a b first second = second

deadline_has : (name : List ℕ) (row : Row) → members_have_float (with_deadline row.frame row.deadline (process_members name row)) ≡ false
unfolding with_deadline process_members
deadline_has name row =
    either_has (nat_eq row.deadline row.frame) _ _
    (rw (number_has row.block, optional_has row.bound, number_has row.cost.run, number_has row.size.words, number_has row.frame, number_has row.rank, number_has row.size.stack, number_has row.cost.susp, number_has row.cost.waits))
    (rw (number_has row.deadline, number_has row.block, optional_has row.bound, number_has row.cost.run, number_has row.size.words, number_has row.frame, number_has row.rank, number_has row.size.stack, number_has row.cost.susp, number_has row.cost.waits))

processes_have : (names : List (List ℕ)) (rows : List Row) → items_have_float (items_of (processes_data names rows)) ≡ false
processes_have [] rows = refl
processes_have (name ∷ names) [] = refl
processes_have (name ∷ names) (row ∷ rows) = rw (deadline_has name row) (processes_have names rows)

monitor_has : (name : List ℕ) (ceiling : Option ℕ) (words : ℕ) → has_float (monitor_data name ceiling words) ≡ false
unfolding monitor_data
monitor_has name ceiling words = rw (optional_has ceiling, number_has words)

monitors_have : (names : List (List ℕ)) (ceilings : List (Option ℕ)) (words : List ℕ) → items_have_float (items_of (monitors_data names ceilings words)) ≡ false
monitors_have [] ceilings words = refl
monitors_have (name ∷ names) [] words = refl
monitors_have (name ∷ names) (ceiling ∷ ceilings) [] = refl
monitors_have (name ∷ names) (ceiling ∷ ceilings) (words ∷ others) = rw (monitor_has name ceiling words) (monitors_have names ceilings others)

pub report : (names : ImageNames) (program : List ℕ) (table : Table) → has_float (report_data names program table) ≡ false
unfolding report_data
report names program table = rw (number_has table.code, monitors_have names.monitors table.ceilings table.monitor_words, processes_have names.processes table.rows)
