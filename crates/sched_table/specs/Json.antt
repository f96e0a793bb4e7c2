-- The report as JSON: one value, written without spaces and ended by a line feed. The keys of an
-- object stand in the order of their bytes. Names are identifiers, so no character in them is escaped.
use Rattle.std.specs.Prelude.{◌++◌, ℕ, All, IsUtf8, List, [], ◌∷◌, Option, Some, None, codes, is_none, nat_le, nat_eq, if◌then◌else◌}
use Rattle.serde_json.specs.Data.{Data, boolean, number, string, array, object, unsigned, Members, member, no_members, put}
use Rattle.serde_json.specs.View.{items_of}
use Rattle.serde_json.specs.Written.{compact_text}
use Rattle.image.specs.declared.names.ImageNames.{ImageNames}
use Rattle.sched_table.specs.declared.table.Row.{Row}
use Rattle.sched_table.specs.declared.table.Table.{Table}
use Rattle.sched_table.specs.Late.{late}

-- the names that are shown are UTF-8, as a string has to be
pub record AreStrings (names : ImageNames) (program : List ℕ) : Type 0 where
  pub of_program : IsUtf8 program
  pub of_processes : All IsUtf8 names.processes
  pub of_monitors : All IsUtf8 names.monitors

-- a number up to 1,000,000,000, and a string for the larger ones
unfoldable pub number_data : ℕ → Data
number_data n = if nat_le n 1000000000 then number (unsigned n) else string (codes "over")

unfoldable pub optional_data : Option ℕ → Data
optional_data None = string (codes "none")
optional_data (Some n) = number_data n

-- with the deadline, where it is not the frame
unfoldable pub with_deadline : (frame deadline : ℕ) → Members → Members
with_deadline frame deadline members = if nat_eq deadline frame then members else put (codes "deadline") (number_data deadline) members

-- what each process has
unfoldable pub process_members : List ℕ → Row → Members
process_members name row =
    member (codes "block") (number_data row.block)
    (member (codes "bound") (optional_data row.bound)
    (member (codes "cost") (number_data row.cost.run)
    (member (codes "data") (number_data row.size.words)
    (member (codes "frame") (number_data row.frame)
    (member (codes "name") (string name)
    (member (codes "rank") (number_data row.rank)
    (member (codes "stack") (number_data row.size.stack)
    (member (codes "suspend") (number_data row.cost.susp)
    (member (codes "waits") (number_data row.cost.waits) no_members)))))))))

abbrev pub process_data : List ℕ → Row → Data
process_data name row = object (with_deadline row.frame row.deadline (process_members name row))

abbrev pub processes_data : List (List ℕ) → List Row → List Data
processes_data (name ∷ names) (row ∷ rows) = process_data name row ∷ processes_data names rows
processes_data names rows = []

unfoldable pub monitor_data : List ℕ → Option ℕ → ℕ → Data
monitor_data name ceiling words =
    object
    (member (codes "ceiling") (optional_data ceiling)
    (member (codes "name") (string name)
    (member (codes "words") (number_data words) no_members)))

abbrev pub monitors_data : List (List ℕ) → List (Option ℕ) → List ℕ → List Data
monitors_data (name ∷ names) (ceiling ∷ ceilings) (words ∷ others) = monitor_data name ceiling words ∷ monitors_data names ceilings others
monitors_data names ceilings words = []

unfoldable pub report_data : ImageNames → List ℕ → Table → Data
report_data names program table =
    object
    (member (codes "code") (number_data table.code)
    (member (codes "monitors") (array (items_of (monitors_data names.monitors table.ceilings table.monitor_words)))
    (member (codes "processes") (array (items_of (processes_data names.processes table.rows)))
    (member (codes "program") (string program)
    (member (codes "timely") (boolean (is_none (late names.processes table.rows))) no_members)))))

unfoldable pub report_json : ImageNames → List ℕ → Table → List ℕ
report_json names program table = compact_text (report_data names program table) ++ codes "\n"
