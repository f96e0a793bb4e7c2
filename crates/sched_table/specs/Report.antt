-- The report: one line for each process and each monitor, and whether the program is timely.
use Rattle.std.specs.Prelude.{◌++◌, ℕ, List, [], ◌∷◌, Option, Some, None, codes, decimal, nat_le, nat_eq, if◌then◌else◌}
use Rattle.image.specs.declared.names.ImageNames.{ImageNames}
use Rattle.base.specs.declared.capped.Cost.{Cost}
use Rattle.sched_table.specs.declared.table.Row.{Row}
use Rattle.sched_table.specs.declared.table.Size.{Size}
use Rattle.sched_table.specs.declared.table.Table.{Table}
use Rattle.sched_table.specs.Late.{late}

-- a number up to 1,000,000,000, and a word for the larger ones
abbrev pub number_text : ℕ → List ℕ
number_text n = if nat_le n 1000000000 then decimal n else codes "over"

abbrev pub optional_text : Option ℕ → List ℕ
optional_text None = codes "none"
optional_text (Some n) = number_text n

-- some words and a number
abbrev pub with_number : List ℕ → ℕ → List ℕ
with_number words n = words ++ number_text n

-- some words, and a number or none
abbrev pub with_optional : List ℕ → Option ℕ → List ℕ
with_optional words n = words ++ optional_text n

-- the deadline, where it is not the frame
unfoldable pub deadline_text : (frame deadline : ℕ) → List ℕ
deadline_text frame deadline = if nat_eq deadline frame then [] else with_number (codes " deadline ") deadline

unfoldable pub costs_text : Cost → List ℕ
costs_text cost = with_number (codes " cost ") cost.run ++ (with_number (codes " suspend ") cost.susp ++ with_number (codes " waits ") cost.waits)

unfoldable pub sizes_text : Size → List ℕ
sizes_text size = with_number (codes " data ") size.words ++ (with_number (codes " stack ") size.stack ++ codes "\n")

unfoldable pub times_text : Row → List ℕ
times_text row = with_number (codes " rank ") row.rank ++ (costs_text row.cost ++ (with_number (codes " block ") row.block ++ with_optional (codes " bound ") row.bound))

unfoldable pub process_text : List ℕ → Row → List ℕ
process_text name row = (codes "process " ++ name) ++ (with_number (codes " frame ") row.frame ++ (deadline_text row.frame row.deadline ++ (times_text row ++ sizes_text row.size)))

abbrev pub processes_text : List (List ℕ) → List Row → List ℕ
processes_text (name ∷ names) (row ∷ rows) = process_text name row ++ processes_text names rows
processes_text names rows = []

unfoldable pub monitor_text : List ℕ → Option ℕ → ℕ → List ℕ
monitor_text name ceiling words = (codes "monitor " ++ name) ++ (with_optional (codes " ceiling ") ceiling ++ (with_number (codes " words ") words ++ codes "\n"))

abbrev pub monitors_text : List (List ℕ) → List (Option ℕ) → List ℕ → List ℕ
monitors_text (name ∷ names) (ceiling ∷ ceilings) (words ∷ others) = monitor_text name ceiling words ++ monitors_text names ceilings others
monitors_text names ceilings words = []

-- timely, or the first process without a bound
abbrev pub verdict_text : Option (List ℕ) → List ℕ
verdict_text None = codes "timely\n"
verdict_text (Some name) = (codes "untimely " ++ name) ++ codes "\n"

unfoldable pub report_text : ImageNames → List ℕ → Table → List ℕ
report_text names program table =
    (codes "program " ++ program) ++ (codes "\n" ++ (processes_text names.processes table.rows ++ (monitors_text names.monitors table.ceilings table.monitor_words
    ++ (with_number (codes "code ") table.code ++ (codes "\n" ++ verdict_text (late names.processes table.rows))))))
