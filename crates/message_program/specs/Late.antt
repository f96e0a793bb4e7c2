-- The messages for programs whose processes may be out of time.
use Rattle.std.specs.Prelude.{ℕ, ◌++◌, ◌==◌, List, [], Option, Some, codes, decimal, find, is_none, if◌then◌else◌}
use Rattle.image.specs.declared.names.ImageNames.{ImageNames}
use Rattle.message_text.specs.Words.{plain, quoted}
use Rattle.sched_demand.specs.declared.judging.Judgement.{Judgement}
use Rattle.sched_demand.specs.declared.judging.Judgement.TheVariants as judgement
use Rattle.sched_table.specs.declared.table.Row.{Row}
use Rattle.sched_table.specs.declared.table.Table.{Table}
use Rattle.sched_table.specs.Late.{late}
use Rattle.sched_table.specs.Report.{with_number}

-- ---- no bound

-- the overhead as the last word of a call; none where it is 0
abbrev pub overhead : ℕ → List ℕ
overhead over = if over == 0 then [] else codes " " ++ decimal over

-- a file and the overhead, as the words of a call
abbrev pub call_words : (file : List ℕ) (over : ℕ) → List ℕ
call_words file over = plain file ++ overhead over

-- within how many ticks there is no bound
abbrev pub deadline_words : (deadline : ℕ) → List ℕ
deadline_words deadline = codes " has no bound within its deadline of " ++ (decimal deadline ++ codes " ticks\n")

-- the process of this name has no bound
abbrev pub untimely_line : (file name : List ℕ) (deadline : ℕ) → List ℕ
untimely_line file name deadline = plain file ++ (codes ": untimely: the process " ++ (quoted name ++ deadline_words deadline))

-- a process has no bound, and none is named
abbrev pub unnamed_line : (file : List ℕ) → List ℕ
unnamed_line file = plain file ++ codes ": untimely: a process has no bound within its deadline\n"

-- the calls that tell more
abbrev pub advice_line : (words : List ℕ) → List ℕ
advice_line words =
    codes "rte: `rte why " ++ (words ++ (codes "` takes the bounds apart; `rte fit " ++ (words ++ codes "` tells what would fit\n")))

-- the first row without a bound
abbrev pub late_row : List Row → Option Row
late_row rows = find (λ row. is_none row.bound) rows

-- the first process without a bound, where its name and its row are there
abbrev pub untimely : (file : List ℕ) (name : Option (List ℕ)) (row : Option Row) → List ℕ
untimely file (Some name) (Some row) = untimely_line file name row.deadline
untimely file name row = unnamed_line file

-- the message for a program of which a process has no bound
unfoldable pub late_message : (file : List ℕ) (over : ℕ) (names : ImageNames) (table : Table) → List ℕ
late_message file over names table =
    untimely file (late names.processes table.rows) (late_row table.rows) ++ advice_line (call_words file over)

-- ---- earliest deadline first

-- the ticks that may be needed within some ticks, each number as in the report
abbrev pub needed : (within demand : ℕ) → List ℕ
needed within demand =
    with_number (codes ": late: within ") within ++ (with_number (codes " ticks the processes may need ") demand ++ codes " ticks\n")

-- the points are too many to look at
abbrev pub too_many : List ℕ
too_many = codes ": too many: the test would look at more than 1000000 points\n"

-- the message for a program of which the test of the demand says this
unfoldable pub demand_message : (file : List ℕ) (answer : Judgement) → List ℕ
demand_message file (judgement.Feasible points) = []
demand_message file (judgement.Late points within demand) = plain file ++ needed within demand
demand_message file judgement.Many = plain file ++ too_many
