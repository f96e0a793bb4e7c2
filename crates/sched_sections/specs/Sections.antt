-- The text that takes each bound apart: a section for each process, the load, and whether the
-- program is timely.
use Rattle.std.specs.Prelude.{◌+◌, ◌++◌, ℕ, zero, suc, List, [], ◌∷◌, Option, Some, None, codes, nat_eq, if◌then◌else◌}
use Rattle.base.specs.Capped.{cap}
use Rattle.sched_response.specs.declared.tasks.Task.{Task}
use Rattle.sched_response.specs.Demand.{task_at, demand_at}
use Rattle.sched_sections.specs.Parts.{after_waits, releases, each_takes, all_take}
use Rattle.sched_sections.specs.Load.{load}
use Rattle.sched_table.specs.Report.{with_number, with_optional, verdict_text}
use Rattle.sched_sections.specs.declared.levels.Blocker.{Blocker}
use Rattle.sched_sections.specs.declared.levels.Level.{Level}
use Rattle.sched_sections.specs.Levels.{level_at, tasks_in, shown_at}

-- some words and a number, which is counted up to the greatest number that is
abbrev pub with_counted : List ℕ → ℕ → List ℕ
with_counted words n = with_number words (cap n)

-- ---- the lines of a section

-- the bound, and the ticks in which the demand is taken
unfoldable pub bound_text : Level → List ℕ
bound_text l = with_optional (codes " bound ") l.bound ++ (with_number (codes " at ") (shown_at l) ++ codes "\n")

-- whose it is, with its frame, its deadline, its rank and its bound
unfoldable pub process_line : (rank : ℕ) → Level → List ℕ
process_line rank l =
    (codes "process " ++ l.name) ++ (with_number (codes " frame ") l.task.frame ++ (with_number (codes " deadline ") l.task.deadline
    ++ (with_number (codes " rank ") rank ++ bound_text l)))

-- the entry that makes the block, and the process inside
unfoldable pub blocker_text : Option Blocker → List ℕ
blocker_text None = []
blocker_text (Some b) = (codes " " ++ b.monitor) ++ ((codes "." ++ b.entry) ++ (codes " " ++ b.process))

unfoldable pub block_line : Level → List ℕ
block_line l = with_number (codes "block ") l.task.block ++ (blocker_text l.blocker ++ codes "\n")

unfoldable pub cost_line : Task → List ℕ
cost_line t = with_number (codes "cost ") t.run ++ codes "\n"

-- the suspension, and the blocks after the waits
unfoldable pub waits_lines : Task → List ℕ
waits_lines t =
    with_number (codes "suspend ") t.susp ++ (codes "\n" ++ (with_number (codes "waits ") t.waits ++ (with_number (codes " each ") t.block
    ++ (with_counted (codes " total ") (after_waits t) ++ codes "\n"))))

-- where it waits at all
abbrev pub optional_waits : Task → List ℕ
optional_waits t = if nat_eq t.waits 0 then [] else waits_lines t

-- what a higher level takes in r ticks: its releases, what each takes, and both together
unfoldable pub taken_text : List Task → (level r higher : ℕ) → List ℕ
taken_text ts level r higher =
    with_number (codes " releases ") (releases ts r higher) ++ (with_counted (codes " each ") (each_takes ts level higher)
    ++ (with_counted (codes " total ") (all_take ts level r higher) ++ codes "\n"))

unfoldable pub rank_line : List Level → (level r higher : ℕ) → List ℕ
rank_line ls level r higher =
    with_number (codes "rank ") (higher + 1) ++ ((codes " " ++ (level_at ls higher).name) ++ (with_number (codes " frame ") (task_at (tasks_in ls) higher).frame
    ++ taken_text (tasks_in ls) level r higher))

-- the lines of the first n levels
abbrev pub rank_lines : List Level → (level r n : ℕ) → List ℕ
rank_lines ls level r zero = []
rank_lines ls level r (suc n) = rank_lines ls level r n ++ rank_line ls level r n

unfoldable pub sum_line : List Level → (level r : ℕ) → List ℕ
sum_line ls level r = with_number (codes "sum ") (demand_at (tasks_in ls) level r) ++ codes "\n"

-- the section of a level
unfoldable pub section_text : List Level → (level : ℕ) → List ℕ
section_text ls level =
    process_line (level + 1) (level_at ls level) ++ (block_line (level_at ls level) ++ (cost_line (level_at ls level).task ++ (optional_waits (level_at ls level).task
    ++ (rank_lines ls level (shown_at (level_at ls level)) level ++ sum_line ls level (shown_at (level_at ls level))))))

-- ---- the whole text

-- the sections, in this order of levels
abbrev pub sections_text : List Level → (order : List ℕ) → List ℕ
sections_text ls [] = []
sections_text ls (level ∷ levels) = section_text ls level ++ sections_text ls levels

-- a load in millionths of the processor
abbrev pub load_text : ℕ → List ℕ
load_text n = with_number (codes "load ") n ++ codes " of 1000000\n"

-- a name, where there is no bound
abbrev pub late_or : List ℕ → Option ℕ → Option (List ℕ) → Option (List ℕ)
late_or name None others = Some name
late_or name (Some bound) others = others

-- the first level, in this order, that has no bound
abbrev pub first_late : List Level → (order : List ℕ) → Option (List ℕ)
first_late ls [] = None
first_late ls (level ∷ levels) = late_or (level_at ls level).name (level_at ls level).bound (first_late ls levels)

-- The text on levels, whose processes stand in this order in the program.
unfoldable pub bounds_text : List Level → (order : List ℕ) → List ℕ
bounds_text ls order = sections_text ls order ++ (load_text (load (tasks_in ls)) ++ verdict_text (first_late ls order))
