-- Which text is a task table.
use Rattle.std.specs.Prelude.{◌≡◌, ◌≢◌, ◌≤◌, ◌+◌, ◌⊎◌, ℕ, Bool, not, List, [], ◌∷◌, ◌++◌, length, map, filter, flat_map, sum_by, None, IfSome, All, AllPairs, Contains, nat_eq, option_to_list}
use Rattle.std.specs.Int.{IsInRange}
use Rattle.std.specs.Cmp.Lexicographic.{pointwise}
use Rattle.syntax.specs.Spellings.{HasKind}
use Rattle.syntax.specs.declared.token.TokenKind.TheVariants.{Ident}
use Rattle.table_format.specs.declared.table.TaskStay.{TaskStay}
use Rattle.table_format.specs.declared.table.TaskLine.{TaskLine}
use Rattle.table_format.specs.declared.table.TaskTable.{TaskTable}
use Rattle.table_format.specs.Spelling.{Word, table_bytes}

-- ---- names

-- an identifier of at most 63 bytes that is no keyword
abbrev pub IsName : Word → Type 0
IsName word = HasKind word Ident

-- the process of a line, and its event where it has one
abbrev pub task_names : TaskLine → List Word
task_names p = p.name ∷ option_to_list p.event

-- the monitors of a line, one for each stay
abbrev pub monitors_named : TaskLine → List Word
monitors_named p = map (λ s. s.monitor) p.stays

abbrev pub names_of_line : TaskLine → List Word
names_of_line p = task_names p ++ monitors_named p

-- the name of the table, those of the processes and of the events
abbrev pub names_of_tasks : TaskTable → List Word
names_of_tasks t = t.name ∷ flat_map task_names t.tasks

abbrev pub stays : TaskTable → List TaskStay
stays t = flat_map (λ p. p.stays) t.tasks

-- the monitors, as often as they are named
abbrev pub names_of_monitors : TaskTable → List Word
names_of_monitors t = map (λ s. s.monitor) (stays t)

abbrev pub names : TaskTable → List Word
names t = names_of_tasks t ++ names_of_monitors t

abbrev pub same_name : Word → Word → Bool
same_name = pointwise nat_eq

-- each of them once, in the order in which they stand first
abbrev pub distinct : {A : Type 0} → (same : A → A → Bool) → List A → List A
distinct same [] = []
distinct same (x ∷ xs) = x ∷ filter (λ y. not (same x y)) (distinct same xs)

-- the monitors, in the order in which the table names them first
abbrev pub monitors : TaskTable → List Word
monitors t = distinct same_name (names_of_monitors t)

-- ---- numbers

-- a frame is 10 to 1,000,000,000, a deadline 10 to the frame, a first activation at most
-- 1,000,000,000, a cost 4 to 1,000,000,000 and a stay 3 to 1,000,000,000
pub record IsInRanges (p : TaskLine) : Type 0 where
  pub frame : IsInRange 10 1000000000 p.frame
  pub deadline : IfSome p.deadline (λ d. IsInRange 10 p.frame d)
  pub first : IfSome p.first (λ n. n ≤ 1000000000)
  pub cost : IsInRange 4 1000000000 p.cost
  pub stay : All (λ s. IsInRange 3 1000000000 s.ticks) p.stays

-- what ends an activation takes 4 ticks, the call of an entry 15 beside the stay: 6 and 5 before it
-- and 4 behind it
abbrev pub least_cost : TaskLine → ℕ
least_cost p = 4 + sum_by (λ s. 15 + s.ticks) p.stays

-- statements take no ticks, or 3 or more: a stay that is 3, or 6 or more, can be met, and so can a
-- cost that is the least one, or 3 or more above it
pub record CanBeMet (p : TaskLine) : Type 0 where
  pub stay : All (λ s. (s.ticks ≡ 3) ⊎ (6 ≤ s.ticks)) p.stays
  pub cost : (p.cost ≡ least_cost p) ⊎ (least_cost p + 3 ≤ p.cost)

-- ---- tables

-- at most 64 processes, 64 monitors and 512 stays
pub record IsSmall (t : TaskTable) : Type 0 where
  pub tasks : length t.tasks ≤ 64
  pub monitors : length (monitors t) ≤ 64
  pub stays : length (stays t) ≤ 512

-- no event has a first activation
abbrev pub IsOneActivation : TaskLine → Type 0
IsOneActivation p = IfSome p.event (λ e. p.first ≡ None)

-- a line of a table, by itself
pub record IsTaskLine (p : TaskLine) : Type 0 where
  pub names : All IsName (names_of_line p)
  pub activation : IsOneActivation p
  pub ranges : IsInRanges p
  pub met : CanBeMet p

-- the first line and some process lines of a table: the table, the processes and the events have
-- names that differ, and no monitor has one of them
pub record IsBegun (t : TaskTable) : Type 0 where
  pub name : IsName t.name
  pub tasks : All IsTaskLine t.tasks
  pub differ : AllPairs (λ one other. one ≢ other) (names_of_tasks t)
  pub apart : All (λ monitor. ¬ Contains (names_of_tasks t) monitor) (names_of_monitors t)
  pub small : IsSmall t

abbrev pub longest_text : ℕ
longest_text = 1048576

-- the text is the one spelling of the table
pub record IsTable (text : List ℕ) (t : TaskTable) : Type 0 where
  pub spelled : text ≡ table_bytes t
  pub short : length text ≤ longest_text
  pub begun : IsBegun t
  pub some : t.tasks ≢ []
