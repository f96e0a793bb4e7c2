-- What is found out of a line and of the table before it.
use Rattle.std.specs.Prelude.{◌≡◌, ◌+◌, ◌||◌, ℕ, Bool, false, List, length, map, decimal, Option, Some, None, option_map, IsTrue, IfSome, All}
use Rattle.std.specs.Int.{IsInRange}
use Rattle.std.specs.List.{list_any}
use Rattle.text_fields.specs.LineFields.{value}
use Rattle.table_format.specs.declared.table.TaskStay.{TaskStay}
use Rattle.table_format.specs.declared.table.TaskLine.{TaskLine}
use Rattle.table_format.specs.declared.table.TaskTable.{TaskTable}
use Rattle.table_format.specs.Spelling.{Word, SaidStay, SaidLine, said_stay, said}
use Rattle.table_format.specs.Rules.{same_name, task_names, monitors_named, names_of_tasks, names, IsTaskLine, IsBegun}
use Rattle.table_format.specs.Faults.{is_numeral, stay_meant, meant, with_line, HasTakenName, Breaks, IsLeast}
use Rattle.table_reader.specs.declared.fault.TableFault.{TableFault}
use Rattle.table_reader.specs.declared.fault.TableFault.TheVariants.{Bad, Memory}
use Rattle.table_reader.specs.declared.line.HeadWords.{HeadWords}
use Rattle.table_reader.specs.declared.task.Numbers.{Numbers}
use Rattle.table_reader.specs.Reading.{bytes_of}

-- ---- names

-- whether a name is among these
abbrev pub is_among : (names : List Word) → (name : Word) → Bool
is_among names name = list_any (λ other. same_name other name) names

abbrev pub is_event_taken : TaskTable → TaskLine → Option Word → Bool
is_event_taken t p None = false
is_event_taken t p (Some event) = same_name event p.name || is_among (names t) event

-- whether the name of the process of a line or that of its event is taken
abbrev pub is_task_taken : TaskTable → TaskLine → Bool
is_task_taken t p = is_among (names t) p.name || is_event_taken t p p.event

-- whether a line has a name that is taken
abbrev pub is_taken : TaskTable → TaskLine → Bool
is_taken t p =
    is_task_taken t p
    || list_any (λ monitor. is_among (names_of_tasks t) monitor || is_among (task_names p) monitor) (monitors_named p)

-- ---- numbers

-- the number that a word spells, and it is within a range
pub record IsNumber (low high : ℕ) (word : Word) (n : ℕ) : Type 0 where
  pub is : n ≡ value word
  pub spelled : decimal n ≡ word
  pub within : IsInRange low high n

-- the same where a word may be left out
pub record IsNumberIf (low high : ℕ) (word : Option Word) (n : Option ℕ) : Type 0 where
  pub is : n ≡ option_map value word
  pub spelled : option_map decimal n ≡ word
  pub within : IfSome n (λ number. IsInRange low high number)

pub record AreNumbers (h : HeadWords) (n : Numbers) : Type 0 where
  pub frame : IsNumber 10 1000000000 h.frame.now n.frame
  pub deadline : IsNumberIf 10 n.frame (bytes_of h.deadline) n.deadline
  pub first : IsNumberIf 0 1000000000 (bytes_of h.first) n.first
  pub cost : IsNumber 4 1000000000 h.cost.now n.cost

pub record AreStays (words : List SaidStay) (stays : List TaskStay) : Type 0 where
  pub are : stays ≡ map stay_meant words
  pub spelled : map said_stay stays ≡ words
  pub within : All (λ s. IsInRange 3 1000000000 s.ticks) stays

-- the words in the places of numbers, but those of the stays, are numerals
pub record HasNumerals (h : HeadWords) : Type 0 where
  pub frame : IsTrue (is_numeral h.frame.now)
  pub deadline : IfSome (bytes_of h.deadline) (λ word. IsTrue (is_numeral word))
  pub first : IfSome (bytes_of h.first) (λ word. IsTrue (is_numeral word))
  pub cost : IsTrue (is_numeral h.cost.now)

-- ---- lines

-- a process line that is right by itself and has no taken name
pub record IsNew (t : TaskTable) (s : SaidLine) (p : TaskLine) : Type 0 where
  pub is : p ≡ meant s
  pub spelled : said p ≡ s
  pub line : IsTaskLine p
  pub free : ¬ HasTakenName t p

-- the table with one more process line, which is spelled so
pub record IsAdded (old : TaskTable) (s : SaidLine) (new : TaskTable) : Type 0 where
  pub is : new ≡ with_line old (meant s)
  pub spelled : said (meant s) ≡ s
  pub begun : IsBegun new

-- want of memory says nothing of the line
abbrev pub IsLineFault : TaskTable → SaidLine → TableFault → Type 0
IsLineFault t s (Bad number line) = IsLeast (Breaks t (meant s)) number × (line ≡ length t.tasks + 2)
IsLineFault t s (Memory _) = Unit {0}
