-- Why a text is no task table: its first line with a fault, and the least number of a fault that
-- it has.
use Rattle.std.specs.Prelude.{◌≡◌, ◌≢◌, ◌<◌, ◌≤◌, ◌+◌, ◌⊎◌, ℕ, Bool, ◌&&◌, List, [], ◌∷◌, ◌++◌, length, map, option_map, option_to_list, IsTrue, IsSomeAnd, All, Any, Contains}
use Rattle.syntax.specs.Spellings.{is_number}
use Rattle.text_fields.specs.Fields.{IsWord, Lacks}
use Rattle.text_fields.specs.LineFields.{value, is_numeral as has_no_leading_zero}
use Rattle.table_format.specs.declared.table.TaskStay.{TaskStay}
use Rattle.table_format.specs.declared.table.TaskLine.{TaskLine}
use Rattle.table_format.specs.declared.table.TaskTable.{TaskTable}
use Rattle.table_format.specs.Spelling.{Word, SaidStay, SaidLine, first_line, process_line, last_line, lines_before_end, table_bytes}
use Rattle.table_format.specs.Rules.{IsName, monitors_named, names_of_line, names_of_tasks, names, IsInRanges, CanBeMet, IsSmall, IsOneActivation, IsBegun, longest_text}

-- ---- what a line with a form says

-- a number: one digit or more, and the first of more is no 0
abbrev pub is_numeral : Word → Bool
is_numeral word = is_number word && has_no_leading_zero word

abbrev pub stay_meant : SaidStay → TaskStay
stay_meant s = record { monitor = s.monitor; ticks = value s.ticks }

-- what the words say, numbers by their values, which may be of any size
abbrev pub meant : SaidLine → TaskLine
meant s = record {
  name = s.name;
  event = s.event;
  frame = value s.frame;
  deadline = option_map value s.deadline;
  first = option_map value s.first;
  cost = value s.cost;
  stays = map stay_meant s.stays;
}

-- ---- lines that have the form of their place

-- one byte or more, none of them a space, CR or LF
pub record IsTableWord (word : Word) : Type 0 where
  pub is_word : IsWord word
  pub no_return : Lacks 13 word

-- the words in the places of numbers
abbrev pub numbers : SaidLine → List Word
numbers s = s.frame ∷ s.cost ∷ (option_to_list s.deadline ++ (option_to_list s.first ++ map (λ stay. stay.ticks) s.stays))

-- any words stand in the places of names, and numbers in those of numbers
pub record IsFormed (s : SaidLine) : Type 0 where
  pub words : All IsTableWord (names_of_line (meant s))
  pub numbers : All (λ word. IsTrue (is_numeral word)) (numbers s)
  pub activation : IsOneActivation (meant s)

-- the bytes begin with a first line, which gives the table this name
pub record BeginsWithFirst (bytes : List ℕ) (name : Word) : Type 0 where
  pub word : IsTableWord name
  pub rest : List ℕ
  pub is : bytes ≡ first_line name ++ rest

-- the bytes begin with a process line of these words
pub record BeginsWithProcess (bytes : List ℕ) (s : SaidLine) : Type 0 where
  pub form : IsFormed s
  pub rest : List ℕ
  pub is : bytes ≡ process_line s ++ rest

abbrev pub BeginsWithLast : List ℕ → Type 0
BeginsWithLast bytes = (rest : List ℕ) × (bytes ≡ last_line ++ rest)

-- ---- what is wrong with a line that has a form

-- the table so far with one more process line
abbrev pub with_line : TaskTable → TaskLine → TaskTable
with_line t p = record t { tasks = t.tasks ++ p ∷ [] }

-- its process has a name of the table so far; its event has one, or that of its process; a monitor
-- of it has the name of the table, of a process or of an event, its own among them
abbrev pub HasTakenName : TaskTable → TaskLine → Type 0
HasTakenName t p =
    Contains (names t) p.name
    ⊎ IsSomeAnd p.event (λ event. Contains (p.name ∷ names t) event)
    ⊎ Any (λ monitor. Contains (names_of_tasks (with_line t p)) monitor) (monitors_named p)

-- what is wrong with a process line behind the table so far: T2 to T6
abbrev pub Breaks : TaskTable → TaskLine → (number : ℕ) → Type 0
Breaks t p number =
    -- a word is no name
    ((number ≡ 2) × ¬ All IsName (names_of_line p))
    -- a name is taken
    ⊎ ((number ≡ 3) × HasTakenName t p)
    -- a number is out of its range
    ⊎ ((number ≡ 4) × ¬ IsInRanges p)
    -- a stay or the cost cannot be met
    ⊎ ((number ≡ 5) × ¬ CanBeMet p)
    -- it is a process too many, or names a monitor or has a stay too many
    ⊎ ((number ≡ 6) × ¬ IsSmall (with_line t p))

-- ---- the fault of one line

-- the least number of what is wrong with it
pub record IsLeast (breaks : ℕ → Type 0) (number : ℕ) : Type 0 where
  pub is : breaks number
  pub least : (other : ℕ) → other < number → ¬ breaks other

-- the first line: it has no form (T1), or its word is no name (T2)
pub data IsFirstLineFault (bytes : List ℕ) (number : ℕ) : Type 0 where
  no_first : ((name : Word) → ¬ BeginsWithFirst bytes name) → number ≡ 1 → IsFirstLineFault bytes number
  no_name : (name : Word) → BeginsWithFirst bytes name → ¬ IsName name → number ≡ 2 → IsFirstLineFault bytes number

-- a line behind the table so far: it has no form, as where the text ends there (T1); it is a
-- process line (T2 to T6); or it is the last line and no process is before it (T6)
pub data IsNextLineFault (t : TaskTable) (bytes : List ℕ) (number : ℕ) : Type 0 where
  no_form : ((s : SaidLine) → ¬ BeginsWithProcess bytes s) → ¬ BeginsWithLast bytes → number ≡ 1 → IsNextLineFault t bytes number
  breaks : (s : SaidLine) → BeginsWithProcess bytes s → IsLeast (Breaks t (meant s)) number → IsNextLineFault t bytes number
  no_process : BeginsWithLast bytes → t.tasks ≡ [] → number ≡ 6 → IsNextLineFault t bytes number

-- ---- the fault of a text

-- T7 where it is too long, on line 0; else the fault of its first line; of the line behind a table
-- so far; or of a line behind the last one, which has no form
pub data IsTableFault (text : List ℕ) (number line : ℕ) : Type 0 where
  too_long : longest_text < length text → number ≡ 7 → line ≡ 0 → IsTableFault text number line
  of_first : length text ≤ longest_text → IsFirstLineFault text number → line ≡ 1 → IsTableFault text number line
  of_next : length text ≤ longest_text → (t : TaskTable) (rest : List ℕ) → text ≡ lines_before_end t ++ rest → IsBegun t
      → IsNextLineFault t rest number → line ≡ length t.tasks + 2 → IsTableFault text number line
  behind_end : length text ≤ longest_text → (t : TaskTable) (rest : List ℕ) → text ≡ table_bytes t ++ rest → IsBegun t → t.tasks ≢ []
      → rest ≢ [] → number ≡ 1 → line ≡ length t.tasks + 3 → IsTableFault text number line
