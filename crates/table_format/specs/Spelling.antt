-- How a task table is spelled: words with one space between them, numbers in decimal, each line
-- ended by LF.
use Rattle.std.specs.Prelude.{ℕ, List, [], ◌∷◌, ◌++◌, Option, Some, None, codes, decimal, map, flat_map, option_map}
use Rattle.text_fields.specs.Fields.{spaced}
use Rattle.table_format.specs.declared.table.TaskStay.{TaskStay}
use Rattle.table_format.specs.declared.table.TaskLine.{TaskLine}
use Rattle.table_format.specs.declared.table.TaskTable.{TaskTable}

abbrev pub Word : Type 0
Word = List ℕ

-- a line of these words
abbrev pub line_of : List Word → List ℕ
line_of words = spaced words ++ 10 ∷ []

-- ---- the words of a process line

pub record SaidStay : Type 0 where
  pub monitor : Word
  pub ticks : Word

-- a process line by its words, numbers as they are spelled
pub record SaidLine : Type 0 where
  pub name : Word
  pub event : Option Word
  pub frame : Word
  pub deadline : Option Word
  pub first : Option Word
  pub cost : Word
  pub stays : List SaidStay

-- a word behind its key, where it is given
abbrev pub with_key : (key : Word) → Option Word → List Word
with_key key None = []
with_key key (Some word) = key ∷ word ∷ []

abbrev pub stay_words : SaidStay → List Word
stay_words s = codes "stay" ∷ s.monitor ∷ s.ticks ∷ []

-- process P event E frame T deadline D first N cost C stay M S ..
abbrev pub process_words : SaidLine → List Word
process_words s =
    codes "process" ∷ s.name ∷ (with_key (codes "event") s.event
    ++ codes "frame" ∷ s.frame ∷ (with_key (codes "deadline") s.deadline
    ++ (with_key (codes "first") s.first
    ++ codes "cost" ∷ s.cost ∷ flat_map stay_words s.stays)))

abbrev pub said_stay : TaskStay → SaidStay
said_stay s = record { monitor = s.monitor; ticks = decimal s.ticks }

-- the words that say this, numbers in decimal
abbrev pub said : TaskLine → SaidLine
said p = record {
  name = p.name;
  event = p.event;
  frame = decimal p.frame;
  deadline = option_map decimal p.deadline;
  first = option_map decimal p.first;
  cost = decimal p.cost;
  stays = map said_stay p.stays;
}

-- ---- the lines of a table

abbrev pub first_line : (name : Word) → List ℕ
first_line name = line_of (codes "table" ∷ name ∷ [])

abbrev pub process_line : SaidLine → List ℕ
process_line s = line_of (process_words s)

abbrev pub last_line : List ℕ
last_line = codes "end\n"

-- its first line and its process lines
abbrev pub lines_before_end : TaskTable → List ℕ
lines_before_end t = first_line t.name ++ flat_map (λ p. process_line (said p)) t.tasks

-- the one spelling of a table
abbrev pub table_bytes : TaskTable → List ℕ
table_bytes t = lines_before_end t ++ last_line
