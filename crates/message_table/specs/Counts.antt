-- No process, and processes, monitors and stays that are too many.
use Rattle.std.specs.Prelude.{ℕ, ◌-◌, Bool, true, false, ◌&&◌, not, List, [], ◌∷◌, ◌++◌, Option, Some, None, bytes_eq, length, option_map, ◌==◌, if◌then◌else◌}
use Rattle.std.specs.List.{list_any}
use Rattle.std.specs.Option.{option_or}
use Rattle.message_table.specs.Found.{found_at}
use Rattle.message_table.specs.Marks.{Mark}
use Rattle.message_table.specs.declared.fault.CountFault.{CountFault}
use Rattle.message_table.specs.declared.fault.CountFault.TheVariants as wrong
use Rattle.message_table.specs.declared.fault.Fault.TheVariants as fault
use Rattle.message_table.specs.declared.fault.Found.{Found}
use Rattle.message_table.specs.declared.part.Part.{Part}
use Rattle.message_table.specs.declared.part.Part.TheVariants.{End, Process, Stay}
use Rattle.message_table.specs.declared.part.Role.{Role}
use Rattle.message_table.specs.declared.part.Role.TheVariants as role

-- how many more processes and stays may come, and the monitors so far, each once
pub record Room : Type 0 where
  pub processes : ℕ
  pub stays : ℕ
  pub monitors : List (List ℕ)

abbrev pub room : (processes stays : ℕ) (monitors : List (List ℕ)) → Room
room processes stays monitors = record { processes = processes; stays = stays; monitors = monitors }

-- the room of a table without lines
abbrev pub whole_room : Room
whole_room = room 64 512 []

-- whether a monitor is named already
abbrev pub is_known : Room → (word : List ℕ) → Bool
is_known left word = list_any (λ monitor. bytes_eq monitor word) left.monitors

-- ---- what a word adds

-- the key of a part
abbrev pub with_key : Room → Part → Room
with_key left Process = room (left.processes - 1) left.stays left.monitors
with_key left Stay = room left.processes (left.stays - 1) left.monitors
with_key left part = left

-- the name of a monitor
abbrev pub with_monitor : Room → (word : List ℕ) → Room
with_monitor left word =
    if is_known left word then left else room left.processes left.stays (left.monitors ++ word ∷ [])

abbrev pub with_name : Room → Part → (word : List ℕ) → Room
with_name left Stay word = with_monitor left word
with_name left part word = left

abbrev pub with_word : Room → Role → (word : List ℕ) → Room
with_word left (role.Key part) word = with_key left part
with_word left (role.Name part) word = with_name left part word
with_word left (role.Ticks part) word = left
with_word left (role.NoKey part) word = left
with_word left (role.NoTicks part) word = left

-- ---- what a word is too much of

abbrev pub if_full : Bool → CountFault → Option CountFault
if_full true wrong = Some wrong
if_full false wrong = None

-- the key of a part: the last line without a process before it, the 65th process, the 513th stay
abbrev pub key_fault : Room → Part → Option CountFault
key_fault left End = if_full (left.processes == 64) wrong.NoProcess
key_fault left Process = if_full (left.processes == 0) wrong.Process
key_fault left Stay = if_full (left.stays == 0) wrong.Stay
key_fault left part = None

-- the 65th monitor
abbrev pub name_fault : Room → Part → (word : List ℕ) → Option CountFault
name_fault left Stay word = if_full (length left.monitors == 64 && not (is_known left word)) wrong.Monitor
name_fault left part word = None

abbrev pub word_fault : Room → Role → (word : List ℕ) → Option CountFault
word_fault left (role.Key part) word = key_fault left part
word_fault left (role.Name part) word = name_fault left part word
word_fault left (role.Ticks part) word = None
word_fault left (role.NoKey part) word = None
word_fault left (role.NoTicks part) word = None

abbrev pub miscounted : Mark → CountFault → Found
miscounted mark wrong = found_at mark (fault.Count wrong)

-- the first word that is too much
abbrev pub count_from : Room → List Mark → Option Found
count_from left [] = None
count_from left (mark ∷ marks) =
    option_or (option_map (miscounted mark) (word_fault left mark.role mark.word)) (count_from (with_word left mark.role mark.word) marks)

abbrev pub count_found : List Mark → Option Found
count_found marks = count_from whole_room marks
