-- The laws: which line of a text has which fault.
use Rattle.std.specs.Prelude.{◌≡◌, ◌≤◌, ◌<◌, ◌↔◌, ◌⊎◌, ◌+◌, ℕ, false, List, [], length}
use Rattle.assembler.specs.Faults.{IsFaultOf, longest_text}
use Rattle.assembler.specs.Sections.{owners_in}
use Rattle.asm_law.specs.Notes.{Note, Wrong}
use Rattle.asm_law.specs.Layout.{Layout, finish, code, text}
use Rattle.asm_law.specs.Places.{Behind, IsRightLine, LacksForm, IsWrongLine}

-- all lines before the line are right, and such a fault stands there; lines count from 1
pub record StandsAt (Fault : Layout → List ℕ → Type 0) (bytes : List ℕ) (line : ℕ) : Type 0 where
  pub few : length bytes ≤ longest_text
  pub l : Layout
  pub rest : List ℕ
  pub before : ℕ
  pub behind : Behind (text (owners_in bytes)) bytes before l rest
  pub is : Fault l rest
  pub place : line ≡ before + 1

-- A1 exactly at the first line that is not right, where it has no form of its place
abbrev pub LacksOfFormAreA1 : Type 0
LacksOfFormAreA1 = (bytes : List ℕ) (line : ℕ) → IsFaultOf bytes 1 line ↔ StandsAt LacksForm bytes line

-- A2 exactly at the first line that is not right, where it has its form and something of it is
-- wrong, for which its image would have I4, I5 or I8
abbrev pub WrongLinesAreA2 : Type 0
WrongLinesAreA2 = (bytes : List ℕ) (line : ℕ) → IsFaultOf bytes 2 line ↔ StandsAt IsWrongLine bytes line

-- A3 exactly where the text is too long, on line 0
abbrev pub LongTextsAreA3 : Type 0
LongTextsAreA3 = (bytes : List ℕ) (line : ℕ) → IsFaultOf bytes 3 line ↔ ((longest_text < length bytes) × (line ≡ 0))

-- there are no other faults
abbrev pub NoOtherFaults : Type 0
NoOtherFaults = (bytes : List ℕ) (number line : ℕ) → IsFaultOf bytes number line → (number ≡ 1) ⊎ ((number ≡ 2) ⊎ (number ≡ 3))

-- there is no fault exactly where the text is short enough and all its lines are right, up to its end
abbrev pub RightTextsHaveNoFault : Type 0
RightTextsHaveNoFault =
    (bytes : List ℕ) → ((number line : ℕ) → IsFaultOf bytes number line → ⊥) ↔ ((length bytes ≤ longest_text) × ((lines : ℕ) × Behind (text (owners_in bytes)) bytes lines finish []))

-- ---- what is wrong in a line

-- something is wrong in a line where its image has I4, I5 or I8
abbrev pub WrongNotesAreOfImages : Type 0
WrongNotesAreOfImages = (x : Note) (fault : ℕ) → Wrong x fault → (fault ≡ 4) ⊎ ((fault ≡ 5) ⊎ (fault ≡ 8))

-- behind the last line no bytes are right
abbrev pub NothingIsBehindTheEnd : Type 0
NothingIsBehindTheEnd = (bytes : List ℕ) → LacksForm finish bytes ↔ (bytes ≡ [] → ⊥)

-- where the bytes end behind right lines, the text ends there, or the line that is missing has no
-- form
abbrev pub MissingLinesLackForm : Type 0
MissingLinesLackForm = (owners lines : ℕ) (bytes : List ℕ) (l : Layout) → Behind (text owners) bytes lines l [] → (l ≡ finish) ⊎ LacksForm l []

-- where there is no process, or an event is of none, the line behind the processes is not right
abbrev pub NothingStandsForAProcess : Type 0
NothingStandsForAProcess = (behind next : Layout) (bytes rest : List ℕ) → IsRightLine (code false behind) bytes next rest → ⊥
