-- Why a text is no script: the first line that breaks a rule, and the least number of a rule that
-- it breaks.
use Rattle.std.specs.Prelude.{◌≡◌, ◌≤◌, ◌<◌, ◌+◌, ◌==◌, ◌⊎◌, ℕ, Bool, true, false, List, [], length, Option, Some, None, nat_lt, nat_le, fold, if◌then◌else◌}
use Rattle.image.specs.declared.names.ImageNames.{ImageNames}
use Rattle.script.specs.declared.script.ScriptLine.{ScriptLine}
use Rattle.script.specs.declared.script.ScriptLine.TheVariants.{Set, Occur}
use Rattle.script.specs.declared.fault.Flaw.{Flaw}
use Rattle.script.specs.declared.fault.Flaw.TheVariants.{Unknown, Early, Soon}
use Rattle.script.specs.declared.fault.ScriptFault.{ScriptFault}
use Rattle.script.specs.declared.fault.ScriptFault.TheVariants.{Bad}
use Rattle.script.specs.Saying.{Said, set, event, end, Begins}
use Rattle.script.specs.Scripts.{in_device, event_number, frame_of, tick_of, IsBegun, longest_text, most_lines}

-- the tick of the last of these lines
abbrev pub last_tick : List ScriptLine → Option ℕ
last_tick = fold (λ last line. Some (tick_of line)) None

abbrev pub last_after : ℕ → Option ℕ → ScriptLine → Option ℕ
last_after number last (Set tick dev value) = last
last_after number last (Occur tick other) = if other == number then Some tick else last

-- the tick of the last of these lines in which the event occurs
abbrev pub last_of : ℕ → List ScriptLine → Option ℕ
last_of number = fold (last_after number) None

-- the tick is not below the last one
abbrev pub is_from : ℕ → Option ℕ → Bool
is_from tick None = true
is_from tick (Some last) = nat_le last tick

-- the tick is above the last one
abbrev pub is_above : ℕ → Option ℕ → Bool
is_above tick None = true
is_above tick (Some last) = nat_lt last tick

-- an occurrence less than a frame after the last one
abbrev pub too_soon : ℕ → ℕ → Option ℕ → Option Flaw
too_soon tick frame None = None
too_soon tick frame (Some last) = if nat_lt tick (last + frame) then Some (Soon last tick) else None

abbrev pub event_too_soon : ImageNames → List ScriptLine → ℕ → Option ℕ → Option Flaw
event_too_soon names lines tick None = None
event_too_soon names lines tick (Some number) = too_soon tick (frame_of names number) (last_of number lines)

-- the first of three flaws: the name is not known, the tick is below the last one, or the
-- occurrence comes too soon
abbrev pub first_flaw : Option ℕ → Bool → Option Flaw → Option Flaw
first_flaw None in_order soon = Some Unknown
first_flaw (Some number) false soon = Some Early
first_flaw (Some number) true soon = soon

-- what is wrong with an occurrence of the event after these lines
abbrev pub event_flaw : ImageNames → List ScriptLine → ℕ → ℕ → Option Flaw
event_flaw names lines tick number = first_flaw (Some number) (is_from tick (last_tick lines)) (too_soon tick (frame_of names number) (last_of number lines))

-- what is wrong with a line that says this, after these lines
abbrev pub flaw : ImageNames → List ScriptLine → Said → Option Flaw
flaw names lines (set tick dev value) = first_flaw (in_device names dev) (is_from tick (last_tick lines)) None
flaw names lines (event tick name) =
    first_flaw (event_number names name) (is_from tick (last_tick lines)) (event_too_soon names lines tick (event_number names name))
flaw names lines (end tick) = if is_above tick (last_tick lines) then None else Some Early

-- the fault of a flaw on this line of the text
abbrev pub flaw_fault : ℕ → Flaw → ScriptFault
flaw_fault line Unknown = Bad 2 line 0 0
flaw_fault line Early = Bad 3 line 0 0
flaw_fault line (Soon last tick) = Bad 4 line last tick

-- the first line of the bytes is in no form; so are bytes without an LF
pub record IsUnread (bytes : List ℕ) : Type 0 where
  pub some : 0 < length bytes
  pub none : (said : Said) (rest : List ℕ) → ¬ Begins bytes said rest

-- the first line of the bytes is right after these lines, and says this
pub record IsRight (names : ImageNames) (lines : List ScriptLine) (bytes : List ℕ) (said : Said) (rest : List ℕ) : Type 0 where
  pub begins : Begins bytes said rest
  pub right : flaw names lines said ≡ None

-- the first line of the bytes says this, which has a flaw after these lines
pub record IsWrong (names : ImageNames) (lines : List ScriptLine) (bytes : List ℕ) (line : ℕ) (fault : ScriptFault) : Type 0 where
  pub said : Said
  pub rest : List ℕ
  pub begins : Begins bytes said rest
  pub kind : Flaw
  pub wrong : flaw names lines said ≡ Some kind
  pub is : fault ≡ flaw_fault line kind

-- the first line of the bytes is faulty by itself or after these lines: S1 to S4
abbrev pub IsLineFault : ImageNames → List ScriptLine → List ℕ → ℕ → ScriptFault → Type 0
IsLineFault names lines bytes line fault = (IsUnread bytes × (fault ≡ Bad 1 line 0 0)) ⊎ IsWrong names lines bytes line fault

-- the first line of the bytes follows the one that says the end: S1 to S4, else S5
abbrev pub IsFaultOfRest : ImageNames → List ScriptLine → List ℕ → ℕ → ScriptFault → Type 0
IsFaultOfRest names lines bytes line fault =
    IsLineFault names lines bytes line fault
    ⊎ ((next : Said) × (after : List ℕ) × IsRight names lines bytes next after × (fault ≡ Bad 5 line 0 0))

-- S6: the text is too long
pub record IsLong (text : List ℕ) (fault : ScriptFault) : Type 0 where
  pub long : longest_text < length text
  pub is : fault ≡ Bad 6 0 0 0

-- the fault of the line after these: S1 to S4, S5 where the text ends there, or S6 where the line
-- is one too many
abbrev pub IsFaultHere : ImageNames → List ScriptLine → List ℕ → ScriptFault → Type 0
IsFaultHere names lines rest fault =
    IsLineFault names lines rest (length lines + 1) fault
    ⊎ ((rest ≡ []) × (fault ≡ Bad 5 (length lines + 1) 0 0))
    ⊎ ((length lines ≡ most_lines) × (next : Said) × (after : List ℕ) × IsRight names lines rest next after × (fault ≡ Bad 6 (length lines + 1) 0 0))

-- a line before the end is faulty, the lines before it being right
pub record IsFaultBeforeEnd (names : ImageNames) (text : List ℕ) (fault : ScriptFault) : Type 0 where
  pub short : length text ≤ longest_text
  pub said : List Said
  pub lines : List ScriptLine
  pub rest : List ℕ
  pub begun : IsBegun names text said lines rest
  pub few : length lines ≤ most_lines
  pub fault_is : IsFaultHere names lines rest fault

-- a line follows the one that says the end: S1 to S4, else S5
pub record IsFaultAfterEnd (names : ImageNames) (text : List ℕ) (fault : ScriptFault) : Type 0 where
  pub short : length text ≤ longest_text
  pub said : List Said
  pub lines : List ScriptLine
  pub bytes : List ℕ
  pub begun : IsBegun names text said lines bytes
  pub few : length lines + 1 ≤ most_lines
  pub last : ℕ
  pub rest : List ℕ
  pub ends : IsRight names lines bytes (end last) rest
  pub fault_is : IsFaultOfRest names lines rest (length lines + 2) fault

-- the fault of a text that is no script
abbrev pub IsFault : ImageNames → List ℕ → ScriptFault → Type 0
IsFault names text fault = IsLong text fault ⊎ IsFaultBeforeEnd names text fault ⊎ IsFaultAfterEnd names text fault
