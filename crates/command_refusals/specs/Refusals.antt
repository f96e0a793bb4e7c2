-- What is told of each call, by what its files hold.
use Rattle.std.specs.Prelude.{◌≡◌, ◌≢◌, ◌⊎◌, ℕ, Bool, List, Option, IsSomeAnd}
use Rattle.std.specs.Bool.{OnTrue}
use Rattle.syntax_tree.specs.declared.place.Place.{Place}
use Rattle.syntax_tree.specs.Placed.{Prog, plain}
use Rattle.image.specs.Named.{NamedImage}
use Rattle.image.specs.declared.names.ImageNames.{ImageNames}
use Rattle.image.specs.declared.raw.RawImage.{RawImage}
use Rattle.script.specs.declared.script.ScriptLine.{ScriptLine}
use Rattle.script.specs.Scripts.{IsScript}
use Rattle.built_image.specs.Named.{names_of}
use Rattle.command_words.specs.Calls.{Call, go, check, compile, json, slack, print, run, migrate, asm, dis, watch, replay, edf, why, fit, chart, table}
use Rattle.command_due.specs.Source.{IsTimelyText, IsWritten}
use Rattle.command_due.specs.CommandsDue.{Outcome, IsImageFile}
use Rattle.command_due.specs.EdfDue.{IsFeasibleText}
use Rattle.command_answers.specs.Files.{Held}
use Rattle.command_answers.specs.declared.act.PreparedCall.{PreparedCall}
use Rattle.command_answers.specs.Acts.{number_of, outcome_of}
use Rattle.command_refusals.specs.Told.{IsTextTold, IsProgramTold, IsDemandedTold, IsTableTold, IsBytesTold, IsImageTold, IsImageTextTold, IsScriptTold, IsLogTold}

-- ---- the names that a script is for

abbrev pub HasTimelyNames : (over : ℕ) (bytes : List ℕ) → ImageNames → Type 0
HasTimelyNames over bytes names = (n : NamedImage) × IsTimelyText over bytes n × (names ≡ n.names)

abbrev pub HasFeasibleNames : (bytes : List ℕ) → ImageNames → Type 0
HasFeasibleNames bytes names = (n : NamedImage) × (points : ℕ) × IsFeasibleText bytes n points × (names ≡ n.names)

abbrev pub HasWrittenNames : (bytes : List ℕ) → ImageNames → Type 0
HasWrittenNames bytes names = (g : Prog Place) × IsWritten bytes g × (names ≡ names_of (plain g))

abbrev pub HasImageNames : (bytes : List ℕ) → ImageNames → Type 0
HasImageNames bytes names = (raw : RawImage) × IsImageFile bytes raw × (names ≡ raw.names)

-- ---- calls

-- of a file that is read second: the script, or the script and the log
abbrev pub IsLaterTold : (Names : List ℕ → ImageNames → Type 0) (Later : ImageNames → List ℕ → Type 0) (bytes : List ℕ) (later : Option (List ℕ)) → Type 0
IsLaterTold Names Later bytes later = (names : ImageNames) × Names bytes names × IsSomeAnd later (Later names)

-- of a log, by the program of the source's text and by the script
abbrev pub IsReplayTold : (bytes : List ℕ) (script log : Option (List ℕ)) (Told : Prog Place → List ScriptLine → ℕ → List ℕ → Type 0) → Type 0
IsReplayTold bytes script log Told =
    (g : Prog Place) × (lines : List ScriptLine) × (end : ℕ) × IsWritten bytes g × IsSomeAnd script (λ text. IsScript (names_of (plain g)) text lines end) × IsSomeAnd log (Told g lines end)

-- of a call that reads a script: the source is told, or the script for its names
abbrev pub IsScriptedTold : (Told : List ℕ → Type 0) (Names : List ℕ → ImageNames → Type 0) (file : List ℕ) (source script : Option (List ℕ)) (outcome : Outcome) (message : List ℕ) → Type 0
IsScriptedTold Told Names file source script outcome message =
    IsSomeAnd source (λ bytes. Told bytes ⊎ IsLaterTold Names (λ names text. IsScriptTold names file text outcome message) bytes script)

-- what is told of a call that is refused
abbrev pub IsToldOf : Call → Held → (outcome : Outcome) (message : List ℕ) → Type 0
IsToldOf (go program image script over) held outcome message =
    IsScriptedTold (λ bytes. IsProgramTold over program bytes outcome message) (HasTimelyNames over) script (held program) (held script) outcome message
IsToldOf (check program over) held outcome message = IsSomeAnd (held program) (λ bytes. IsProgramTold over program bytes outcome message)
IsToldOf (compile program image over) held outcome message = IsSomeAnd (held program) (λ bytes. IsProgramTold over program bytes outcome message)
IsToldOf (json program over) held outcome message = IsSomeAnd (held program) (λ bytes. IsProgramTold over program bytes outcome message)
IsToldOf (slack program over) held outcome message = IsSomeAnd (held program) (λ bytes. IsProgramTold over program bytes outcome message)
IsToldOf (why program over) held outcome message = IsSomeAnd (held program) (λ bytes. IsProgramTold over program bytes outcome message)
IsToldOf (fit program over) held outcome message = IsSomeAnd (held program) (λ bytes. IsTextTold program bytes outcome message)
IsToldOf (print program) held outcome message = IsSomeAnd (held program) (λ bytes. IsTextTold program bytes outcome message)
IsToldOf (table tasks program) held outcome message = IsSomeAnd (held tasks) (λ bytes. IsTableTold tasks bytes outcome message)
IsToldOf (migrate image target) held outcome message = IsSomeAnd (held image) (λ bytes. IsImageTold image bytes outcome message)
IsToldOf (dis image text) held outcome message = IsSomeAnd (held image) (λ bytes. IsBytesTold image outcome message)
IsToldOf (asm text image) held outcome message = IsSomeAnd (held text) (λ bytes. IsImageTextTold text bytes outcome message)
IsToldOf (run image script) held outcome message =
    IsScriptedTold (λ bytes. IsImageTold image bytes outcome message) HasImageNames script (held image) (held script) outcome message
IsToldOf (watch image script stop) held outcome message =
    IsScriptedTold (λ bytes. IsImageTold image bytes outcome message) HasImageNames script (held image) (held script) outcome message
IsToldOf (chart image script first end) held outcome message =
    IsScriptedTold (λ bytes. IsImageTold image bytes outcome message) HasImageNames script (held image) (held script) outcome message
IsToldOf (edf program script) held outcome message =
    IsScriptedTold (λ bytes. IsDemandedTold program bytes outcome message) HasFeasibleNames script (held program) (held script) outcome message
IsToldOf (replay program script log) held outcome message =
    IsSomeAnd (held program) (λ bytes. IsTextTold program bytes outcome message
    ⊎ IsLaterTold HasWrittenNames (λ names text. IsScriptTold names script text outcome message) bytes (held script)
    ⊎ IsReplayTold bytes (held script) (held log) (λ g lines end text. IsLogTold g lines end log text outcome message))

-- what is told of an act that refuses
abbrev pub Explains : (told : Type 0) → PreparedCall → Type 0
Explains told act = number_of act.status ≢ 0 → told

-- what is told where a call was refused
abbrev pub IsExplained : Bool → Call → Held → (message : List ℕ) → PreparedCall → Type 0
IsExplained tells call held message act = OnTrue tells (Explains (IsToldOf call held (outcome_of act) message) act)
