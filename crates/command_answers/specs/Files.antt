-- Which files a call reads and writes, and what is due of it by what they hold.
use Rattle.std.specs.Prelude.{ℕ, List, [], ◌∷◌, ◌++◌, Option, Some, None, IsSomeAnd}
use Rattle.image.specs.Named.{NamedImage}
use Rattle.image.specs.declared.raw.RawImage.{RawImage}
use Rattle.sched_table.specs.Report.{report_text}
use Rattle.sched_table.specs.Json.{report_json}
use Rattle.command_words.specs.Calls.{Call, go, check, compile, json, slack, print, run, migrate, asm, dis, watch, replay, edf, why, fit, chart, table}
use Rattle.syntax_tree.specs.declared.place.Place.{Place}
use Rattle.syntax_tree.specs.Placed.{Prog}
use Rattle.command_due.specs.Source.{IsTimelyText, IsWritten}
use Rattle.command_due.specs.CommandsDue.{Outcome, IsReportDue, IsPrintDue, IsCompileDue, IsGoDue, IsImageFile, IsRunDue, IsMigrateDue}
use Rattle.command_due.specs.SpareDue.{IsSlackDue}
use Rattle.command_due.specs.AsmDue.{IsAsmDue, IsDisDue}
use Rattle.command_due.specs.StopDue.{IsWatchDue}
use Rattle.command_due.specs.ReplayDue.{IsReplayDue, IsRecordedFor}
use Rattle.command_due.specs.EdfDue.{IsEdfDue, IsFeasibleText}
use Rattle.command_due.specs.WhyDue.{IsWhyDue}
use Rattle.command_due.specs.FitDue.{IsFitDue}
use Rattle.command_due.specs.ChartDue.{IsChartDue}
use Rattle.command_due.specs.TableDue.{IsTableDue}

-- what each name holds, if anything
abbrev pub Held : Type 0
Held = List ℕ → Option (List ℕ)

-- ---- which files

-- the file that is read first: that of the program, of the image, of its text or of the tasks
abbrev pub source_of : Call → List ℕ
source_of (go program image script over) = program
source_of (check program over) = program
source_of (compile program image over) = program
source_of (json program over) = program
source_of (slack program over) = program
source_of (print program) = program
source_of (run image script) = image
source_of (migrate image target) = image
source_of (asm text image) = text
source_of (dis image text) = image
source_of (watch image script stop) = image
source_of (replay program script log) = program
source_of (edf program script) = program
source_of (why program over) = program
source_of (fit program over) = program
source_of (chart image script first end) = image
source_of (table tasks program) = tasks

-- the file of the script, if one is read
abbrev pub script_of : Call → Option (List ℕ)
script_of (go program image script over) = Some script
script_of (run image script) = Some script
script_of (watch image script stop) = Some script
script_of (replay program script log) = Some script
script_of (edf program script) = Some script
script_of (chart image script first end) = Some script
script_of call = None

-- the file of the log, if one is read
abbrev pub log_file_of : Call → Option (List ℕ)
log_file_of (replay program script log) = Some log
log_file_of call = None

-- the name, if there is one
abbrev pub listed : Option (List ℕ) → List (List ℕ)
listed (Some name) = name ∷ []
listed None = []

-- all files that are read, in the order of the steps
abbrev pub sources_of : Call → List (List ℕ)
sources_of call = source_of call ∷ (listed (script_of call) ++ listed (log_file_of call))

-- the file that is written, if any is
abbrev pub target_of : Call → Option (List ℕ)
target_of (go program image script over) = Some image
target_of (compile program image over) = Some image
target_of (migrate image target) = Some target
target_of (asm text image) = Some image
target_of (dis image text) = Some text
target_of (table tasks program) = Some program
target_of call = None

-- ---- what is due

abbrev pub IsDue : Call → Held → Outcome → Type 0
IsDue (go program image script over) held outcome = IsGoDue over (held program) (held script) outcome
IsDue (check program over) held outcome = IsSomeAnd (held program) (λ text. IsReportDue report_text over text outcome)
IsDue (compile program image over) held outcome = IsSomeAnd (held program) (λ text. IsCompileDue over text outcome)
IsDue (json program over) held outcome = IsSomeAnd (held program) (λ text. IsReportDue report_json over text outcome)
IsDue (slack program over) held outcome = IsSomeAnd (held program) (λ text. IsSlackDue over text outcome)
IsDue (print program) held outcome = IsSomeAnd (held program) (λ text. IsPrintDue text outcome)
IsDue (run image script) held outcome = IsRunDue (held image) (held script) outcome
IsDue (migrate image target) held outcome = IsSomeAnd (held image) (λ bytes. IsMigrateDue bytes outcome)
IsDue (asm text image) held outcome = IsSomeAnd (held text) (λ lines. IsAsmDue lines outcome)
IsDue (dis image text) held outcome = IsSomeAnd (held image) (λ bytes. IsDisDue bytes outcome)
IsDue (watch image script stop) held outcome = IsWatchDue stop (held image) (held script) outcome
IsDue (replay program script log) held outcome = IsReplayDue (held program) (held script) (held log) outcome
IsDue (edf program script) held outcome = IsEdfDue (held program) (held script) outcome
IsDue (why program over) held outcome = IsSomeAnd (held program) (λ text. IsWhyDue over text outcome)
IsDue (fit program over) held outcome = IsSomeAnd (held program) (λ text. IsFitDue over text outcome)
IsDue (chart image script first end) held outcome = IsChartDue first end (held image) (held script) outcome
IsDue (table tasks program) held outcome = IsSomeAnd (held tasks) (λ lines. IsTableDue lines outcome)

-- the script is read: the program is timely, or of `replay` whatever its time, or of `edf` its
-- demand is met, or the image is a valid one
abbrev pub ReachesScript : Call → Held → Type 0
ReachesScript (go program image script over) held = IsSomeAnd (held program) (λ text. (n : NamedImage) × IsTimelyText over text n)
ReachesScript (run image script) held = IsSomeAnd (held image) (λ bytes. (raw : RawImage) × IsImageFile bytes raw)
ReachesScript (watch image script stop) held = IsSomeAnd (held image) (λ bytes. (raw : RawImage) × IsImageFile bytes raw)
ReachesScript (chart image script first end) held = IsSomeAnd (held image) (λ bytes. (raw : RawImage) × IsImageFile bytes raw)
ReachesScript (replay program script log) held = IsSomeAnd (held program) (λ text. (g : Prog Place) × IsWritten text g)
ReachesScript (edf program script) held = IsSomeAnd (held program) (λ text. (n : NamedImage) × (points : ℕ) × IsFeasibleText text n points)
ReachesScript call held = ⊥

-- the log is read: the script is one for the names of the program
abbrev pub ReachesLog : Call → Held → Type 0
ReachesLog (replay program script log) held = IsRecordedFor (held program) (held script)
ReachesLog call held = ⊥
