-- What is due of a text, of an image's bytes and of a script is one, and so is what is due of each
-- command.
use Rattle.std.specs.Prelude.{◌≡◌, ℕ, List, Option}
use Rattle.syntax_tree.specs.declared.place.Place.{Place}
use Rattle.syntax_tree.specs.Placed.{Prog}
use Rattle.image.specs.Named.{NamedImage}
use Rattle.image.specs.Raw.{named_of}
use Rattle.image.specs.declared.raw.RawImage.{RawImage}
use Rattle.command_due.specs.Source.{IsWritten, IsTextFault, Style, IsTimelyText, IsLateText}
use Rattle.command_due.specs.CommandsDue.{Outcome, IsRefused, IsReportDue, IsPrintDue, IsCompileDue, IsGoDue, IsImageFile, IsImageRefused, IsRunDue, IsMigrateDue}
use Rattle.command_due.specs.SpareDue.{IsSlackDue}
use Rattle.command_due.specs.AsmDue.{IsAsmDue, IsDisDue}
use Rattle.command_due.specs.TableDue.{IsTableDue}
use Rattle.machine_semantics.specs.Image.{Image, Script}
use Rattle.command_due.specs.Stops.{IsStop}
use Rattle.command_due.specs.StopDue.{IsWatchDue}
use Rattle.command_due.specs.ChartDue.{IsChartDue}
use Rattle.command_words.specs.declared.stop.Breakpoint.{Breakpoint}
use Rattle.command_due.specs.Lines.{IsSlackText}

-- ---- a program text

-- The law: a text is that of one program.
abbrev pub WrittenOnce : Type 0
WrittenOnce = (text : List ℕ) (g h : Prog Place) → IsWritten text g → IsWritten text h → g ≡ h

-- The law: and where it is that of a program, it has no fault.
abbrev pub WrittenOrFaulty : Type 0
WrittenOrFaulty = (text : List ℕ) (g : Prog Place) (number : ℕ) (place : Place) → IsWritten text g → IsTextFault text number place → ⊥

-- The law: two faults of a text have one number and one place.
abbrev pub TextsHaveOneFault : Type 0
TextsHaveOneFault =
    (text : List ℕ) (number other : ℕ) (place there : Place) → IsTextFault text number place → IsTextFault text other there
    → (number ≡ other) × (place ≡ there)

-- ---- a program in time

-- The law: a text that is timely with an overhead has one image.
abbrev pub TimelyTextsHaveOneImage : Type 0
TimelyTextsHaveOneImage = (over : ℕ) (text : List ℕ) (m n : NamedImage) → IsTimelyText over text m → IsTimelyText over text n → m ≡ n

-- The law: and it is not late.
abbrev pub TimelyTextsAreNotLate : Type 0
TimelyTextsAreNotLate = (show : Style) (over : ℕ) (text report : List ℕ) (n : NamedImage) → IsTimelyText over text n → IsLateText show over text report → ⊥

-- The law: the report of a text that is late is one.
abbrev pub LateReportsAreOne : Type 0
LateReportsAreOne = (show : Style) (over : ℕ) (text report other : List ℕ) → IsLateText show over text report → IsLateText show over text other → report ≡ other

-- The law: what is due of a text that is faulty or late is one.
abbrev pub RefusalsAreOne : Type 0
RefusalsAreOne = (show : Style) (over : ℕ) (text : List ℕ) (outcome other : Outcome) → IsRefused show over text outcome → IsRefused show over text other → outcome ≡ other

-- The law: a text that is timely is neither.
abbrev pub TimelyTextsAreNotRefused : Type 0
TimelyTextsAreNotRefused = (show : Style) (over : ℕ) (text : List ℕ) (n : NamedImage) (outcome : Outcome) → IsTimelyText over text n → IsRefused show over text outcome → ⊥

-- ---- an image's bytes

-- The law: bytes are those of one valid image, with its names.
abbrev pub ImagesHeldAreOne : Type 0
ImagesHeldAreOne = (bytes : List ℕ) (raw other : RawImage) → IsImageFile bytes raw → IsImageFile bytes other → named_of raw ≡ named_of other

-- The law: such bytes are not refused.
abbrev pub ImageFilesAreNotRefused : Type 0
ImageFilesAreNotRefused = (bytes : List ℕ) (raw : RawImage) (outcome : Outcome) → IsImageFile bytes raw → IsImageRefused bytes outcome → ⊥

-- The law: what is due of bytes that are refused is one.
abbrev pub ImageRefusalsAreOne : Type 0
ImageRefusalsAreOne = (bytes : List ℕ) (outcome other : Outcome) → IsImageRefused bytes outcome → IsImageRefused bytes other → outcome ≡ other

-- ---- the commands

-- The law: what is due of `check` and of `json` is one.
abbrev pub ReportsAreOne : Type 0
ReportsAreOne = (show : Style) (over : ℕ) (text : List ℕ) (outcome other : Outcome) → IsReportDue show over text outcome → IsReportDue show over text other → outcome ≡ other

-- The law: what the processes of an image can spare is told by one text.
abbrev pub SlackTextsAreOne : Type 0
SlackTextsAreOne = (n : NamedImage) (lines other : List ℕ) → IsSlackText n lines → IsSlackText n other → lines ≡ other

-- The law: what is due of `slack` is one.
abbrev pub SlackIsOne : Type 0
SlackIsOne = (over : ℕ) (text : List ℕ) (outcome other : Outcome) → IsSlackDue over text outcome → IsSlackDue over text other → outcome ≡ other

-- The law: what is due of `print` is one.
abbrev pub PrintIsOne : Type 0
PrintIsOne = (text : List ℕ) (outcome other : Outcome) → IsPrintDue text outcome → IsPrintDue text other → outcome ≡ other

-- The law: what is due of `compile` is one.
abbrev pub CompileIsOne : Type 0
CompileIsOne = (over : ℕ) (text : List ℕ) (outcome other : Outcome) → IsCompileDue over text outcome → IsCompileDue over text other → outcome ≡ other

-- The law: what is due of `go` is one.
abbrev pub GoIsOne : Type 0
GoIsOne = (over : ℕ) (program script : Option (List ℕ)) (outcome other : Outcome) → IsGoDue over program script outcome → IsGoDue over program script other → outcome ≡ other

-- The law: what is due of `run` is one.
abbrev pub RunIsOne : Type 0
RunIsOne = (image script : Option (List ℕ)) (outcome other : Outcome) → IsRunDue image script outcome → IsRunDue image script other → outcome ≡ other

-- The law: what is due of `migrate` is one.
abbrev pub MigrateIsOne : Type 0
MigrateIsOne = (bytes : List ℕ) (outcome other : Outcome) → IsMigrateDue bytes outcome → IsMigrateDue bytes other → outcome ≡ other

-- The law: what is due of `asm` is one.
abbrev pub AsmIsOne : Type 0
AsmIsOne = (text : List ℕ) (outcome other : Outcome) → IsAsmDue text outcome → IsAsmDue text other → outcome ≡ other

-- The law: what is due of `dis` is one.
abbrev pub DisIsOne : Type 0
DisIsOne = (bytes : List ℕ) (outcome other : Outcome) → IsDisDue bytes outcome → IsDisDue bytes other → outcome ≡ other

-- The law: a run stops before one tick.
abbrev pub StopsAreOne : Type 0
StopsAreOne = (image : Image) (script : Script) (stop : Breakpoint) (t other : ℕ) → IsStop image script stop t → IsStop image script stop other → t ≡ other

-- The law: what is due of `watch` is one.
abbrev pub WatchIsOne : Type 0
WatchIsOne =
    (stop : Breakpoint) (image script : Option (List ℕ)) (outcome other : Outcome) → IsWatchDue stop image script outcome → IsWatchDue stop image script other
    → outcome ≡ other

-- The law: what is due of `chart` is one.
abbrev pub ChartIsOne : Type 0
ChartIsOne =
    (first end : ℕ) (image script : Option (List ℕ)) (outcome other : Outcome) → IsChartDue first end image script outcome → IsChartDue first end image script other
    → outcome ≡ other

-- The law: what is due of `table` is one.
abbrev pub TableIsOne : Type 0
TableIsOne = (lines : List ℕ) (outcome other : Outcome) → IsTableDue lines outcome → IsTableDue lines other → outcome ≡ other
