-- What is due of each command, by what the files that it reads hold.
use Rattle.std.specs.Prelude.{◌≡◌, ◌++◌, ℕ, List, [], Option, Some, None, codes, decimal}
use Rattle.out_of_memory.specs.Refused.{refused}
use Rattle.syntax_tree.specs.declared.place.Place.{Place}
use Rattle.syntax_tree.specs.Placed.{Prog}
use Rattle.syntax_tree.specs.Bare.{bare}
use Rattle.syntax_printer.specs.Canonical.{canonical}
use Rattle.image.specs.Named.{NamedImage}
use Rattle.image.specs.Raw.{image_of, named_of}
use Rattle.image.specs.declared.raw.RawImage.{RawImage}
use Rattle.image.specs.Bytes.{Second, bytes_of}
use Rattle.image_reader.specs.Answer.{Holds, HasFault}
use Rattle.valid_image.specs.Valid.{Shown, IsValid, fault_of}
use Rattle.machine_semantics.specs.Run.{events}
use Rattle.event_log.specs.Line.{log_of}
use Rattle.sched_table.specs.Report.{report_text}
use Rattle.script.specs.declared.script.ScriptLine.{ScriptLine}
use Rattle.script.specs.declared.fault.ScriptFault.{ScriptFault}
use Rattle.script.specs.declared.fault.ScriptFault.TheVariants as script_fault
use Rattle.script.specs.Scripts.{IsScript}
use Rattle.script.specs.Faults.{IsFault}
use Rattle.command_due.specs.Source.{IsWritten, IsTextFault, fault_line, Style, report_of, IsTimelyText, IsLateText}
use Rattle.command_due.specs.Script.{run_of, script_fault_line}

-- the status, the bytes that are put, and the bytes that are stored, if any are
pub record Outcome : Type 0 where
  pub status : ℕ
  pub text : List ℕ
  pub image : Option (List ℕ)

abbrev pub told : ℕ → List ℕ → Outcome
told status text = record { status = status; text = text; image = None }

-- ---- a program

-- what is due of a text but where its program is timely: the line of its fault, or the report of a
-- program that is late
pub data IsRefused (show : Style) (over : ℕ) (text : List ℕ) (outcome : Outcome) : Type 0 where
  faulty : (number : ℕ) (place : Place) → IsTextFault text number place → outcome ≡ told 2 (fault_line number place) → IsRefused show over text outcome
  late : (report : List ℕ) → IsLateText show over text report → outcome ≡ told 3 report → IsRefused show over text outcome

-- `check` and `json`: the report
pub data IsReportDue (show : Style) (over : ℕ) (text : List ℕ) (outcome : Outcome) : Type 0 where
  report_refused : IsRefused show over text outcome → IsReportDue show over text outcome
  report_timely : (n : NamedImage) → IsTimelyText over text n → outcome ≡ told 0 (report_of show n) → IsReportDue show over text outcome

-- `print`: the canonical text, which is asked no time
pub data IsPrintDue (text : List ℕ) (outcome : Outcome) : Type 0 where
  print_faulty : (number : ℕ) (place : Place) → IsTextFault text number place → outcome ≡ told 2 (fault_line number place) → IsPrintDue text outcome
  printed : (tree : Prog Place) → IsWritten text tree → outcome ≡ told 0 (canonical (bare tree)) → IsPrintDue text outcome

-- the bytes of an image
abbrev pub stored : NamedImage → List ℕ
stored n = bytes_of Second n

-- `compile`: the report is put, and the image is stored
pub data IsCompileDue (over : ℕ) (text : List ℕ) (outcome : Outcome) : Type 0 where
  compile_refused : IsRefused report_text over text outcome → IsCompileDue over text outcome
  compiled : (n : NamedImage) → IsTimelyText over text n
      → outcome ≡ record { status = 0; text = report_of report_text n; image = Some (stored n) } → IsCompileDue over text outcome

-- ---- a script

-- the log of an image over a script
abbrev pub log : NamedImage → List ScriptLine → ℕ → List ℕ
log n lines end = log_of n.names (events n.image (run_of lines end))

-- the text is no script for the names, with this fault
pub record IsScriptFault (n : NamedImage) (text : List ℕ) (fault : ScriptFault) : Type 0 where
  pub is : IsFault n.names text fault
  pub is_fault : ¬ (fault ≡ script_fault.Memory refused)

abbrev pub bad_script : ScriptFault → Outcome
bad_script fault = told 5 (script_fault_line fault)

-- the report and the log are put, and the image is stored
abbrev pub done : NamedImage → List ScriptLine → ℕ → Outcome
done n lines end = record { status = 0; text = report_of report_text n ++ log n lines end; image = Some (stored n) }

-- `go`, by the program's text and, where that is timely, the script's
pub data IsGoDue (over : ℕ) (program script : Option (List ℕ)) (outcome : Outcome) : Type 0 where
  go_refused : (text : List ℕ) → program ≡ Some text → IsRefused report_text over text outcome → IsGoDue over program script outcome
  go_bad_script : (text other : List ℕ) (n : NamedImage) (fault : ScriptFault) → program ≡ Some text → IsTimelyText over text n
      → script ≡ Some other → IsScriptFault n other fault → outcome ≡ bad_script fault → IsGoDue over program script outcome
  went : (text other : List ℕ) (n : NamedImage) (lines : List ScriptLine) (end : ℕ) → program ≡ Some text → IsTimelyText over text n
      → script ≡ Some other → IsScript n.names other lines end → outcome ≡ done n lines end → IsGoDue over program script outcome

-- ---- an image

abbrev pub image_fault_line : (number offset : ℕ) → List ℕ
image_fault_line number offset = codes "I" ++ (decimal number ++ (codes " " ++ (decimal offset ++ codes "\n")))

abbrev pub valid_fault_line : Shown → List ℕ
valid_fault_line f = codes "V" ++ (decimal f.number ++ (codes " " ++ (decimal f.a ++ (codes " " ++ (decimal f.b ++ codes "\n")))))

-- the bytes are those of the image, which is valid
pub record IsImageFile (bytes : List ℕ) (raw : RawImage) : Type 0 where
  pub held : Holds bytes raw
  pub valid : IsValid (image_of raw)

-- what is due of bytes that are no valid image: the line of their fault
pub data IsImageRefused (bytes : List ℕ) (outcome : Outcome) : Type 0 where
  misread : (number offset : ℕ) → HasFault bytes number offset → outcome ≡ told 4 (image_fault_line number offset) → IsImageRefused bytes outcome
  invalid : (raw : RawImage) (fault : Shown) → Holds bytes raw → fault_of (image_of raw) ≡ Some fault → outcome ≡ told 4 (valid_fault_line fault) → IsImageRefused bytes outcome

-- `run`, by the image's bytes and, where these are a valid image, the script's text
pub data IsRunDue (image script : Option (List ℕ)) (outcome : Outcome) : Type 0 where
  run_refused : (bytes : List ℕ) → image ≡ Some bytes → IsImageRefused bytes outcome → IsRunDue image script outcome
  run_bad_script : (bytes other : List ℕ) (raw : RawImage) (fault : ScriptFault) → image ≡ Some bytes → IsImageFile bytes raw
      → script ≡ Some other → IsScriptFault (named_of raw) other fault → outcome ≡ bad_script fault → IsRunDue image script outcome
  ran : (bytes other : List ℕ) (raw : RawImage) (lines : List ScriptLine) (end : ℕ) → image ≡ Some bytes → IsImageFile bytes raw
      → script ≡ Some other → IsScript raw.names other lines end → outcome ≡ told 0 (log (named_of raw) lines end) → IsRunDue image script outcome

-- `migrate`: the bytes of the same image, of the second version, are stored
pub data IsMigrateDue (bytes : List ℕ) (outcome : Outcome) : Type 0 where
  migrate_refused : IsImageRefused bytes outcome → IsMigrateDue bytes outcome
  migrated : (raw : RawImage) → IsImageFile bytes raw → outcome ≡ record { status = 0; text = []; image = Some (stored (named_of raw)) } → IsMigrateDue bytes outcome
