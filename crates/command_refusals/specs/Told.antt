-- What a person is told of a call that is refused: the message of the fault whose line is put.
use Rattle.std.specs.Prelude.{◌≡◌, ◌⊎◌, ℕ, List, Some}
use Rattle.base.specs.declared.event.Event.{Event}
use Rattle.syntax_tree.specs.declared.place.Place.{Place}
use Rattle.syntax_tree.specs.Placed.{Prog, plain}
use Rattle.source_semantics.specs.Config.{start}
use Rattle.script.specs.declared.script.ScriptLine.{ScriptLine}
use Rattle.script.specs.Meaning.{said}
use Rattle.built_image.specs.Named.{names_of}
use Rattle.event_log.specs.Logs.{IsLog}
use Rattle.image.specs.Named.{NamedImage}
use Rattle.image.specs.declared.names.ImageNames.{ImageNames}
use Rattle.image.specs.Raw.{image_of, named_of}
use Rattle.image.specs.declared.raw.RawImage.{RawImage}
use Rattle.image_reader.specs.Answer.{Holds}
use Rattle.faulty_part.specs.declared.part.PartFault.{PartFault}
use Rattle.faulty_part.specs.Law.{shown_part}
use Rattle.faulty_part.specs.Parts.{part_fault}
use Rattle.sched_demand.specs.declared.judging.Judgement.{Judgement}
use Rattle.script.specs.declared.fault.ScriptFault.{ScriptFault}
use Rattle.event_log.specs.declared.fault.LogFault.{LogFault}
use Rattle.command_due.specs.Source.{Style, IsLateText, fault_line}
use Rattle.command_due.specs.CommandsDue.{Outcome, told, bad_script, image_fault_line, valid_fault_line}
use Rattle.command_due.specs.AsmDue.{text_fault_line}
use Rattle.command_due.specs.Texts.{IsTextOf}
use Rattle.command_due.specs.TableDue.{table_fault_line}
use Rattle.command_due.specs.EdfDue.{IsJudgedText}
use Rattle.command_due.specs.ReplayDue.{log_fault_line, refused_line}
use Rattle.message_program.specs.Program.{IsProgramMessage}
use Rattle.message_program.specs.Late.{late_message, demand_message}
use Rattle.message_table.specs.Message.{table_message}
use Rattle.message_log.specs.Image.{image_message, image_text_message, valid_message}
use Rattle.message_script.specs.Message.{script_message}
use Rattle.message_log.specs.Log.{log_message}
use Rattle.message_log.specs.Refused.{refused_message}
use Rattle.replay_reason_spec.specs.Findings.{IsRefusedFor}
use Rattle.replay_reason_spec.specs.declared.reason.Reason.{Reason}

-- ---- program texts

-- the fault of a program text
pub record IsTextTold (file bytes : List ℕ) (outcome : Outcome) (message : List ℕ) : Type 0 where
  pub number : ℕ
  pub place : Place
  pub put : outcome ≡ told 2 (fault_line number place)
  pub is : IsProgramMessage file bytes number place message

-- what is told in place of the report of a program that is late
abbrev pub late_style : (file : List ℕ) (over : ℕ) → Style
late_style file over names program table = late_message file over names table

-- a program that is late, told by the table of its report
pub record IsLateTold (over : ℕ) (file bytes : List ℕ) (outcome : Outcome) (message : List ℕ) : Type 0 where
  pub late : outcome.status ≡ 3
  pub is : IsLateText (late_style file over) over bytes message

-- either of them
abbrev pub IsProgramTold : (over : ℕ) (file bytes : List ℕ) (outcome : Outcome) (message : List ℕ) → Type 0
IsProgramTold over file bytes outcome message = IsTextTold file bytes outcome message ⊎ IsLateTold over file bytes outcome message

-- a program whose demand is not met
pub record IsDemandTold (file bytes : List ℕ) (outcome : Outcome) (message : List ℕ) : Type 0 where
  pub late : outcome.status ≡ 3
  pub image : NamedImage
  pub answer : Judgement
  pub judged : IsJudgedText bytes image answer
  pub is : message ≡ demand_message file answer

abbrev pub IsDemandedTold : (file bytes : List ℕ) (outcome : Outcome) (message : List ℕ) → Type 0
IsDemandedTold file bytes outcome message = IsTextTold file bytes outcome message ⊎ IsDemandTold file bytes outcome message

-- the fault of a task table
pub record IsTableTold (file bytes : List ℕ) (outcome : Outcome) (message : List ℕ) : Type 0 where
  pub number : ℕ
  pub line : ℕ
  pub put : outcome ≡ told 2 (table_fault_line number line)
  pub is : message ≡ table_message file bytes number line

-- ---- images

-- the fault of bytes that are no image
pub record IsBytesTold (file : List ℕ) (outcome : Outcome) (message : List ℕ) : Type 0 where
  pub number : ℕ
  pub offset : ℕ
  pub put : outcome ≡ told 4 (image_fault_line number offset)
  pub is : message ≡ image_message file number offset

-- the first fault of an image that is not valid, with the part of the image that it speaks of; what
-- was read is of that image
pub record IsInvalidTold (IsOf : RawImage → Type 0) (file : List ℕ) (outcome : Outcome) (message : List ℕ) : Type 0 where
  pub raw : RawImage
  pub read : IsOf raw
  pub fault : PartFault
  pub first : part_fault (image_of raw) ≡ Some fault
  pub put : outcome ≡ told 4 (valid_fault_line (shown_part fault))
  pub is : message ≡ valid_message file (named_of raw) fault

abbrev pub IsImageTold : (file bytes : List ℕ) (outcome : Outcome) (message : List ℕ) → Type 0
IsImageTold file bytes outcome message = IsBytesTold file outcome message ⊎ IsInvalidTold (Holds bytes) file outcome message

-- the fault of a text that is that of no image
pub record IsLinesTold (file bytes : List ℕ) (outcome : Outcome) (message : List ℕ) : Type 0 where
  pub number : ℕ
  pub line : ℕ
  pub put : outcome ≡ told 4 (text_fault_line number line)
  pub is : message ≡ image_text_message file bytes number line

abbrev pub IsImageTextTold : (file bytes : List ℕ) (outcome : Outcome) (message : List ℕ) → Type 0
IsImageTextTold file bytes outcome message = IsLinesTold file bytes outcome message ⊎ IsInvalidTold (IsTextOf bytes) file outcome message

-- ---- scripts and logs

-- the fault of a script, where these are the names that it is for
pub record IsScriptTold (names : ImageNames) (file bytes : List ℕ) (outcome : Outcome) (message : List ℕ) : Type 0 where
  pub fault : ScriptFault
  pub put : outcome ≡ bad_script fault
  pub is : message ≡ script_message file bytes names fault

-- the fault of the text of a log
pub record IsMisreadTold (names : ImageNames) (file bytes : List ℕ) (outcome : Outcome) (message : List ℕ) : Type 0 where
  pub fault : LogFault
  pub put : outcome ≡ told 9 (log_fault_line fault)
  pub is : message ≡ log_message file bytes names fault

-- the line of a log at which its events are no run of the program over the script, and why
pub record IsRefusedTold (g : Prog Place) (lines : List ScriptLine) (end : ℕ) (file bytes : List ℕ) (outcome : Outcome) (message : List ℕ) : Type 0 where
  pub line : ℕ
  pub put : outcome ≡ told 9 (refused_line line)
  pub events : List Event
  pub log : IsLog (names_of (plain g)) bytes events
  pub why : Reason
  pub refused : IsRefusedFor (plain g) (said lines end) (start (plain g)) events line why
  pub is : message ≡ refused_message file bytes line (names_of (plain g)) why

abbrev pub IsLogTold : (g : Prog Place) (lines : List ScriptLine) (end : ℕ) (file bytes : List ℕ) (outcome : Outcome) (message : List ℕ) → Type 0
IsLogTold g lines end file bytes outcome message = IsMisreadTold (names_of (plain g)) file bytes outcome message ⊎ IsRefusedTold g lines end file bytes outcome message
