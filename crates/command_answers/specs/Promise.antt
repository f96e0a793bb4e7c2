-- What a call that answers 0 has read, stored and put, and when one answers 3.
use Rattle.std.specs.Prelude.{◌≡◌, ◌≤◌, ◌++◌, ℕ, List, [], Option, Some, IsSomeAnd, length}
use Rattle.syntax_tree.specs.declared.place.Place.{Place}
use Rattle.syntax_tree.specs.Placed.{Prog, plain}
use Rattle.syntax_tree.specs.Bare.{bare}
use Rattle.syntax.specs.declared.token.Token.{Token}
use Rattle.syntax.specs.Tokens.{tokens, longest_text}
use Rattle.syntax_printer.specs.Canonical.{canonical}
use Rattle.syntax_printer.specs.ReadBack.{HasTree}
use Rattle.outside.specs.Outside.{Outside, Appends}
use Rattle.image.specs.Named.{NamedImage}
use Rattle.image.specs.Raw.{image_of, named_of}
use Rattle.image.specs.declared.raw.RawImage.{RawImage}
use Rattle.sched_table.specs.Report.{report_text}
use Rattle.sched_table.specs.Json.{report_json}
use Rattle.script.specs.declared.script.ScriptLine.{ScriptLine}
use Rattle.script.specs.Scripts.{IsScript}
use Rattle.command_words.specs.Calls.{Call, go, check, compile, json, slack, print, run, migrate, asm, dis, watch, replay, edf, why, fit, chart, table}
use Rattle.command_due.specs.Source.{IsWritten, IsWrittenAgain, Style, report_of}
use Rattle.command_due.specs.CommandsDue.{IsImageFile, stored, log}
use Rattle.command_due.specs.Runs.{KeepsItsWord, IsAccepted, IsUnsolved, IsDone}
use Rattle.command_due.specs.Lines.{IsSlackText}
use Rattle.image_reader.specs.Answer.{Holds}
use Rattle.image_format.specs.FormatLaw.{AreBytes}
use Rattle.asm_format.specs.Text.{text_of}
use Rattle.command_due.specs.Texts.{IsTextOf}
use Rattle.command_due.specs.StopDue.{IsStopText}
use Rattle.command_words.specs.declared.stop.Breakpoint.{Breakpoint}
use Rattle.base.specs.declared.event.Event.{Event}
use Rattle.source_semantics.specs.Source.{IsSourceRun}
use Rattle.built_image.specs.Named.{names_of}
use Rattle.script.specs.Meaning.{said}
use Rattle.command_due.specs.Script.{run_of}
use Rattle.event_log.specs.Logs.{IsLog}
use Rattle.command_due.specs.ReplayDue.{IsRecorded, run_line}
use Rattle.sched_demand.specs.declared.judging.Judgement.{Judgement}
use Rattle.sched_demand.specs.declared.judging.Judgement.TheVariants as judgement
use Rattle.command_due.specs.EdfDue.{IsFeasibleText, IsJudgedText, IsUnfit, edf_log}
use Rattle.command_due.specs.Report.{edf_report}
use Rattle.sched_program.specs.Tasks as of_text
use Rattle.run_chart.specs.Chart.{chart_text}
use Rattle.table_format.specs.declared.table.TaskTable.{TaskTable}
use Rattle.table_format.specs.Rules.{IsTable}
use Rattle.table_format.specs.Program.{program_of, table_text}
use Rattle.sched_program.specs.Levels.{IsWhyText}
use Rattle.sched_program.specs.Fits.{IsFitText}
use Rattle.command_answers.specs.Runs.{IsEdfRun}

-- the bytes that are stored of an image hold it, and it is valid
pub record IsHeld (n : NamedImage) : Type 0 where
  pub raw : RawImage
  pub named : named_of raw ≡ n
  pub valid : IsImageFile (stored n) raw

-- `go`: a program and a script are accepted, the image is stored, the report and the log are put
pub record HasGone (over : ℕ) (program image script : List ℕ) (before now : Outside) : Type 0 where
  pub text : List ℕ
  pub put : Appends before.out.taken now.out.taken text
  pub done : IsDone over (before.files.held program) (before.files.held script) text (now.files.held image)
  pub holds : IsHeld done.built

-- `compile`: a program is accepted, its image is stored, its report is put
pub record HasCompiled (over : ℕ) (program image : List ℕ) (before now : Outside) : Type 0 where
  pub tree : Prog Place
  pub built : NamedImage
  pub accepted : IsAccepted over (before.files.held program) tree built
  pub is_stored : now.files.held image ≡ Some (stored built)
  pub holds : IsHeld built
  pub put : Appends before.out.taken now.out.taken (report_of report_text built)

-- `check` and `json`: a program is accepted, its report is put
pub record HasReported (show : Style) (over : ℕ) (program : List ℕ) (before now : Outside) : Type 0 where
  pub tree : Prog Place
  pub built : NamedImage
  pub accepted : IsAccepted over (before.files.held program) tree built
  pub put : Appends before.out.taken now.out.taken (report_of show built)

-- `slack`: a program is accepted, what each of its processes can spare is put
pub record HasSpared (over : ℕ) (program : List ℕ) (before now : Outside) : Type 0 where
  pub tree : Prog Place
  pub built : NamedImage
  pub accepted : IsAccepted over (before.files.held program) tree built
  pub lines : List ℕ
  pub told : IsSlackText built lines
  pub put : Appends before.out.taken now.out.taken lines

-- the canonical text of the tree, where it is no longer than a text may be, has tokens, and these
-- have that tree, apart from places
abbrev pub ReadsBack : Prog Place → Type 0
ReadsBack tree = length (canonical (bare tree)) ≤ longest_text → (toks : List Token) × tokens (canonical (bare tree)) toks × HasTree (canonical (bare tree)) toks tree

-- `print`: the canonical text of a program is put; where it is no longer than a text may be it reads
-- back, and is that of a program with the same tree, apart from places
pub record HasPrinted (program : List ℕ) (before now : Outside) : Type 0 where
  pub text : List ℕ
  pub held : before.files.held program ≡ Some text
  pub tree : Prog Place
  pub written : IsWritten text tree
  pub put : Appends before.out.taken now.out.taken (canonical (bare tree))
  pub back : ReadsBack tree
  pub again : length (canonical (bare tree)) ≤ longest_text → IsWrittenAgain tree

-- `run`: an image is valid, whoever made it, and its log over the script is put; every run of it
-- over a script for its names is in time and size
pub record HasRun (image script : List ℕ) (before now : Outside) : Type 0 where
  pub bytes : List ℕ
  pub held : before.files.held image ≡ Some bytes
  pub raw : RawImage
  pub valid : IsImageFile bytes raw
  pub text : List ℕ
  pub script_held : before.files.held script ≡ Some text
  pub lines : List ScriptLine
  pub end : ℕ
  pub script_written : IsScript raw.names text lines end
  pub put : Appends before.out.taken now.out.taken (log (named_of raw) lines end)
  pub keeps : KeepsItsWord raw.names (image_of raw)

-- `migrate`: an image is valid, and the same image is stored in the present version: what is stored
-- holds it again
pub record HasMigrated (image target : List ℕ) (before now : Outside) : Type 0 where
  pub bytes : List ℕ
  pub held : before.files.held image ≡ Some bytes
  pub raw : RawImage
  pub valid : IsImageFile bytes raw
  pub is_stored : now.files.held target ≡ Some (stored (named_of raw))
  pub again : AreBytes bytes → IsImageFile (stored (named_of raw)) raw

-- `asm`: a text is that of an image, which is valid, and the bytes that hold it are stored; every run
-- of it over a script for its names is in time and size
pub record HasAssembled (text image : List ℕ) (before now : Outside) : Type 0 where
  pub lines : List ℕ
  pub held : before.files.held text ≡ Some lines
  pub raw : RawImage
  pub told : IsTextOf lines raw
  pub valid : IsImageFile (stored (named_of raw)) raw
  pub is_stored : now.files.held image ≡ Some (stored (named_of raw))
  pub keeps : KeepsItsWord raw.names (image_of raw)

-- `dis`: the text of an image, valid or not, is stored
pub record HasDisassembled (image text : List ℕ) (before now : Outside) : Type 0 where
  pub bytes : List ℕ
  pub held : before.files.held image ≡ Some bytes
  pub raw : RawImage
  pub is_image : Holds bytes raw
  pub is_stored : now.files.held text ≡ Some (text_of (named_of raw))

-- `watch`: an image is valid, and the state of its run over the script is put where it stops
pub record HasWatched (image script : List ℕ) (stop : Breakpoint) (before now : Outside) : Type 0 where
  pub bytes : List ℕ
  pub held : before.files.held image ≡ Some bytes
  pub raw : RawImage
  pub valid : IsImageFile bytes raw
  pub text : List ℕ
  pub script_held : before.files.held script ≡ Some text
  pub lines : List ScriptLine
  pub end : ℕ
  pub script_written : IsScript raw.names text lines end
  pub seen : List ℕ
  pub told : IsStopText (named_of raw) lines end stop seen
  pub put : Appends before.out.taken now.out.taken seen

-- `replay`: the events of a log are a run of a program over a script, and their number is put
pub record HasReplayed (program script log : List ℕ) (before now : Outside) : Type 0 where
  pub tree : Prog Place
  pub lines : List ScriptLine
  pub end : ℕ
  pub recorded : IsRecorded (before.files.held program) (before.files.held script) tree lines end
  pub text : List ℕ
  pub held : before.files.held log ≡ Some text
  pub events : List Event
  pub told : IsLog (names_of (plain tree)) text events
  pub run : IsSourceRun (plain tree) (said lines end) events
  pub put : Appends before.out.taken now.out.taken (run_line (length events))

-- `edf`: the demand of a program without waits is met, and its report and the log of its run under
-- earliest deadline first are put; so is every run of its image over a script for its names
pub record HasMetDeadlines (program script : List ℕ) (before now : Outside) : Type 0 where
  pub text : List ℕ
  pub held : before.files.held program ≡ Some text
  pub image : NamedImage
  pub points : ℕ
  pub feasible : IsFeasibleText text image points
  pub other : List ℕ
  pub script_held : before.files.held script ≡ Some other
  pub lines : List ScriptLine
  pub end : ℕ
  pub script_written : IsScript image.names other lines end
  pub put : Appends before.out.taken now.out.taken (edf_report image (judgement.Feasible points) ++ edf_log image lines end)
  pub keeps : (script' : List ℕ) (lines' : List ScriptLine) (end' : ℕ) → IsScript image.names script' lines' end'
      → IsEdfRun (plain feasible.tree) image.image (said lines' end')

-- `why`: the text of a program which is in time, by its text alone, and its bounds taken apart are put
pub record HasTakenApart (over : ℕ) (program : List ℕ) (before now : Outside) : Type 0 where
  pub text : List ℕ
  pub held : before.files.held program ≡ Some text
  pub tree : Prog Place
  pub written : IsWritten text tree
  pub in_time : of_text.IsInTime (plain tree) over
  pub parts : List ℕ
  pub told : IsWhyText (plain tree) over parts
  pub put : Appends before.out.taken now.out.taken parts

-- `fit`: the text of a program, in time or not, and what fits of it is put
pub record HasFitted (over : ℕ) (program : List ℕ) (before now : Outside) : Type 0 where
  pub text : List ℕ
  pub held : before.files.held program ≡ Some text
  pub tree : Prog Place
  pub written : IsWritten text tree
  pub fits : List ℕ
  pub told : IsFitText (plain tree) over fits
  pub put : Appends before.out.taken now.out.taken fits

-- `chart`: an image is valid, and the chart of its run over the script is put
pub record HasCharted (image script : List ℕ) (first behind : ℕ) (before now : Outside) : Type 0 where
  pub bytes : List ℕ
  pub held : before.files.held image ≡ Some bytes
  pub raw : RawImage
  pub valid : IsImageFile bytes raw
  pub text : List ℕ
  pub script_held : before.files.held script ≡ Some text
  pub lines : List ScriptLine
  pub end : ℕ
  pub script_written : IsScript raw.names text lines end
  pub put : Appends before.out.taken now.out.taken (chart_text (named_of raw) (run_of lines end) first behind)

-- `table`: a text is a task table, the text of its program is stored, and nothing is put; what is
-- stored is a program text, of a tree that is the table's program apart from places
pub record HasTabled (tasks program : List ℕ) (before now : Outside) : Type 0 where
  pub lines : List ℕ
  pub held : before.files.held tasks ≡ Some lines
  pub table : TaskTable
  pub is_table : IsTable lines table
  pub is_stored : now.files.held program ≡ Some (table_text table)
  pub tree : Prog Place
  pub written : IsWritten (table_text table) tree
  pub same : bare tree ≡ program_of table
  pub put : Appends before.out.taken now.out.taken []

-- what a call that answers 0 has done
abbrev pub HasDone : Call → (before now : Outside) → Type 0
HasDone (go program image script over) before now = HasGone over program image script before now
HasDone (check program over) before now = HasReported report_text over program before now
HasDone (compile program image over) before now = HasCompiled over program image before now
HasDone (json program over) before now = HasReported report_json over program before now
HasDone (slack program over) before now = HasSpared over program before now
HasDone (print program) before now = HasPrinted program before now
HasDone (run image script) before now = HasRun image script before now
HasDone (migrate image target) before now = HasMigrated image target before now
HasDone (asm text image) before now = HasAssembled text image before now
HasDone (dis image text) before now = HasDisassembled image text before now
HasDone (watch image script stop) before now = HasWatched image script stop before now
HasDone (replay program script log) before now = HasReplayed program script log before now
HasDone (edf program script) before now = HasMetDeadlines program script before now
HasDone (why program over) before now = HasTakenApart over program before now
HasDone (fit program over) before now = HasFitted over program before now
HasDone (chart image script first end) before now = HasCharted image script first end before now
HasDone (table tasks program) before now = HasTabled tasks program before now

-- the text is that of a program without waits, and the test does not say that its demand is met
abbrev pub IsUnmet : Option (List ℕ) → Type 0
IsUnmet held = IsSomeAnd held (λ text. (n : NamedImage) × (answer : Judgement) × IsJudgedText text n answer × IsUnfit answer)

-- among statuses below 6, the call answers 3 exactly where the recurrence of some process of the
-- program, by its text, has no solution within its deadline, and of `edf` where its program has no
-- wait and its demand is not met; a call that asks no program for its time never does
abbrev pub IsRefusedForTime : Call → Outside → Type 0
IsRefusedForTime (go program image script over) before = IsUnsolved over (before.files.held program)
IsRefusedForTime (check program over) before = IsUnsolved over (before.files.held program)
IsRefusedForTime (compile program image over) before = IsUnsolved over (before.files.held program)
IsRefusedForTime (json program over) before = IsUnsolved over (before.files.held program)
IsRefusedForTime (slack program over) before = IsUnsolved over (before.files.held program)
IsRefusedForTime (why program over) before = IsUnsolved over (before.files.held program)
IsRefusedForTime (edf program script) before = IsUnmet (before.files.held program)
IsRefusedForTime call before = ⊥
