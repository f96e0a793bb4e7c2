-- What an act comes to, and when its run can be made.
use Rattle.std.specs.Prelude.{◌≡◌, ◌++◌, ℕ, List, [], Option, Some, None, IfSome, All, option_map}
use Rattle.image.specs.Named.{NamedImage}
use Rattle.valid_image.specs.Valid.{HasLimits, IsValid}
use Rattle.vm_plan.specs.HasPlan.{HasPlan}
use Rattle.vm_law.specs.Logged.{AreNamesOf}
use Rattle.vm_law.specs.Suits.{Suits}
use Rattle.vm_releases.specs.Begin.{script_of}
use Rattle.script.specs.declared.script.Script.{Script}
use Rattle.script.specs.declared.script.ScriptLine.{ScriptLine}
use Rattle.command_due.specs.CommandsDue.{Outcome, log}
use Rattle.event_log.specs.InRange.{AreIn}
use Rattle.edf_semantics.specs.Run.{events}
use Rattle.edf_machine.specs.Runnable.{IsRunnable}
use Rattle.command_due.specs.EdfDue.{edf_log}
use Rattle.command_words.specs.Calls.{Call}
use Rattle.command_answers.specs.declared.status.Status.{Status}
use Rattle.command_answers.specs.declared.status.Status.TheVariants as status
use Rattle.command_answers.specs.declared.act.RunnableImage.{RunnableImage}
use Rattle.command_answers.specs.declared.act.RunnableImage.TheVariants as by
use Rattle.command_answers.specs.declared.act.Store.{Store}
use Rattle.command_answers.specs.declared.act.PreparedRun.{PreparedRun}
use Rattle.command_answers.specs.declared.act.PreparedCall.{PreparedCall}
use Rattle.command_answers.specs.Files.{target_of}

abbrev pub number_of : Status → ℕ
number_of status.Done = 0
number_of status.Usage = 1
number_of status.Text = 2
number_of status.Late = 3
number_of status.Image = 4
number_of status.Script = 5
number_of (status.Unread name) = 6
number_of (status.Unwritten name) = 7
number_of status.Unput = 7
number_of status.Memory = 8
number_of status.Log = 9

-- the image that is run
abbrev pub image_in : RunnableImage → NamedImage
image_in (by.Ranks n) = n
image_in (by.Deadlines n) = n

-- its log over a script
abbrev pub log_by : RunnableImage → List ScriptLine → ℕ → List ℕ
log_by (by.Ranks n) lines end = log n lines end
log_by (by.Deadlines n) lines end = edf_log n lines end

-- the log of a run, if there is one
abbrev pub log_due : Option PreparedRun → List ℕ
log_due None = []
log_due (Some run) = log_by run.image run.script.lines run.script.end

-- the bytes that are stored, if any are
abbrev pub bytes_due : Option Store → Option (List ℕ)
bytes_due store = option_map (λ s. s.bytes.items) store

-- what the act comes to, if nothing fails
abbrev pub outcome_of : PreparedCall → Outcome
outcome_of act = record { status = number_of act.status; text = act.text ++ log_due act.run; image = bytes_due act.store }

-- what is stored is stored in the file that the call writes
abbrev pub IsAtTarget : Call → Option Store → Type 0
IsAtTarget call store = IfSome store (λ s. target_of call ≡ Some s.name.now)

-- a run by ranks, and one under earliest deadline first
abbrev pub by_ranks : NamedImage → Script → PreparedRun
by_ranks n script = record { image = by.Ranks n; script = script }

abbrev pub by_deadlines : NamedImage → Script → PreparedRun
by_deadlines n script = record { image = by.Deadlines n; script = script }

-- the machine can run the image over the script
pub record CanRunByRanks (n : NamedImage) (s : Script) : Type 0 where
  pub limits : HasLimits n.image
  pub valid : IsValid n.image
  pub plan : HasPlan n.image
  pub names : AreNamesOf n.names n.image
  pub script : Suits n.image (script_of s)

-- under earliest deadline first: the run is one that the machine takes, and each of its events has
-- a line
pub record CanRunByDeadlines (n : NamedImage) (script : Script) : Type 0 where
  pub plan : HasPlan n.image
  pub runnable : IsRunnable n.image (script_of script)
  pub lines : All (AreIn n.names) (events n.image (script_of script))

abbrev pub CanRunBy : RunnableImage → Script → Type 0
CanRunBy (by.Ranks n) script = CanRunByRanks n script
CanRunBy (by.Deadlines n) script = CanRunByDeadlines n script

abbrev pub CanRun : PreparedRun → Type 0
CanRun run = CanRunBy run.image run.script
