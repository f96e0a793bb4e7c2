-- What holds of every run of an image that is stored, and what status 0 and status 3 say of texts.
use Rattle.std.specs.Prelude.{◌≡◌, ◌++◌, ℕ, List, Option, Some, slice_get}
use Rattle.syntax_tree.specs.declared.place.Place.{Place}
use Rattle.syntax_tree.specs.Placed.{Prog, plain}
use Rattle.syntax_tree.specs.Plain as plain_of
use Rattle.source_semantics.specs.Source.{IsSourceRun}
use Rattle.machine_semantics.specs.Image.{Image, Process}
use Rattle.machine_semantics.specs.Run.{events}
use Rattle.sched_timing.specs.Timed.{IsInTime}
use Rattle.valid_image.specs.Valid.{IsValid}
use Rattle.valid_image_law.specs.ValidLaw.{IsSafe}
use Rattle.image.specs.declared.names.ImageNames.{ImageNames}
use Rattle.image.specs.Named.{NamedImage}
use Rattle.sched_table.specs.Report.{report_text}
use Rattle.script.specs.declared.script.ScriptLine.{ScriptLine}
use Rattle.script.specs.Scripts.{IsScript}
use Rattle.built_image.specs.Built.{IsBuilt}
use Rattle.sched_program.specs.Tasks as of_text
use Rattle.command_due.specs.Source.{IsWritten, report_of}
use Rattle.script.specs.Meaning.{said}
use Rattle.command_due.specs.Script.{run_of}
use Rattle.command_due.specs.CommandsDue.{stored, log}

-- a run is in time and size: each activation ends within its declared bound, where that is not past
-- the script's end; each bound is within its deadline; no release finds its process unfinished, no
-- process passes its sizes, none is stuck
pub record IsKept (image : Image) (lines : List ScriptLine) (end : ℕ) : Type 0 where
  pub in_time : IsInTime image (run_of lines end)
  pub safe : IsSafe image (run_of lines end)

-- so is every run over a script for these names, which respects their frames
abbrev pub KeepsItsWord : ImageNames → Image → Type 0
KeepsItsWord names image = (text : List ℕ) (lines : List ScriptLine) (end : ℕ) → IsScript names text lines end → IsKept image lines end

-- and the log of every such run is that of a run of the program
pub record IsFaithful (g : plain_of.Program) (n : NamedImage) : Type 0 where
  pub valid : IsValid n.image
  pub runs : (text : List ℕ) (lines : List ScriptLine) (end : ℕ) → IsScript n.names text lines end
      → IsSourceRun g (said lines end) (events n.image (run_of lines end))
  pub keeps : KeepsItsWord n.names n.image

-- The law of all that is built: the image of a program that is not too large is faithful to it.
abbrev pub BuiltImagesAreFaithful : Type 0
BuiltImagesAreFaithful = (text : List ℕ) (g : Prog Place) (over : ℕ) (n : NamedImage) → IsWritten text g → IsBuilt (plain g) over n → IsFaithful (plain g) n

-- ---- what a call has read, stored and put

-- each bound that the image declares is that of the text: the least solution of the recurrence
abbrev pub HasBoundsOf : plain_of.Program → (over : ℕ) → Image → Type 0
HasBoundsOf g over m = (k : ℕ) (p : Process) → slice_get m.processes k ≡ Some p → of_text.IsBoundOf g over k p.bound

-- accepted: the text is that of a program which is in time, by its text alone, and this is its image
pub record IsAccepted (over : ℕ) (held : Option (List ℕ)) (g : Prog Place) (n : NamedImage) : Type 0 where
  pub text : List ℕ
  pub is_held : held ≡ Some text
  pub written : IsWritten text g
  pub in_time : of_text.IsInTime (plain g) over
  pub built : IsBuilt (plain g) over n
  pub bounds : HasBoundsOf (plain g) over n.image
  pub faithful : IsFaithful (plain g) n

-- a program text that is not in time with the overhead, by the text alone
pub record IsUnsolved (over : ℕ) (held : Option (List ℕ)) : Type 0 where
  pub text : List ℕ
  pub is_held : held ≡ Some text
  pub tree : Prog Place
  pub written : IsWritten text tree
  pub late : of_text.IsNotInTime (plain tree) over

-- what a call of `go` that answers 0 has read, stored and put
pub record IsDone (over : ℕ) (program script : Option (List ℕ)) (put : List ℕ) (image : Option (List ℕ)) : Type 0 where
  pub tree : Prog Place
  pub built : NamedImage
  pub accepted : IsAccepted over program tree built
  pub text : List ℕ
  pub script_held : script ≡ Some text
  pub lines : List ScriptLine
  pub end : ℕ
  pub script_written : IsScript built.names text lines end
  pub is_stored : image ≡ Some (stored built)
  pub is_put : put ≡ report_of report_text built ++ log built lines end
