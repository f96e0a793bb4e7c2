-- What is told of a program.
use Rattle.std.specs.Prelude.{ℕ, Bool, true, false, List, Option, Some, None}
use Rattle.syntax_tree.specs.declared.place.Place.{Place}
use Rattle.syntax_tree.specs.Placed.{Prog, plain}
use Rattle.syntax_tree.specs.Plain.{Program}
use Rattle.sched_program.specs.Tasks.{IsInTime, IsNotInTime}
use Rattle.sched_program.specs.Fits.{IsFitText}
use Rattle.sched_program.specs.Levels.{IsWhyText}
use Rattle.command_due.specs.Source.{IsWritten}
use Rattle.compile.specs.Build.{IsLateOf}
use Rattle.compile.specs.declared.built.LateProgram.{LateProgram}
use Rattle.analysis_command.specs.declared.texts.JudgedBounds.{JudgedBounds}
use Rattle.analysis_command.specs.declared.why.WhyText.{WhyText}

abbrev pub IsJudged : Program → (over : ℕ) → (in_time : Bool) → Type 0
IsJudged g over true = IsInTime g over
IsJudged g over false = IsNotInTime g over

-- the text takes the bounds of the program apart, and the program is in time or it is not
pub record IsWhyOf (g : Program) (over : ℕ) (w : WhyText) : Type 0 where
  pub text : IsWhyText g over w.text
  pub judged : IsJudged g over w.in_time

-- ---- of a text

-- what the report shows of a program that is not in time; nothing of one that is
abbrev pub IsShownLate : Prog Place → (over : ℕ) → Option LateProgram → Type 0
IsShownLate g over None = IsInTime (plain g) over
IsShownLate g over (Some l) = IsNotInTime (plain g) over × IsLateOf g over l

-- the bounds of the program of the text, taken apart and judged
pub record AreBoundsOf (over : ℕ) (text : List ℕ) (b : JudgedBounds) : Type 0 where
  pub tree : Prog Place
  pub written : IsWritten text tree
  pub parts : IsWhyText (plain tree) over b.text
  pub late : IsShownLate tree over b.late

-- what fits of the program of the text
pub record IsFitOfText (over : ℕ) (text fits : List ℕ) : Type 0 where
  pub tree : Prog Place
  pub written : IsWritten text tree
  pub told : IsFitText (plain tree) over fits
