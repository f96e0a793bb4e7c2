-- What the answers of `compile` mean.
use Rattle.std.specs.Prelude.{◌≡◌, ℕ, List, Result, Ok, Err}
use Rattle.image.specs.Raw.{named_of}
use Rattle.sched_table.specs.Late.{IsNamed}
use Rattle.compile.specs.declared.built.Built.{Built}
use Rattle.compile.specs.declared.built.LateProgram.{LateProgram}
use Rattle.command_due.specs.Source.{Style, IsTextFault, IsTimelyText, IsLateText, report_of}
use Rattle.compile.specs.declared.compiling.CompileFault.{CompileFault}
use Rattle.compile.specs.declared.compiling.CompileFault.TheVariants as fault

-- the text is that of a timely program, and this is its image, with the table of its report
pub record IsImageOf (over : ℕ) (text : List ℕ) (b : Built) : Type 0 where
  pub timely : IsTimelyText over text (named_of b.image)
  pub report : (show : Style) → show b.image.names b.image.program b.table ≡ report_of show (named_of b.image)
  pub named : IsNamed b.image.names b.table

-- the text is that of a late program, with the table of its report
pub record IsLateWith (over : ℕ) (text : List ℕ) (l : LateProgram) : Type 0 where
  pub late : (show : Style) → IsLateText show over text (show l.names l.program l.table)
  pub named : IsNamed l.names l.table

-- want of memory says nothing of the text
abbrev pub Compiles : ℕ → List ℕ → Result Built CompileFault → Type 0
Compiles over text (Ok b) = IsImageOf over text b
Compiles over text (Err (fault.Text number place)) = IsTextFault text number place
Compiles over text (Err (fault.Untimely l)) = IsLateWith over text l
Compiles over text (Err (fault.Memory _)) = Unit {0}
