-- What the answers of `read_written` mean.
use Rattle.std.specs.Prelude.{ℕ, List, Result, Ok, Err}
use Rattle.syntax_tree.specs.declared.decl.Program.{Program}
use Rattle.syntax_tree.specs.Placed.{placed}
use Rattle.command_due.specs.Source.{IsWritten, IsTextFault}
use Rattle.compile.specs.declared.read_text.ProgramTextFault.{ProgramTextFault}
use Rattle.compile.specs.declared.read_text.ProgramTextFault.TheVariants as fault

-- want of memory says nothing of the text
abbrev pub ReadsWritten : List ℕ → Result Program ProgramTextFault → Type 0
ReadsWritten text (Ok program) = IsWritten text (placed program)
ReadsWritten text (Err (fault.Text number place)) = IsTextFault text number place
ReadsWritten text (Err (fault.Memory _)) = Unit {0}
