-- Built images that can be run and stored, and whose reports can be written.
use Rattle.std.specs.Prelude.{ℕ, List, Result, Ok, Err}
use Rattle.image.specs.declared.names.ImageNames.{ImageNames}
use Rattle.script.specs.declared.script.Script.{Script}
use Rattle.sched_table.specs.declared.table.Table.{Table}
use Rattle.sched_table.specs.Json.{AreStrings}
use Rattle.sched_table.specs.Late.{IsNamed}
use Rattle.compile.specs.declared.built.Built.{Built}
use Rattle.compile.specs.declared.compiling.CompileFault.{CompileFault}
use Rattle.compile.specs.declared.compiling.CompileFault.TheVariants as fault
use Rattle.command_answers.specs.Acts.{CanRunByRanks}
use Rattle.command_answers.specs.Runnable.{IsRunnable}
use Rattle.image.specs.Bytes.{Second, bytes_of}
use Rattle.image.specs.Raw.{named_of}
use Rattle.image_loaded.specs.Shape.{AreOfValid}

-- the report has a name for each row, and strings can hold the names
pub record CanBeShown (names : ImageNames) (program : List ℕ) (table : Table) : Type 0 where
  pub named : IsNamed names table
  pub strings : AreStrings names program

-- the image can be run, its bytes are a file of it, and the report can be shown
pub record IsRunnableBuilt (b : Built) : Type 0 where
  pub image : IsRunnable (named_of b.image)
  pub held : AreOfValid (bytes_of Second (named_of b.image)) (named_of b.image)
  pub shown : CanBeShown b.image.names b.image.program b.table

-- the answers of `compile` have what is asked for what comes next
abbrev pub Readies : Result Built CompileFault → Type 0
Readies (Ok b) = IsRunnableBuilt b
Readies (Err (fault.Text number place)) = Unit {0}
Readies (Err (fault.Untimely l)) = CanBeShown l.names l.program l.table
Readies (Err (fault.Memory _)) = Unit {0}

abbrev pub RunsBuilt : Built → Script → Type 0
RunsBuilt b script = CanRunByRanks (named_of b.image) script
