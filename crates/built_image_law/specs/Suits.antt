-- Scripts for the names of a program, and its image.
use Rattle.std.specs.Prelude.{ℕ, List}
use Rattle.syntax_tree.specs.Plain.{Program}
use Rattle.machine_semantics.specs.Image.{Image}
use Rattle.code_spec.specs.Compiled.{IsCodeOf}
use Rattle.static_semantics.specs.WellFormed.{IsWellFormed}
use Rattle.code_lifting.specs.Compiled.{IsFrom}
use Rattle.image.specs.declared.names.ImageNames.{ImageNames}
use Rattle.script.specs.declared.script.ScriptLine.{ScriptLine}
use Rattle.script.specs.Scripts.{IsScript}
use Rattle.vm_law.specs.Suits.{HasFrames, Suits}
use Rattle.built_image.specs.Named.{names_of}
use Rattle.script.specs.Meaning.{said}
use Rattle.command_due.specs.Script.{run_of}

-- The law: in the names of a well-formed program, the frame that stands at an event is that of each
-- process that it releases.
abbrev pub NamesHaveFrames : Type 0
NamesHaveFrames = (g : Program) (m : Image) → IsWellFormed g → IsCodeOf g m → HasFrames (names_of g) m

-- The law: each script for the names of a well-formed program suits the image of the program.
abbrev pub ScriptsForTheNamesSuit : Type 0
ScriptsForTheNamesSuit = (g : Program) (m : Image) (text : List ℕ) (lines : List ScriptLine) (end : ℕ)
    → IsWellFormed g → IsCodeOf g m → IsScript (names_of g) text lines end → Suits m (run_of lines end)

-- The law: the lines of a script are in order to the meaning of programs, too.
abbrev pub ScriptsAreInOrder : Type 0
ScriptsAreInOrder = (names : ImageNames) (text : List ℕ) (lines : List ScriptLine) (end : ℕ) → IsScript names text lines end → IsFrom 0 (said lines end).lines
