-- What is promised of texts whose demand is met.
use Rattle.std.specs.Prelude.{ℕ, List}
use Rattle.syntax_tree.specs.Placed.{plain}
use Rattle.image.specs.Named.{NamedImage}
use Rattle.script.specs.declared.script.ScriptLine.{ScriptLine}
use Rattle.script.specs.Scripts.{IsScript}
use Rattle.script.specs.Meaning.{said}
use Rattle.command_due.specs.EdfDue.{IsFeasibleText}
use Rattle.command_answers.specs.Runs.{IsEdfRun}

-- The law: every run of the image of such a text, over a script for its names, is as promised.
abbrev pub FeasibleTextsKeepTheirWord : Type 0
FeasibleTextsKeepTheirWord = (text : List ℕ) (n : NamedImage) (points : ℕ) (is : IsFeasibleText text n points) (script : List ℕ) (lines : List ScriptLine) (end : ℕ)
    → IsScript n.names script lines end → IsEdfRun (plain is.tree) n.image (said lines end)
