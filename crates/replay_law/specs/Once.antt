-- What is due of `replay` is one.
use Rattle.std.specs.Prelude.{◌≡◌, ℕ, List, Option}
use Rattle.syntax_tree.specs.declared.place.Place.{Place}
use Rattle.syntax_tree.specs.Placed.{Prog}
use Rattle.script.specs.declared.script.ScriptLine.{ScriptLine}
use Rattle.command_due.specs.Source.{IsWritten}
use Rattle.command_due.specs.CommandsDue.{Outcome}
use Rattle.command_due.specs.ReplayDue.{IsJudged, IsReplayDue}

-- The law: what the log of a written program over a script comes to is one.
abbrev pub JudgementsAreOne : Type 0
JudgementsAreOne =
    (program : List ℕ) (g : Prog Place) (lines : List ScriptLine) (end : ℕ) (text : List ℕ) (outcome other : Outcome)
    → IsWritten program g → IsJudged g lines end text outcome → IsJudged g lines end text other → outcome ≡ other

-- The law: what is due of `replay` is one.
abbrev pub ReplayIsOne : Type 0
ReplayIsOne =
    (program script log : Option (List ℕ)) (outcome other : Outcome) → IsReplayDue program script log outcome → IsReplayDue program script log other
    → outcome ≡ other
