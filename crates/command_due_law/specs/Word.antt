-- What the test says of a text.
use Rattle.std.specs.Prelude.{◌≡◌, ℕ, List}
use Rattle.image.specs.Named.{NamedImage}
use Rattle.sched_demand.specs.declared.judging.Judgement.{Judgement}
use Rattle.command_due.specs.EdfDue.{IsJudgedText}

-- The law: the test says one thing of a text.
abbrev pub AnswersOfTextsAreOne : Type 0
AnswersOfTextsAreOne = (text : List ℕ) (m n : NamedImage) (answer other : Judgement) → IsJudgedText text m answer → IsJudgedText text n other → answer ≡ other
