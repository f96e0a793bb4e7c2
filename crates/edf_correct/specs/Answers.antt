-- What the test of the demand says of a program.
use Rattle.syntax_tree.specs.Plain as plain_of
use Rattle.sched_demand.specs.declared.judging.Judgement.{Judgement}
use Rattle.image.specs.Named.{NamedImage}
use Rattle.command_due.specs.Image.{IsEdfImage}
use Rattle.command_due.specs.Tasks.{IsAnswer, IsAnswerFor}

-- The law: what the test says of a program, it says of its image.
abbrev pub AnswersAreOfTheImage : Type 0
AnswersAreOfTheImage = (g : plain_of.Program) (n : NamedImage) (answer : Judgement) → IsEdfImage g n → IsAnswerFor g answer → IsAnswer n.image answer
