-- What is due of `edf` is one.
use Rattle.std.specs.Prelude.{◌≡◌, ℕ, List, Option}
use Rattle.syntax_tree.specs.Plain.{Program}
use Rattle.machine_semantics.specs.Image.{Image}
use Rattle.image.specs.Named.{NamedImage}
use Rattle.code_measures.specs.Whole.{HasRanks}
use Rattle.command_due.specs.CommandsDue.{Outcome}
use Rattle.sched_demand.specs.declared.judging.Judgement.{Judgement}
use Rattle.command_due.specs.Image.{IsEdfImage}
use Rattle.command_due.specs.Tasks.{IsAnswer}
use Rattle.command_due.specs.EdfDue.{IsEdfDue}

-- The law: the image of a program under earliest deadline first is one.
abbrev pub EdfImagesAreOne : Type 0
EdfImagesAreOne = (g : Program) (m n : NamedImage) → IsEdfImage g m → IsEdfImage g n → m ≡ n

-- The law: the test of the demand says one thing of an image with its ranks, ceilings and blocks.
abbrev pub AnswersAreOne : Type 0
AnswersAreOne = (m : Image) (answer other : Judgement) → HasRanks m → IsAnswer m answer → IsAnswer m other → answer ≡ other

-- The law: what is due of `edf` is one.
abbrev pub EdfIsOne : Type 0
EdfIsOne = (program script : Option (List ℕ)) (outcome other : Outcome) → IsEdfDue program script outcome → IsEdfDue program script other → outcome ≡ other
