-- The image of a program without waits under earliest deadline first: where its demand is met, it
-- is admitted, and the machine can run it.
use Rattle.std.specs.Prelude.{ℕ, List}
use Rattle.syntax_tree.specs.declared.place.Place.{Place}
use Rattle.syntax_tree.specs.Placed.{Prog, plain}
use Rattle.image.specs.Named.{NamedImage}
use Rattle.image_loaded.specs.Shape.{IsShape}
use Rattle.script.specs.declared.script.ScriptLine.{ScriptLine}
use Rattle.script.specs.Scripts.{IsScript}
use Rattle.sched_demand.specs.declared.judging.Judgement.TheVariants as judgement
use Rattle.vm_law.specs.Suits.{Suits}
use Rattle.command_due.specs.Image.{IsEdfImage}
use Rattle.command_due.specs.Script.{run_of}
use Rattle.command_due.specs.Source.{IsWritten}
use Rattle.command_due.specs.Tasks.{IsAnswer}
use Rattle.edf_admission.specs.Admitted as admitted
use Rattle.edf_admission.specs.Admitted.{IsAdmitted}
use Rattle.edf_admission.specs.Ready.{CanBeRun}
use Rattle.edf_correct.specs.Waits.{HasNoWait}

-- The law: where no statement of a program waits, no WAIT stands in the code of its image.
abbrev pub WaitlessImagesHaveNoWait : Type 0
WaitlessImagesHaveNoWait = (text : List ℕ) (g : Prog Place) (n : NamedImage) → IsWritten text g → HasNoWait (plain g) → IsEdfImage (plain g) n → admitted.HasNoWait n.image

-- The law: the image of a program that is written, with a wait or without, is valid but for its
-- bounds, and has its numbers in the ranges of their fields, so that it can be kept as its bytes.
abbrev pub EdfImagesAreShapes : Type 0
EdfImagesAreShapes = (text : List ℕ) (g : Prog Place) (n : NamedImage) → IsWritten text g → IsEdfImage (plain g) n → IsShape n

-- The law: it has a plan, and its names are those of its parts.
abbrev pub EdfImagesCanBeRun : Type 0
EdfImagesCanBeRun = (text : List ℕ) (g : Prog Place) (n : NamedImage) → IsWritten text g → IsEdfImage (plain g) n → CanBeRun n

-- The law: each script that is written for its names suits it.
abbrev pub EdfScriptsSuit : Type 0
EdfScriptsSuit = (text : List ℕ) (g : Prog Place) (n : NamedImage) (script : List ℕ) (lines : List ScriptLine) (end : ℕ) → IsWritten text g → IsEdfImage (plain g) n
    → IsScript n.names script lines end → Suits n.image (run_of lines end)

-- The law: where the program has no wait, and the test answers that the demand of its image is
-- feasible, the image is admitted to run under earliest deadline first.
abbrev pub EdfImagesAreAdmitted : Type 0
EdfImagesAreAdmitted = (text : List ℕ) (g : Prog Place) (n : NamedImage) (count : ℕ) → IsWritten text g → HasNoWait (plain g) → IsEdfImage (plain g) n → IsAnswer n.image (judgement.Feasible count)
    → IsAdmitted n.image
