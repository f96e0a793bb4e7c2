-- What is measured of a checked program is what is defined of it.
use Rattle.syntax_tree.specs.declared.place.Place.{Place}
use Rattle.syntax_tree.specs.Placed.{Prog, plain}
use Rattle.static_semantics.specs.Static.{IsChecked}
use Rattle.built_image_law.specs.Ready.{CheckedProgramsAreReady}
use Rattle.code_cost.specs.Parts.{measures_of}
use Rattle.code_measures.specs.Defined.{MeasuresAreDefined}
use Rattle.compile.specs.Loops.{CheckedLoopsFit}
use Rattle.code_cost.specs.Sizes.{AreDefined}

pub are_defined : CheckedProgramsAreReady → CheckedLoopsFit → MeasuresAreDefined → (g : Prog Place) → IsChecked g → AreDefined (plain g) (measures_of (plain g))
are_defined ready_law loop_law measure_law g checked = measure_law (plain g) (ready_law g checked).sound (loop_law g checked)
