-- The laws: the bounds of each loop are numbers of 32 bits, in every well-formed and in every
-- checked program.
use Rattle.syntax_tree.specs.Plain as plain_of
use Rattle.syntax_tree.specs.Placed.{Prog, plain}
use Rattle.syntax_tree.specs.declared.place.Place.{Place}
use Rattle.static_semantics.specs.Static.{IsChecked}
use Rattle.static_semantics.specs.WellFormed.{IsWellFormed}
use Rattle.code_measures.specs.Defined.{LoopsFit}

abbrev pub WellFormedLoopsFit : Type 0
WellFormedLoopsFit = (g : plain_of.Program) → IsWellFormed g → LoopsFit g

abbrev pub CheckedLoopsFit : Type 0
CheckedLoopsFit = (g : Prog Place) → IsChecked g → LoopsFit (plain g)
