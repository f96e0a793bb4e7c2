use Rattle.std.proofs.Common.{◌≡◌, ◌++◌, map, take}
use Rattle.syntax_tree.specs.Placed.{placed_routine, plain_routine}
use Rattle.code_spec.specs.Numbering.{texts_of as owned}
use Rattle.code_names.specs.Texts.{owner_of, texts_of}
use Rattle.code_names.proofs.parts.list_all.Given as goal

abbrev pub invariant-loop-routine : goal.invariant-loop-routine
invariant-loop-routine l = texts_of l.texts ≡ texts_of l.fn.texts ++ owned (owner_of l.owner) (map plain_routine (map placed_routine (take l.routine-index l.routines)))
