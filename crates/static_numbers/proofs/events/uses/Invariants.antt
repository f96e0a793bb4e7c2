use Rattle.std.proofs.Common.{◌≡◌, ◌+◌, map, drop}
use Rattle.syntax_tree.specs.Placed.{placed, placed_decl}
use Rattle.syntax_tree.specs.declared.place.Place.{Place}
use Rattle.static_names.specs.Occurrences.{names, declared_at}
use Rattle.syntax_tree.specs.Parts.{processes}
use Rattle.static_numbers.specs.Processes.{users}
use Rattle.static_numbers.specs.Seen.{held, known_uses}
use Rattle.static_numbers.proofs.events.uses.Given as goal

abbrev pub invariant-loop-one : goal.invariant-loop-one
invariant-loop-one l = let declared = declared_at (names (placed l.declarations)) in (e : Place) → held (known_uses l.uses.entries e + users declared e (processes (map placed_decl (drop l.one-index l.one-items)))) ≡ held (users declared e (processes (map placed_decl l.one-items)))
