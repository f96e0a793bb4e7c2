use Rattle.std.proofs.Common.{◌≡◌, List, map, drop}
use Rattle.syntax_tree.specs.Placed.{placed_param}
use Rattle.static_declarations.specs.Things.{learn, params_things}
use Rattle.static_declarations.specs.Seen.{Declared, known_things}
use Rattle.static_declarations.proofs.things.params.Given as goal

abbrev pub invariant-loop-param : goal.invariant-loop-param
invariant-loop-param l = (more : List Declared) → learn (known_things l.things.entries) (params_things l.owner (map placed_param (drop l.param-index l.list)) more) ≡ learn (known_things l.fn.things.entries) (params_things l.owner (map placed_param l.list) more)
