use Rattle.std.proofs.Common.{◌≡◌, List, map, drop}
use Rattle.syntax_tree.specs.Placed.{placed_var}
use Rattle.static_declarations.specs.Things.{learn, vars_things}
use Rattle.static_declarations.specs.Seen.{Declared, known_things}
use Rattle.static_declarations.proofs.things.vars.Given as goal

abbrev pub invariant-loop-var : goal.invariant-loop-var
invariant-loop-var l = (more : List Declared) → learn (known_things l.things.entries) (vars_things l.owner (map placed_var (drop l.var-index l.list)) more) ≡ learn (known_things l.fn.things.entries) (vars_things l.owner (map placed_var l.list) more)
