use Rattle.std.proofs.Common.{◌≡◌, List, map, drop}
use Rattle.syntax_tree.specs.Placed.{placed_member}
use Rattle.static_declarations.specs.Things.{learn, members_things}
use Rattle.static_declarations.specs.Seen.{Declared, known_things}
use Rattle.static_declarations.proofs.things.members.Given as goal

abbrev pub invariant-loop-one : goal.invariant-loop-one
invariant-loop-one l = (more : List Declared) → learn (known_things l.things.entries) (members_things (map placed_member (drop l.one-index l.list)) more) ≡ learn (known_things l.fn.things.entries) (members_things (map placed_member l.list) more)
