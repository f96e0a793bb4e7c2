use Rattle.std.proofs.Common.{◌≡◌, ◌++◌, drop, map}
use Rattle.std.specs.Prelude.{flat_map}
use Rattle.syntax_tree.specs.Placed.{placed_constant}
use Rattle.message_names.specs.Mentions.{constant_mentions}
use Rattle.message_names.proofs.declarations.constants.Given as goal

abbrev pub invariant-loop-number : goal.invariant-loop-number
invariant-loop-number l = l.mentions ++ flat_map constant_mentions (map placed_constant (drop l.number-index l.list)) ≡ l.fn.mentions ++ flat_map constant_mentions (map placed_constant l.list)
