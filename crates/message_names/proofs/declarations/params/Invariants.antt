use Rattle.std.proofs.Common.{◌≡◌, ◌++◌, drop, map}
use Rattle.std.specs.Prelude.{flat_map}
use Rattle.syntax_tree.specs.Placed.{placed_param}
use Rattle.message_names.specs.Mentions.{param_mentions}
use Rattle.message_names.proofs.declarations.params.Given as goal

abbrev pub invariant-loop-one : goal.invariant-loop-one
invariant-loop-one l = l.mentions ++ flat_map (param_mentions l.scope) (map placed_param (drop l.one-index l.list)) ≡ l.fn.mentions ++ flat_map (param_mentions l.scope) (map placed_param l.list)
