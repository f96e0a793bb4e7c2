use Rattle.std.proofs.Common.{◌≡◌, ◌++◌, drop, map}
use Rattle.std.specs.Prelude.{flat_map}
use Rattle.syntax_tree.specs.Placed.{placed_var}
use Rattle.message_names.specs.Mentions.{var_mentions}
use Rattle.message_names.proofs.declarations.vars.Given as goal

abbrev pub invariant-loop-one : goal.invariant-loop-one
invariant-loop-one l = l.mentions ++ flat_map (var_mentions l.scope) (map placed_var (drop l.one-index l.list)) ≡ l.fn.mentions ++ flat_map (var_mentions l.scope) (map placed_var l.list)
