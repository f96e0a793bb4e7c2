use Rattle.std.proofs.Common.{rules, map}
use Rattle.syntax_tree.specs.Placed.{placed_constant}
use Rattle.message_rules.specs.Seen.{left}
use Rattle.message_rules.proofs.handlers.number_at.Goals as goal

pub returns : goal.returns
unfolding left
returns c xs = let allowed = c.bad_handled.ensures (map placed_constant c.args.before.now) in search rules
