use Rattle.std.proofs.Common.{map}
use Rattle.loader_code.specs.TreesTold.{known_of}
use Rattle.loader_code.proofs.Short.{long_part}
use Rattle.loader_code.proofs.parts.part_found.Goals as goal

pub returns-then-is_too_long-clause-value : goal.returns-then-is_too_long-clause-value
returns-then-is_too_long-clause-value c = long_part c.args.code.now (map known_of c.args.known.now) c.args.tree.now c.args.at (c.is_too_long.ensures c.if-is_too_long.true)
