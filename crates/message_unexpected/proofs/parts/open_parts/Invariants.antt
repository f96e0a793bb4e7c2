use Rattle.std.proofs.Common.{◌≡◌, false, [], drop}
use Rattle.message_unexpected.specs.Parts.{open_behind}
use Rattle.message_unexpected.proofs.parts.open_parts.Given as goal

abbrev pub invariant-loop-index : goal.invariant-loop-index
invariant-loop-index l = open_behind l.is_behind_end (drop l.index l.before) l.opened.items ≡ open_behind false l.before []
