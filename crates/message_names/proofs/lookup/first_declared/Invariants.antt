use Rattle.std.proofs.Common.{◌≡◌, drop}
use Rattle.std.specs.Prelude.{find}
use Rattle.message_names.specs.Reach.{declares_name}
use Rattle.message_names.specs.Seen.{mentions_of}
use Rattle.message_names.proofs.lookup.first_declared.Given as goal

abbrev pub invariant-loop-mention : goal.invariant-loop-mention
invariant-loop-mention l = find (declares_name l.name) (mentions_of (drop l.mention-index l.mention-items)) ≡ find (declares_name l.name) (mentions_of l.mention-items)
