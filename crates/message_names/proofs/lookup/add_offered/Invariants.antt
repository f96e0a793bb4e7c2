use Rattle.std.proofs.Common.{◌≡◌, ◌++◌, drop}
use Rattle.std.specs.Prelude.{filter}
use Rattle.message_names.specs.Reach.{is_offered}
use Rattle.message_names.specs.Seen.{mentions_of}
use Rattle.message_names.proofs.lookup.add_offered.Given as goal

abbrev pub invariant-loop-mention : goal.invariant-loop-mention
invariant-loop-mention l = l.offers ++ filter (is_offered l.sight l.place) (mentions_of (drop l.mention-index l.mention-items)) ≡ l.fn.offers ++ filter (is_offered l.sight l.place) (mentions_of l.mention-items)
