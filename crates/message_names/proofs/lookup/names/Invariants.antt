use Rattle.std.proofs.Common.{◌≡◌, ◌++◌, map, drop}
use Rattle.message_names.specs.Seen.{mentions_of}
use Rattle.message_names.proofs.lookup.names.Given as goal

abbrev pub invariant-loop-mention : goal.invariant-loop-mention
invariant-loop-mention l = map (λ n. n.now) l.names.items ++ map (λ m. m.name) (mentions_of (drop l.mention-index l.mention-items)) ≡ map (λ m. m.name) (mentions_of l.mention-items)
