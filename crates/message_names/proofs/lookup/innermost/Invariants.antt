use Rattle.std.proofs.Common.{◌≡◌, ◌&&◌, None, drop}
use Rattle.std.specs.Prelude.{bytes_eq, filter, fold}
use Rattle.message_names.specs.Reach.{inner, sees}
use Rattle.message_names.specs.Seen.{found, mentions_of}
use Rattle.message_names.proofs.lookup.innermost.Given as goal

abbrev pub invariant-loop-mention : goal.invariant-loop-mention
invariant-loop-mention l = fold inner (found l.known) (filter (λ m. bytes_eq m.name l.name && sees l.sight l.place m) (mentions_of (drop l.mention-index l.mention-items))) ≡ fold inner None (filter (λ m. bytes_eq m.name l.name && sees l.sight l.place m) (mentions_of l.mention-items))
