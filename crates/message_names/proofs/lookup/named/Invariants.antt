use Rattle.std.proofs.Common.{◌≡◌, drop}
use Rattle.std.specs.Prelude.{find, bytes_eq}
use Rattle.message_names.specs.Seen.{mentions_of}
use Rattle.message_names.proofs.lookup.named.Given as goal

abbrev pub invariant-loop-mention : goal.invariant-loop-mention
invariant-loop-mention l = find (λ m. bytes_eq m.name l.name) (mentions_of (drop l.mention-index l.mention-items)) ≡ find (λ m. bytes_eq m.name l.name) (mentions_of l.mention-items)
