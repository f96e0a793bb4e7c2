use Rattle.std.proofs.Common.{◌≡◌, drop}
use Rattle.std.specs.Prelude.{find}
use Rattle.syntax_tree.specs.Parts.{same_place}
use Rattle.message_names.specs.Seen.{mentions_of}
use Rattle.message_names.proofs.lookup.mention_at.Given as goal

abbrev pub invariant-loop-mention : goal.invariant-loop-mention
invariant-loop-mention l = find (λ m. same_place m.place l.place) (mentions_of (drop l.mention-index l.mention-items)) ≡ find (λ m. same_place m.place l.place) (mentions_of l.mention-items)
