use Rattle.std.proofs.Common.{◌≡◌, rules, to_z, of_z, w64}
use Rattle.std.proofs.lemmas.Int.{to_z-of_z}
use Rattle.message_rules.proofs.sentences.add_deadline.Goals as goal

pub returns : goal.returns
returns c =
    let same : to_z w64 (of_z w64 c.args.ticks) ≡ c.args.ticks = to_z-of_z w64 c.args.ticks (search rules) in
    let other : to_z w64 (of_z w64 c.args.frame) ≡ c.args.frame = to_z-of_z w64 c.args.frame (search rules) in
    rw (same, other) at c.add_both.ensures
