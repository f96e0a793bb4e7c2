use Rattle.std.proofs.Common.{◌≡◌, false, rules, ap, ◌∙◌}
use Rattle.syntax_tree.specs.Placed.{placed}
use Rattle.syntax_tree.specs.Parts.{same_place}
use Rattle.static_declarations.specs.Values.{value}
use Rattle.message_rules.specs.Seen.{handled_of}
use Rattle.message_rules.proofs.Elsewhere.{other-number, number-place}
use Rattle.message_rules.proofs.handlers.number.Goals as goal

pub returns-else-eq : goal.returns-else-eq
returns-else-eq c more =
    let other : same_place c.args.number.now.place c.args.broken.place ≡ false = search rules in
    other-number (value (placed c.args.declarations.now)) c.args.broken c.args.known.now (handled_of c.args.before.now c.args.number.now) more
    (ap (λ p. same_place p c.args.broken.place) (number-place c.args.number.now) ∙ other)
