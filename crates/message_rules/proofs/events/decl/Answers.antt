use Rattle.std.proofs.Common.{◌≡◌, ◌∷◌, false, rules, sym, ap, ◌∙◌}
use Rattle.syntax_tree.specs.Placed.{placed, placed_decl}
use Rattle.syntax_tree.specs.Parts.{events, same_place}
use Rattle.message_rules.specs.Findings.{event_findings}
use Rattle.message_rules.specs.Seen.{left}
use Rattle.message_rules.proofs.Elsewhere.{other-event}
use Rattle.message_rules.proofs.events.decl.Goals as goal

pub returns-else-eq : goal.returns-else-eq
returns-else-eq c rest =
    let g = placed c.args.declarations.now in
    let other : same_place c.in-Event.place c.args.broken.place ≡ false = search rules in
    other-event g c.args.broken c.args.known.now c.in-Event.place (events rest) other
    ∙ ap (λ d. left (event_findings g) c.args.broken c.args.known.now (events (placed_decl d ∷ rest))) (sym c.in-Event.is)
