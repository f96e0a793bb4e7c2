use Rattle.std.proofs.Common.{ap, ◌∙◌}
use Rattle.syntax_tree.specs.Placed.{placed}
use Rattle.static_numbers.specs.Places.{places_of}
use Rattle.message_rules.proofs.Counting.{counted}
use Rattle.message_rules.proofs.counts.look.Goals as goal

pub returns : goal.returns
returns c =
    counted (placed c.args.declarations.now) c.args.broken c.args.known.now c.look_at_kinds.new.known c.look_at_others.new.known _ _
    (ap (λ p. p.place) c.program-program.ensures) (c.in_ok-places.ensures ∙ ap (λ p. places_of (placed p)) c.program-program.ensures) c.look_at_kinds.ensures c.look_at_others.ensures
