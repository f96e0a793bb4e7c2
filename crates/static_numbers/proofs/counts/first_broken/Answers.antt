use Rattle.std.proofs.Common.{[], ◌∷◌, ap, ◌∙◌}
use Rattle.syntax_tree.specs.Placed.{placed}
use Rattle.static_numbers.specs.Places.{places_of}
use Rattle.static_numbers.specs.Rules.{count_rules}
use Rattle.static_numbers.proofs.Walks.{first-noted}
use Rattle.static_numbers.proofs.counts.first_broken.Goals as goal

pub returns : goal.returns
returns c =
    let g = placed c.args.declarations.now in
    first-noted (count_rules g) (g ∷ []) c.tried.result (c.tried.ensures (c.in_ok-places.ensures ∙ ap (λ p. places_of (placed p)) c.program.ensures))
