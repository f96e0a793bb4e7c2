use Rattle.std.proofs.Common.{[], subst}
use Rattle.syntax_tree.specs.Placed.{plain_expr}
use Rattle.static_declarations.specs.Things as thing
use Rattle.static_declarations.specs.Things.{named_at}
use Rattle.static_declarations.specs.Parts.{answer}
use Rattle.static_types.specs.Types.{is_of}
use Rattle.static_types.specs.Conduct.{strays}
use Rattle.static_semantics.specs.Typed.{IsOf}
use Rattle.wellformed_law.proofs.Basics.{keeps_rules, held, not_held}
use Rattle.wellformed_law.proofs.Uses.{sorts_same}
use Rattle.wellformed_law.proofs.Expressions.{is_of_fits}
use Rattle.wellformed_law.proofs.texts_well_formed.answers_fit.Goals as goal

pub returns : goal.returns
returns c g p at site here name s e kept mirrors written are listed =
    let keeps = keeps_rules g (answer name s e) kept.statements listed in
    let agree = held (is_of (named_at g) (thing.sort_of s) e) name keeps.mistyped in
    let stray = not_held (strays (named_at g) e) name keeps.misplaced in
    subst (λ t. IsOf here t (plain_expr e)) (sorts_same s) (is_of_fits g p at site here (thing.sort_of s) e [] kept mirrors written are agree stray)
