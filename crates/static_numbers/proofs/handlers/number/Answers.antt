use Rattle.std.proofs.Common.{ap, ◌∙◌}
use Rattle.syntax_tree.specs.Placed.{Constant, placed, placed_constant}
use Rattle.syntax_tree.specs.declared.place.Place.{Place}
use Rattle.static_rule.specs.Parts.{blame}
use Rattle.static_declarations.specs.Values.{Worth, value}
use Rattle.static_numbers.specs.Processes.{bad_handled}
use Rattle.static_numbers.proofs.handlers.number.Goals as goal

pub returns-clause-tried : goal.returns-clause-tried
returns-clause-tried c before known =
    c.blame-2.ensures
    ∙ ap (blame c.blame.new.first 39) (c.bad_handled.ensures before)
    ∙ ap (λ f. blame f 39 (bad_handled worth (record { before = before; number = number }))) (c.blame.ensures ∙ ap (blame c.args.first.now 35) (c.in_ok-repeated.ensures.place before known))
  where
    worth : Worth
    worth = value (placed c.args.declarations.now)

    number : Constant Place
    number = placed_constant c.args.number.now
