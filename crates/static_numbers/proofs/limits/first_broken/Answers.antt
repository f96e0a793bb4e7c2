use Rattle.std.proofs.Common.{ℕ, [], ◌∷◌}
use Rattle.syntax_tree.specs.Placed.{Prog, placed}
use Rattle.syntax_tree.specs.declared.place.Place.{Place}
use Rattle.static_rule.specs.First.{Either}
use Rattle.static_rule.specs.Parts.{FailsAmong}
use Rattle.static_numbers.specs.Types.{decls_bounds}
use Rattle.syntax_tree.specs.Parts.{processes, events}
use Rattle.static_numbers.specs.Processes.{all_handled}
use Rattle.static_numbers.specs.Rules.{bounds_rules, process_rules, event_rules, handler_rules, count_rules}
use Rattle.static_numbers.proofs.Walks.{first-sooner}
use Rattle.static_numbers.proofs.limits.first_broken.Goals as goal

pub returns : goal.returns
returns c =
    first-sooner bounds (Either activations (Either uses (Either handlers counts))) c.first_broken-bounds.result c.sooner-3.result c.sooner-4.result c.sooner-4.ensures c.first_broken-bounds.ensures
    (first-sooner activations (Either uses (Either handlers counts)) c.first_broken-activations.result c.sooner-2.result c.sooner-3.result c.sooner-3.ensures c.first_broken-activations.ensures
    (first-sooner uses (Either handlers counts) c.in_ok-events.events c.sooner.result c.sooner-2.result c.sooner-2.ensures c.in_ok-events.ensures
    (first-sooner handlers counts c.in_ok-handlers.handlers c.in_ok-counts.counts c.sooner.result c.sooner.ensures c.in_ok-handlers.ensures c.in_ok-counts.ensures)))
  where
    g : Prog Place
    g = placed c.args.declarations.now

    bounds : ℕ → Place → Type 0
    bounds = FailsAmong (bounds_rules g) (decls_bounds g.decls [])

    activations : ℕ → Place → Type 0
    activations = FailsAmong (process_rules g) (processes g.decls)

    uses : ℕ → Place → Type 0
    uses = FailsAmong (event_rules g) (events g.decls)

    handlers : ℕ → Place → Type 0
    handlers = FailsAmong (handler_rules g) (all_handled (processes g.decls))

    counts : ℕ → Place → Type 0
    counts = FailsAmong (count_rules g) (g ∷ [])
