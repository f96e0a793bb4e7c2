use Rattle.std.proofs.Common.{◌≡◌, ℕ, Option, sym, subst}
use Rattle.syntax_tree.specs.Placed.{Prog as Placed, placed}
use Rattle.syntax_tree.specs.declared.decl.Program.{Program}
use Rattle.syntax_tree.specs.declared.place.Place.{Place}
use Rattle.static_rule.specs.declared.violation.Violation.{Violation}
use Rattle.static_rule.specs.First.{IsFirstOf, Either, sooner}
use Rattle.static_rule.proofs.Soonest.{both}
use Rattle.static_types.specs.Rules.{StatementFails}
use Rattle.static_numbers.specs.Rules.{LimitFails}
use Rattle.static_calls.specs.Reaching.{ReachFails}
use Rattle.static_semantics.specs.Static.{Fails}
use Rattle.static_semantics.proofs.rules.first_broken.Goals as goal

-- the first of the failures of two groups of rules
joined : (f g : ℕ → Place → Type 0) (x y first : Option Violation) → first ≡ sooner x y → IsFirstOf f x → IsFirstOf g y → IsFirstOf (Either f g) first
joined f g x y first is h k = subst (IsFirstOf (Either f g)) (sym is) (both f g x y h k)

pub returns : goal.returns
returns c =
    let P : Program → Type 0 = λ t. IsFirstOf (Fails (placed t)) c.sooner-2.result in
    let g : Placed Place = placed c.in_ok-declarations.declarations in
    subst P c.in_ok-declarations.ensures
    (joined (StatementFails g) (Either (LimitFails g) (ReachFails g)) c.first_broken-statements.result c.sooner.result c.sooner-2.result c.sooner-2.ensures c.first_broken-statements.ensures
    (joined (LimitFails g) (ReachFails g) c.in_ok-limits.limits c.in_ok-reach.reach c.sooner.result c.sooner.ensures c.in_ok-limits.ensures c.in_ok-reach.ensures))
