-- The static rules, and programs that keep to them.
use Rattle.std.specs.Prelude.{ℕ}
use Rattle.syntax_tree.specs.Placed.{Prog}
use Rattle.syntax_tree.specs.declared.place.Place.{Place}
use Rattle.static_rule.specs.First.{Either, IsFirst}
use Rattle.static_names.specs.Resolved.{IsRead, IsNamed}
use Rattle.static_types.specs.Rules.{StatementFails}
use Rattle.static_numbers.specs.Rules.{LimitFails}
use Rattle.static_calls.specs.Reaching.{ReachFails}
use Rattle.static_semantics.specs.declared.rules.RuleFault.{RuleFault}
use Rattle.static_semantics.specs.declared.rules.RuleFault.TheVariants as fault_is

-- a static rule, by its number from 30 to 45, fails at a place of the program
abbrev pub Fails : Prog Place → ℕ → Place → Type 0
Fails g = Either (StatementFails g) (Either (LimitFails g) (ReachFails g))

-- the tree of some tokens, of which no rule for names and no static rule fails at any place
pub record IsChecked (g : Prog Place) : Type 0 where
  pub read : IsRead g
  pub named : IsNamed g
  pub checked : (number : ℕ) (place : Place) → ¬ Fails g number place

-- why the program is refused: the first rule that fails, or want of memory
abbrev pub IsFault : Prog Place → RuleFault → Type 0
IsFault g (fault_is.Rule number place) = IsFirst (Fails g) (record { number = number; place = place })
IsFault g (fault_is.Memory _) = Unit {0}
