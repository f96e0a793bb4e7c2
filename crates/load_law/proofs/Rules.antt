-- A tree of the load keeps to all rules.
use Rattle.std.proofs.Common.{ℕ, inl, inr}
use Rattle.syntax_tree.specs.declared.place.Place.{Place}
use Rattle.static_semantics.specs.Static.{Fails}
use Rattle.load_text_law.specs.Limits.{KeepsLimits}
use Rattle.load_text_law.specs.Numbers.{KeepsNumbers}
use Rattle.load_text_law.specs.Reach.{KeepsReach}
use Rattle.load_text_law.specs.Size.{IsShortCode}
use Rattle.load_law.specs.Rules.{KeepsNames, KeepsTypes, KeepsStacks, KeepsRules, KeepsSizes}

-- a rule for statements that fails is none of those for numbers, and none of the others
pub keeps_rules : KeepsNames → KeepsTypes → KeepsLimits → KeepsReach → KeepsNumbers → KeepsRules
keeps_rules names types limits reach numbers key count some few g read same = record {
  read = read;
  named = names key count few g same;
  checked = none;
} where
  none : (number : ℕ) (place : Place) → ¬ Fails g number place
  none number place (inl fails) = types key count few g read (names key count few g same) same number place (numbers key count g same number place fails) fails
  none number place (inr (inl fails)) = limits key count some few g same number place fails
  none number place (inr (inr fails)) = reach key count g same number place fails

pub keeps_sizes : IsShortCode → KeepsStacks → KeepsSizes
keeps_sizes short stacks key count few g same number place (inl fails) = short key count few g same place fails.1
keeps_sizes short stacks key count few g same number place (inr fails) = stacks key count few g same place fails.1
