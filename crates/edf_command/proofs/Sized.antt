-- A program that is not too large has no fault of size.
use Rattle.std.proofs.Common.{◌≡◌, ℕ, subst}
use Rattle.syntax_tree.specs.declared.place.Place.{Place}
use Rattle.syntax_tree.specs.Placed.{Prog}
use Rattle.static_rule.specs.First.{IsFirst}
use Rattle.code_cost.specs.Rules.{SizeFails}
use Rattle.edf_command.specs.declared.shaping.ShapeFault.{ShapeFault}
use Rattle.edf_command.specs.declared.shaping.ShapeFault.TheVariants as fault
use Rattle.edf_command.specs.Steps.{IsSizeFault}

pub no_size_fault : (g : Prog Place) (why : ShapeFault) (number : ℕ) (place : Place) → why ≡ fault.TooLarge number place → IsSizeFault g why → ((n : ℕ) (p : Place) → ¬ SizeFails g n p) → ⊥
no_size_fault g why number place is fails fits =
    let first : IsFirst (SizeFails g) (record { number = number; place = place }) = subst (IsSizeFault g) is fails in
    fits number place first.broken
