-- Texts that have no tree, and trees whose names fail a rule.
use Rattle.std.proofs.Common.{◌≡◌, ℕ, List, subst}
use Rattle.out_of_memory.specs.Refused.{refused}
use Rattle.front_end.specs.Source.{IsTreeOf}
use Rattle.front_end.specs.declared.fault.SourceFault.{SourceFault}
use Rattle.front_end.specs.declared.fault.SourceFault.TheVariants as fault
use Rattle.static_names.specs.Resolved.{IsFault, IsNamed}
use Rattle.static_names.specs.declared.named.NameFault.{NameFault}
use Rattle.static_names.specs.declared.named.NameFault.TheVariants as name_fault
use Rattle.static_rule.specs.First.{IsFirst}
use Rattle.syntax_tree.specs.Placed.{Prog}
use Rattle.syntax_tree.specs.declared.place.Place.{Place}

-- a fault is no want of memory
differs : (f : SourceFault) (number : ℕ) (place : Place) → f ≡ fault.Fault number place → f ≡ fault.Memory refused → ⊥
differs f number place one other = cc

-- where only want of memory keeps a tree from being read, and that is not it, there is none
pub no_tree : (text : List ℕ) (f : SourceFault) (number : ℕ) (place : Place) → f ≡ fault.Fault number place → ((g : Prog Place) → IsTreeOf text g → f ≡ fault.Memory refused) → (g : Prog Place) → IsTreeOf text g → ⊥
no_tree text f number place one only g is = differs f number place one (only g is)

-- where a rule for names fails, not all names keep to the rules
pub misnamed : (g : Prog Place) (f : NameFault) (number : ℕ) (place : Place) → f ≡ name_fault.Rule number place → IsFault g f → IsNamed g → ⊥
misnamed g f number place one first named = named number place (subst (λ (h : NameFault). IsFault g h) one first).broken
