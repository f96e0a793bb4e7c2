-- What a program text is: a text whose tree keeps to all rules; and what its fault is, where it is
-- none.
use Rattle.std.specs.Prelude.{ℕ, List}
use Rattle.syntax_tree.specs.declared.place.Place.{Place}
use Rattle.syntax_tree.specs.Placed.{Prog}
use Rattle.static_rule.specs.First as rule
use Rattle.front_end.specs.Source.{IsTreeOf, IsSourceFault}
use Rattle.front_end.specs.declared.fault.SourceFault.{SourceFault}
use Rattle.front_end.specs.declared.fault.SourceFault.TheVariants.{Fault, Memory}
use Rattle.static_names.specs.Rules as names
use Rattle.static_names.specs.Resolved.{IsNamed}
use Rattle.static_names.specs.declared.named.NameFault.{NameFault}
use Rattle.static_names.specs.declared.named.NameFault.TheVariants as name_fault
use Rattle.static_semantics.specs.Static.{Fails, IsChecked}
use Rattle.static_semantics.specs.declared.rules.RuleFault.{RuleFault}
use Rattle.static_semantics.specs.declared.rules.RuleFault.TheVariants as rule_fault

-- the tree is that of the text, and keeps to the rules for names and to all static rules
pub record IsProgramOf (text : List ℕ) (g : Prog Place) : Type 0 where
  pub tree : IsTreeOf text g
  pub checked : IsChecked g

-- the tree is that of the text, and a rule for names fails first at the place
pub record IsMisnamed (text : List ℕ) (number : ℕ) (place : Place) : Type 0 where
  pub program : Prog Place
  pub tree : IsTreeOf text program
  pub first : rule.IsFirst (names.Fails program) (record { number = number; place = place })

-- the tree is that of the text, no rule for names fails, and a static rule fails first at the place
pub record IsMisruled (text : List ℕ) (number : ℕ) (place : Place) : Type 0 where
  pub program : Prog Place
  pub tree : IsTreeOf text program
  pub named : IsNamed program
  pub first : rule.IsFirst (Fails program) (record { number = number; place = place })

-- the text has the fault of this number at this place, which is of the first group that has one
pub data IsProgramFault (text : List ℕ) (number : ℕ) (place : Place) : Type 0 where
  -- its length, its tokens, or its grammar
  of_text : IsSourceFault text number place → IsProgramFault text number place
  of_names : IsMisnamed text number place → IsProgramFault text number place
  of_rules : IsMisruled text number place → IsProgramFault text number place

-- want of memory is no fault of a text
abbrev pub IsFaultOf : List ℕ → SourceFault → Type 0
IsFaultOf text (Fault number place) = IsProgramFault text number place
IsFaultOf text (Memory _) = Unit {0}

-- ---- what a fault of names and rules is told as

abbrev pub nominal : NameFault → SourceFault
nominal (name_fault.Rule number place) = Fault number place
nominal (name_fault.Memory e) = Memory e

abbrev pub regular : RuleFault → SourceFault
regular (rule_fault.Rule number place) = Fault number place
regular (rule_fault.Memory e) = Memory e
