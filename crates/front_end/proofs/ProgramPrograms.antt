-- The programs and the faults of texts, by those of trees, names and rules.
use Rattle.std.proofs.Common.{◌≡◌, ℕ, List, refl, subst}
use Rattle.out_of_memory.specs.Refused.{refused}
use Rattle.syntax_tree.specs.declared.place.Place.{Place}
use Rattle.syntax_tree.specs.Placed.{Prog}
use Rattle.static_names.specs.Resolved.{IsNamed, IsFault as IsNameFault}
use Rattle.static_names.specs.declared.named.NameFault.{NameFault}
use Rattle.static_names.specs.declared.named.NameFault.TheVariants as name_fault
use Rattle.front_end.specs.Source.{IsTreeOf}
use Rattle.static_semantics.specs.Static.{Fails, IsFault as IsRuleFault}
use Rattle.static_semantics.specs.declared.rules.RuleFault.{RuleFault}
use Rattle.static_semantics.specs.declared.rules.RuleFault.TheVariants as rule_fault
use Rattle.front_end.specs.declared.fault.SourceFault.TheVariants.{Memory}
use Rattle.front_end.specs.Program.{IsProgramOf, IsMisnamed, IsMisruled, of_text, of_names, of_rules, IsFaultOf, nominal, regular}
use Rattle.front_end.specs.ProgramLaws.{HasOneTree, HasOneProgram, HasProgramOrFault}
use Rattle.front_end.proofs.Texts.{HasTreeOrFault}

pub one_program : HasOneTree → HasOneProgram
one_program one text g h first second = one text g h first.tree second.tree

pub misnamed : HasOneTree → (text : List ℕ) (g : Prog Place) (number : ℕ) (place : Place) → IsTreeOf text g → IsNamed g → IsMisnamed text number place → ⊥
misnamed one text g number place tree named m = subst IsNamed (one text g m.program tree m.tree) named number place m.first.broken

pub misruled : HasOneTree → (text : List ℕ) (g : Prog Place) (number : ℕ) (place : Place) → IsTreeOf text g → ((n : ℕ) (p : Place) → ¬ Fails g n p) → IsMisruled text number place → ⊥
misruled one text g number place tree keeps m = subst (λ h. (n : ℕ) (p : Place) → ¬ Fails h n p) (one text g m.program tree m.tree) keeps number place m.first.broken

pub program_or_fault : HasOneTree → HasTreeOrFault → HasProgramOrFault
program_or_fault one apart text g number place is (of_text fault) = apart text g number place is.tree fault
program_or_fault one apart text g number place is (of_names m) = misnamed one text g number place is.tree is.checked.named m
program_or_fault one apart text g number place is (of_rules m) = misruled one text g number place is.tree is.checked.checked m

-- ---- what `read` answers

pub name_only : HasOneTree → (text : List ℕ) (t g : Prog Place) (fault : NameFault) → IsTreeOf text t → IsNameFault t fault → IsProgramOf text g → nominal fault ≡ Memory refused
name_only one text t g (name_fault.Rule number place) tree first is = absurd (subst IsNamed (one text g t is.tree tree) is.checked.named number place first.broken)
name_only one text t g (name_fault.Memory _) tree first is = refl

pub rule_only : HasOneTree → (text : List ℕ) (t g : Prog Place) (fault : RuleFault) → IsTreeOf text t → IsRuleFault t fault → IsProgramOf text g → regular fault ≡ Memory refused
rule_only one text t g (rule_fault.Rule number place) tree first is = absurd (subst (λ h. (n : ℕ) (p : Place) → ¬ Fails h n p) (one text g t is.tree tree) is.checked.checked number place first.broken)
rule_only one text t g (rule_fault.Memory _) tree first is = refl

pub rule_fault_is : (text : List ℕ) (t : Prog Place) (fault : RuleFault) → IsTreeOf text t → IsNamed t → IsRuleFault t fault → IsFaultOf text (regular fault)
rule_fault_is text t (rule_fault.Rule number place) tree named first = of_rules (record { program = t; tree = tree; named = named; first = first })
rule_fault_is text t (rule_fault.Memory _) tree named first = tt
