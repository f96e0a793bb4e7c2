-- What is told of the tree of a text is told of all that are its tree.
use Rattle.std.proofs.Common.{◌≡◌, ℕ, List, Option, Some, None, refl, ap, sym, ◌∙◌, subst}
use Rattle.front_end.specs.ProgramLaws.{HasOneTree}
use Rattle.front_end.specs.Source.{IsTreeOf}
use Rattle.message_program.specs.Program.{IsRuleTold, IsSaid, OrElse, rule_message, tree_name_message}
use Rattle.syntax_tree.specs.Placed.{Prog}
use Rattle.syntax_tree.specs.declared.place.Place.{Place}

pub named_of_tree : (file text : List ℕ) (number : ℕ) (place : Place) (message : List ℕ) (program g : Prog Place) → HasOneTree → IsTreeOf text program → IsTreeOf text g
    → message ≡ tree_name_message file text number place program
    → message ≡ tree_name_message file text number place g
named_of_tree file text number place message program g one tree is told = told ∙ ap (λ (h : Prog Place). tree_name_message file text number place h) (one text program g tree is)

pub told_of_tree : (file text : List ℕ) (number : ℕ) (place : Place) (message : List ℕ) (program g : Prog Place) (said : Option (List ℕ)) → HasOneTree → IsTreeOf text program
    → IsSaid program number place said → IsTreeOf text g → message ≡ rule_message file text number place said
    → IsRuleTold file text number place g message
told_of_tree file text number place message program g said one tree is_said is told =
    record { said = said; is_said = subst (λ (h : Prog Place). IsSaid h number place said) (one text program g tree is) is_said; is = told }

-- ---- a sentence that is there, and one that is not

pub there : (o : Option (List ℕ)) (IsSo : Option (List ℕ) → Type 0) (sentence : List ℕ) → o ≡ Some sentence → OrElse o IsSo (Some sentence)
there o IsSo sentence is = subst (λ (p : Option (List ℕ)). OrElse p IsSo (Some sentence)) (sym is) refl

pub missing : (o : Option (List ℕ)) (IsSo : Option (List ℕ) → Type 0) (said : Option (List ℕ)) → o ≡ None → IsSo said → OrElse o IsSo said
missing o IsSo said is so = subst (λ (p : Option (List ℕ)). OrElse p IsSo said) (sym is) so
