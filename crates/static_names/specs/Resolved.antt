-- A program whose names are resolved: it was read from a text, no rule fails, and for the place of
-- each use it is known where the name is declared.
use Rattle.std.specs.Prelude.{◌≡◌, ℕ, List, Some, None}
use Rattle.std.specs.Map.{lookup}
use Rattle.syntax.specs.declared.token.Token.{Token}
use Rattle.syntax.specs.Tokens.{tokens}
use Rattle.syntax_tree.specs.Placed.{Prog}
use Rattle.syntax_tree.specs.declared.place.Place.{Place}
use Rattle.static_rule.specs.First.{IsFirst}
use Rattle.syntax.specs.Grammar.{tree}
use Rattle.static_names.specs.Occurrences.{names, declared_at}
use Rattle.static_names.specs.Rules.{Fails, NamesAt, UsedAt}
use Rattle.static_names.specs.Findings.{Key, same_key, key_of}
use Rattle.static_names.specs.declared.named.NameFault.{NameFault}
use Rattle.static_names.specs.declared.named.NameFault.TheVariants as fault_is

-- some text has tokens, and the tree is theirs
pub record IsRead (g : Prog Place) : Type 0 where
  pub text : List ℕ
  pub toks : List Token
  pub listed : tokens text toks
  pub reads : tree text toks g

-- no rule fails at any place
abbrev pub IsNamed : Prog Place → Type 0
IsNamed g = (number : ℕ) (place : Place) → ¬ Fails g number place

pub record IsResolved (g : Prog Place) (ties : List (Key × Place)) : Type 0 where
  pub read : IsRead g
  pub named : IsNamed g
  pub tied : (place declared : Place) → lookup (same_key (key_of place)) ties ≡ Some declared → NamesAt g place declared
  pub unused : (place : Place) → lookup (same_key (key_of place)) ties ≡ None → ¬ UsedAt g place
  pub declared : (place : Place) → lookup (same_key (key_of place)) ties ≡ declared_at (names g) place

-- why the program is refused: the first rule that fails, or want of memory
abbrev pub IsFault : Prog Place → NameFault → Type 0
IsFault g (fault_is.Rule number place) = IsFirst (Fails g) (record { number = number; place = place })
IsFault g (fault_is.Memory _) = Unit {0}
