-- Kinds that are told by one name where all of them are expected.
use Rattle.std.specs.Prelude.{ℕ, Bool, not, ◌&&◌, ◌++◌, List, [], ◌∷◌, codes, filter, map}
use Rattle.std.specs.List.{list_all, list_any}
use Rattle.syntax.specs.declared.token.keyword.TheConstants as k
use Rattle.syntax.specs.declared.token.sign.TheConstants as s
use Rattle.message_expected.specs.Kinds.{has, told}
use Rattle.message_expected.specs.declared.groups.Group.{Group}
use Rattle.message_expected.specs.declared.groups.Group.TheVariants.{Declaration, Statement, Expression, Operator, Comparison}
use Rattle.message_expected.specs.declared.kinds.Kind.{Kind}
use Rattle.message_expected.specs.declared.kinds.Kind.TheVariants.{Name, Number, Keyword, Sign}

-- the groups in their order
unfoldable pub groups : List Group
groups = Declaration ∷ Statement ∷ Expression ∷ Operator ∷ Comparison ∷ []

abbrev pub name : Group → List ℕ
name Declaration = codes "a declaration"
name Statement = codes "a statement"
name Expression = codes "an expression"
name Operator = codes "an operator"
name Comparison = codes "a comparison"

abbrev pub members : Group → List Kind
members Declaration =
    Keyword k.CONST ∷ Keyword k.DEVICE ∷ Keyword k.EVENT ∷ Keyword k.MONITOR ∷ Keyword k.PROCEDURE ∷ Keyword k.FUNCTION ∷ Keyword k.PROCESS ∷ []
members Statement =
    Name ∷ Keyword k.IF ∷ Keyword k.FOR ∷ Keyword k.EXIT ∷ Keyword k.PUT ∷ Keyword k.GET ∷ Keyword k.WAIT ∷ Keyword k.SIGNAL ∷ Keyword k.BROADCAST ∷ Keyword k.EXCEPT ∷ Keyword k.ASSERT ∷ []
members Expression = Name ∷ Number ∷ Keyword k.NOT ∷ Keyword k.TRUE ∷ Keyword k.FALSE ∷ Sign s.LEFT_PAREN ∷ Sign s.MINUS ∷ []
members Operator = Keyword k.AND ∷ Keyword k.OR ∷ Keyword k.DIV ∷ Keyword k.MOD ∷ Sign s.PLUS ∷ Sign s.MINUS ∷ Sign s.TIMES ∷ []
members Comparison = Sign s.EQUAL ∷ Sign s.UNEQUAL ∷ Sign s.LESS ∷ Sign s.LESS_EQUAL ∷ Sign s.GREATER ∷ Sign s.GREATER_EQUAL ∷ []

-- the group stands for its members: all of them are expected
abbrev pub stands : (found : List Kind) → Group → Bool
stands found group = list_all (has found) (members group)

-- the group stands for the kind
abbrev pub covers : (found : List Kind) → Kind → Group → Bool
covers found kind group = stands found group && has (members group) kind

-- a group stands for the kind
abbrev pub is_covered : (found : List Kind) → Kind → Bool
is_covered found kind = list_any (covers found kind) groups

-- what is expected, as it is told: the groups that stand for their members, then the other kinds
unfoldable pub expectations : (found : List Kind) → List (List ℕ)
expectations found = map name (filter (stands found) groups) ++ map told (filter (λ kind. not (is_covered found kind)) found)
