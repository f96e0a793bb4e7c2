-- The sorts of expressions and targets.
use Rattle.std.specs.Prelude.{◌≡◌, ℕ, ◌≤◌, true, List, [], ◌∷◌, Option, Some, None, option_map}
use Rattle.syntax_tree.specs.Plain.{Name, Param, Expr, literal, truth, variable, element, call, minus, negation, paren, row, Exprs, no_exprs, exprs, Operands, no_operands, operand, Ref, whole, part}
use Rattle.static_declarations.specs.declared.sort.Sort.{Sort}
use Rattle.static_declarations.specs.declared.sort.Sort.TheVariants as sort_is
use Rattle.static_declarations.specs.Sorts.{gives, takes}
use Rattle.source_semantics.specs.Run.{Found, routine_named, entry_named}
use Rattle.static_semantics.specs.Here.{Here, meant, scalar_sort, word_sort, element_sort, is_assignable}

-- the greatest literal is the greatest word
abbrev pub greatest_word : ℕ
greatest_word = 2147483647

-- the sort of what a routine answers; a procedure answers nothing
abbrev pub answer_sort : Option Found → Option Sort
answer_sort None = None
answer_sort (Some f) = option_map (λ a. scalar_sort a.kind) f.routine.answers

-- the routine's parameters, where there is a routine of that name
abbrev pub params_of : Option Found → Option (List Param)
params_of None = None
params_of (Some f) = Some f.routine.params

abbrev mutual
  -- the expression has this sort where it stands, and each name in it stands for what it is used as
  pub IsOf : Here → Sort → Expr → Type 0
  IsOf c s (literal n) = (s ≡ sort_is.Number) × (n ≤ greatest_word)
  IsOf c s (truth b) = s ≡ sort_is.Truth
  IsOf c s (variable x) = word_sort (meant c x) ≡ Some s
  IsOf c s (element x i) = (element_sort (meant c x) ≡ Some s) × IsOf c sort_is.Number i
  IsOf c s (call f es) = (answer_sort (routine_named c.program c.process f) ≡ Some s) × AreArguments c (params_of (routine_named c.program c.process f)) es
  IsOf c s (minus e) = (s ≡ sort_is.Number) × IsOf c sort_is.Number e
  IsOf c s (negation e) = (s ≡ sort_is.Truth) × IsOf c sort_is.Truth e
  IsOf c s (paren e) = IsOf c s e
  IsOf c s (row e r) = (t : Sort) × IsOf c t e × IsRow c t s r

  -- behind what has the sort t, the operators and operands make a row of the sort s
  pub IsRow : Here → Sort → Sort → Operands → Type 0
  IsRow c t s no_operands = t ≡ s
  IsRow c t s (operand op e r) = (u : Sort) × IsOf c u e × (takes op (Some t) (Some u) ≡ true) × IsRow c (gives op) s r

  -- as many arguments as parameters, each of its parameter's sort
  pub AreArguments : Here → Option (List Param) → Exprs → Type 0
  AreArguments c None es = ⊥
  AreArguments c (Some []) no_exprs = Unit {0}
  AreArguments c (Some []) (exprs e es) = ⊥
  AreArguments c (Some (v ∷ vs)) no_exprs = ⊥
  AreArguments c (Some (v ∷ vs)) (exprs e es) = IsOf c (scalar_sort v.kind) e × AreArguments c (Some vs) es

-- one word of this sort that may be assigned to
abbrev pub IsTarget : Here → Sort → Ref → Type 0
IsTarget c s (whole x) = (is_assignable c.is_function (meant c x) ≡ true) × (word_sort (meant c x) ≡ Some s)
IsTarget c s (part x i) = (is_assignable c.is_function (meant c x) ≡ true) × (element_sort (meant c x) ≡ Some s) × IsOf c sort_is.Number i

-- a call of an entry of a monitor, with its arguments
abbrev pub CallsEntry : Here → Name → Name → Exprs → Type 0
CallsEntry c m e es = AreArguments c (params_of (entry_named c.program m e)) es
