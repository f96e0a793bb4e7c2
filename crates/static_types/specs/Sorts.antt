-- The sorts of expressions: which an expression has by its form, and whether those in it agree.
use Rattle.std.specs.Prelude.{Bool, true, false, not, ◌&&◌, List, [], ◌∷◌, Option, Some, None, option_map, if◌then◌else◌}
use Rattle.syntax_tree.specs.Placed.{Param, Expr, literal, truth, variable, element, call, minus, negation, paren, row, Exprs, no_exprs, exprs, Operands, no_operands, operand}
use Rattle.syntax_tree.specs.declared.place.Place.{Place}
use Rattle.static_declarations.specs.declared.sort.Sort.{Sort}
use Rattle.static_declarations.specs.declared.sort.Sort.TheVariants as sort_is
use Rattle.static_declarations.specs.declared.sort.VarType.TheVariants as shape_is
use Rattle.static_declarations.specs.Sorts.{fits, gives, takes}
use Rattle.static_declarations.specs.Things.{Thing, constant_thing, routine_thing, variable_thing, loop_thing, sort_of}

-- what the name that is used at a place is declared as
abbrev pub Named : Type 0
Named = Place → Option Thing

-- the sort of a name that stands for one word
abbrev pub word_sort : Option Thing → Option Sort
word_sort (Some constant_thing) = Some sort_is.Number
word_sort (Some loop_thing) = Some sort_is.Number
word_sort (Some (variable_thing owner (shape_is.One s))) = Some s
word_sort _ = None

-- the sort of the elements of a name that stands for an array
abbrev pub element_sort : Option Thing → Option Sort
element_sort (Some (variable_thing owner (shape_is.Many s))) = Some s
element_sort _ = None

-- the sort of what a function answers; a procedure answers nothing
abbrev pub answer_sort : Option Thing → Option Sort
answer_sort (Some (routine_thing is_entry r)) = option_map sort_of r.result
answer_sort _ = None

abbrev pub is_array : Option Thing → Bool
is_array (Some (variable_thing owner (shape_is.Many s))) = true
is_array _ = false

-- the sort of a row is that of its operators
abbrev pub row_sort : Option Sort → Operands Place → Option Sort
row_sort first no_operands = first
row_sort first (operand op e rs) = row_sort (Some (gives op)) rs

-- the sort that an expression has by its form; a whole array and the call of a procedure have none
abbrev pub sort : Named → Expr Place → Option Sort
sort named (literal p n) = Some sort_is.Number
sort named (truth p b) = Some sort_is.Truth
sort named (variable p name) = word_sort (named p)
sort named (element p name i) = element_sort (named p)
sort named (call p name es) = answer_sort (named p)
sort named (minus p e) = Some sort_is.Number
sort named (negation p e) = Some sort_is.Truth
sort named (paren p e) = sort named e
sort named (row e rs) = row_sort (sort named e) rs

-- the parameters of a routine that is called
abbrev pub asked : Option Thing → Option (List (Param Place))
asked (Some (routine_thing is_entry r)) = Some r.params
asked _ = None

abbrev mutual
  -- the sorts in an expression agree: an array is used by element only, an index is a number, and
  -- each operator and each routine has operands of its sorts
  pub agrees : Named → Expr Place → Bool
  agrees named (literal p n) = true
  agrees named (truth p b) = true
  agrees named (variable p name) = not (is_array (named p))
  agrees named (element p name i) = is_array (named p) && (agrees named i && fits sort_is.Number (sort named i))
  agrees named (call p name es) = call_agrees named (asked (named p)) es
  agrees named (minus p e) = agrees named e && fits sort_is.Number (sort named e)
  agrees named (negation p e) = agrees named e && fits sort_is.Truth (sort named e)
  agrees named (paren p e) = agrees named e
  agrees named (row e rs) = agrees named e && operands_agree named (sort named e) rs

  -- what stands left of the operators has the sort s
  pub operands_agree : Named → Option Sort → Operands Place → Bool
  operands_agree named s no_operands = true
  operands_agree named s (operand op e rs) = agrees named e && (takes op s (sort named e) && operands_agree named (Some (gives op)) rs)

  -- as many arguments as parameters, each of its parameter's sort
  pub call_agrees : Named → Option (List (Param Place)) → Exprs Place → Bool
  call_agrees named None es = true
  call_agrees named (Some []) no_exprs = true
  call_agrees named (Some []) (exprs e es) = false
  call_agrees named (Some (v ∷ vs)) no_exprs = false
  call_agrees named (Some (v ∷ vs)) (exprs e es) = agrees named e && (fits (sort_of v.kind) (sort named e) && call_agrees named (Some vs) es)

-- the sort of an expression in which the sorts agree
abbrev pub judged : Named → Expr Place → Option (Option Sort)
judged named e = if agrees named e then Some (sort named e) else None

-- the sort of a row whose operands agree, what stands left of its operators having the sort s
abbrev pub row_judged : Named → Option Sort → Operands Place → Option (Option Sort)
row_judged named s rs = if operands_agree named s rs then Some (row_sort s rs) else None
