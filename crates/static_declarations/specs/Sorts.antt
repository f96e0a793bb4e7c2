-- The sorts that operators take and give, and which sorts go together.
use Rattle.std.specs.Prelude.{Bool, true, false, ◌&&◌, Option, Some, None}
use Rattle.syntax_tree.specs.Plain.{Op, or, and, equal, unequal, less, less_equal, greater, greater_equal, add, sub, mul, div, remainder}
use Rattle.static_declarations.specs.declared.sort.Sort.{Sort}
use Rattle.static_declarations.specs.declared.sort.Sort.TheVariants as sort_is

abbrev pub same_sort : Sort → Sort → Bool
same_sort sort_is.Number sort_is.Number = true
same_sort sort_is.Truth sort_is.Truth = true
same_sort s t = false

-- what has no sort of its own goes with every sort
abbrev pub fits : Sort → Option Sort → Bool
fits want None = true
fits want (Some s) = same_sort want s

abbrev pub alike : Option Sort → Option Sort → Bool
alike None t = true
alike (Some s) t = fits s t

-- the sort of what an operator gives
abbrev pub gives : Op → Sort
gives or = sort_is.Truth
gives and = sort_is.Truth
gives equal = sort_is.Truth
gives unequal = sort_is.Truth
gives less = sort_is.Truth
gives less_equal = sort_is.Truth
gives greater = sort_is.Truth
gives greater_equal = sort_is.Truth
gives add = sort_is.Number
gives sub = sort_is.Number
gives mul = sort_is.Number
gives div = sort_is.Number
gives remainder = sort_is.Number

-- the operator may stand between operands of these sorts
abbrev pub takes : Op → Option Sort → Option Sort → Bool
takes or s t = fits sort_is.Truth s && fits sort_is.Truth t
takes and s t = fits sort_is.Truth s && fits sort_is.Truth t
takes equal s t = alike s t
takes unequal s t = alike s t
takes less s t = fits sort_is.Number s && fits sort_is.Number t
takes less_equal s t = fits sort_is.Number s && fits sort_is.Number t
takes greater s t = fits sort_is.Number s && fits sort_is.Number t
takes greater_equal s t = fits sort_is.Number s && fits sort_is.Number t
takes add s t = fits sort_is.Number s && fits sort_is.Number t
takes sub s t = fits sort_is.Number s && fits sort_is.Number t
takes mul s t = fits sort_is.Number s && fits sort_is.Number t
takes div s t = fits sort_is.Number s && fits sort_is.Number t
takes remainder s t = fits sort_is.Number s && fits sort_is.Number t
