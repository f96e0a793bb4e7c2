-- The rule for types and numbers of arguments, on a statement by itself and on the result of a
-- function.
use Rattle.std.specs.Prelude.{Bool, true, not, ◌&&◌, Option, Some, None, if◌then◌else◌}
use Rattle.syntax_tree.specs.Placed.{Expr, Ref, whole, part, Stmt, assign, assign_entry, assign_empty, perform, perform_entry, when, when_else, loop, exit_when, get, put, wait, signal, broadcast, except, assert}
use Rattle.syntax_tree.specs.declared.place.Place.{Place}
use Rattle.static_declarations.specs.declared.sort.Sort.{Sort}
use Rattle.static_declarations.specs.declared.sort.Sort.TheVariants as sort_is
use Rattle.static_declarations.specs.Things.{sort_of}
use Rattle.static_declarations.specs.Parts.{Part, statement, answer, stmt_place}
use Rattle.static_declarations.specs.Sorts.{fits, alike}
use Rattle.static_types.specs.Sorts.{Named, word_sort, element_sort, answer_sort, is_array, sort, asked, agrees, call_agrees}

-- the sort of what is assigned to
abbrev pub target_sort : Named → Ref Place → Option Sort
target_sort named (whole p name) = word_sort (named p)
target_sort named (part p name i) = element_sort (named p)

-- one word is assigned to, and its index is a number
abbrev pub target_agrees : Named → Ref Place → Bool
target_agrees named (whole p name) = not (is_array (named p))
target_agrees named (part p name i) = is_array (named p) && (agrees named i && fits sort_is.Number (sort named i))

-- the sort of what is assigned to, where that agrees
abbrev pub target_judged : Named → Ref Place → Option (Option Sort)
target_judged named r = if target_agrees named r then Some (target_sort named r) else None

-- a value of the sort may be assigned there
abbrev pub target_takes : Named → Ref Place → Option Sort → Bool
target_takes named r s = target_agrees named r && alike (target_sort named r) s

-- an expression of that sort
abbrev pub is_of : Named → Sort → Expr Place → Bool
is_of named s e = agrees named e && fits s (sort named e)

-- the types in a statement agree, those in its inner statements aside
abbrev pub stmt_agrees : Named → Stmt Place → Bool
stmt_agrees named (assign r e) = target_agrees named r && (agrees named e && alike (target_sort named r) (sort named e))
stmt_agrees named (assign_entry r mon p entry q es) = target_agrees named r && (call_agrees named (asked (named q)) es && alike (target_sort named r) (answer_sort (named q)))
stmt_agrees named (assign_empty r cond p) = target_agrees named r && alike (target_sort named r) (Some sort_is.Truth)
stmt_agrees named (perform p name es) = call_agrees named (asked (named p)) es
stmt_agrees named (perform_entry p mon entry q es) = call_agrees named (asked (named q)) es
stmt_agrees named (when p e a) = is_of named sort_is.Truth e
stmt_agrees named (when_else p e a b) = is_of named sort_is.Truth e
stmt_agrees named (loop p name q low high a) = true
stmt_agrees named (exit_when p e) = is_of named sort_is.Truth e
stmt_agrees named (get p dev q r) = target_agrees named r && alike (target_sort named r) (Some sort_is.Number)
stmt_agrees named (put p dev q e) = is_of named sort_is.Number e
stmt_agrees named (wait p cond q limit number) = true
stmt_agrees named (signal p cond q) = true
stmt_agrees named (broadcast p cond q) = true
stmt_agrees named (except p number) = true
stmt_agrees named (assert p e) = is_of named sort_is.Truth e

-- types or numbers of arguments do not agree: in a statement at the statement, in a result at the
-- function's name
abbrev pub mistyped : Named → Part → Option Place
mistyped named (statement here s) = if stmt_agrees named s then None else Some (stmt_place s)
mistyped named (answer name s e) = if is_of named (sort_of s) e then None else Some name
