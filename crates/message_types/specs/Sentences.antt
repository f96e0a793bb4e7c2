-- The sentence of each mismatch.
use Rattle.std.specs.Prelude.{ℕ, List, [], ◌++◌, codes, decimal, slice_get, unwrap_or}
use Rattle.message_text.specs.Words.{quoted}
use Rattle.syntax.specs.Spellings.{keywords, signs}
use Rattle.syntax.specs.Words.{Word, named, number, keyword, sign}
use Rattle.syntax.specs.ExprGrammar.{op_word}
use Rattle.syntax_tree.specs.Plain.{Name, Op}
use Rattle.static_declarations.specs.declared.sort.Sort.{Sort}
use Rattle.static_declarations.specs.declared.sort.Sort.TheVariants as sort_is
use Rattle.message_types.specs.Mismatches.{Spot, test_of_if, test_of_exit, test_of_assert, assigned_to, got_into, put_to, argument, index_of, left_of, right_of, behind_minus, behind_not, result_of, Mismatch, sorts_differ, counts_differ, lacks_index, has_index}

-- the bytes of a keyword or a sign
abbrev pub spelling : Word → List ℕ
spelling (keyword at) = unwrap_or (slice_get keywords at) []
spelling (sign at) = unwrap_or (slice_get signs at) []
spelling (named name) = name
spelling (number n) = decimal n

abbrev pub op_quoted : Op → List ℕ
op_quoted op = quoted (spelling (op_word op))

abbrev pub sort_words : Sort → List ℕ
sort_words sort_is.Number = codes "a number"
sort_words sort_is.Truth = codes "a boolean"

abbrev pub argument_words : (number : ℕ) → (routine : Name) → List ℕ
argument_words at routine = codes "argument " ++ (decimal at ++ (codes " of " ++ quoted routine))

-- the words for where a value of a sort is wanted
abbrev pub spot_words : Spot → List ℕ
spot_words test_of_if = codes "`if`"
spot_words test_of_exit = codes "`exit when`"
spot_words test_of_assert = codes "`assert`"
spot_words (assigned_to target) = codes "assigned to " ++ quoted target
spot_words (got_into target) = codes "`get` into " ++ quoted target
spot_words (put_to device) = codes "`put` to " ++ quoted device
spot_words (argument at routine) = argument_words at routine
spot_words (index_of array) = codes "the index of " ++ quoted array
spot_words (left_of op) = codes "left of " ++ op_quoted op
spot_words (right_of op) = codes "right of " ++ op_quoted op
spot_words behind_minus = codes "`-`"
spot_words behind_not = codes "`not`"
spot_words (result_of function) = codes "the result of " ++ quoted function

-- what was wanted, and what was found
abbrev pub wanted_found : (wanted found : List ℕ) → List ℕ
wanted_found wanted found = codes ": wanted " ++ (wanted ++ (codes ", found " ++ found))

-- an element of an array, as it is written
abbrev pub element_form : (array : Name) → List ℕ
element_form array = quoted (array ++ codes "[i]")

abbrev pub without_index : (array : Name) → List ℕ
without_index array = quoted array ++ (codes " is an array and is used by element, as " ++ element_form array)

-- what is said of what does not agree
abbrev pub sentence : Mismatch → List ℕ
sentence (sorts_differ spot wanted found) = spot_words spot ++ wanted_found (sort_words wanted) (sort_words found)
sentence (counts_differ routine wanted found) = (codes "arguments of " ++ quoted routine) ++ wanted_found (decimal wanted) (decimal found)
sentence (lacks_index array) = without_index array
sentence (has_index name) = quoted name ++ codes " is no array and has no index"
