-- Words of other languages, and what is said of them.
use Rattle.std.specs.Prelude.{ℕ, List, [], ◌∷◌, bytes_eq, codes, find}
use Rattle.std.specs.Option.{option_map_or}

-- a word, and what is said of it
pub record Foreign : Type 0 where
  pub word : List ℕ
  pub note : List ℕ

abbrev pub foreign : (word note : List ℕ) → Foreign
foreign word note = record { word = word; note = note }

-- what is said of more than one
abbrev pub of_branches : List ℕ
of_branches = codes "write `else if .. then ..`; each `if` has its own `end if`"

abbrev pub of_loops : List ℕ
of_loops = codes "a loop is `for i : 1 .. 9 do .. end for`; `exit when` leaves it"

abbrev pub of_devices : List ℕ
of_devices = codes "`put` gives a number to a device, `get` takes one"

abbrev pub of_leaving : List ℕ
of_leaving = codes "`exit when` leaves a loop"

abbrev pub of_choices : List ℕ
of_choices = codes "write `if .. then .. else .. end if`"

abbrev pub of_types : List ℕ
of_types = codes "the types are `int`, `boolean` and `1 .. 9`"

-- words of other languages
unfoldable pub other_words : List Foreign
other_words =
    foreign (codes "elsif") of_branches
    ∷ foreign (codes "elseif") of_branches
    ∷ foreign (codes "elif") of_branches
    ∷ foreign (codes "endif") (codes "write `end if`")
    ∷ foreign (codes "endfor") (codes "write `end for`")
    ∷ foreign (codes "endwhile") (codes "write `end for`")
    ∷ foreign (codes "while") of_loops
    ∷ foreign (codes "until") of_loops
    ∷ foreign (codes "repeat") of_loops
    ∷ foreign (codes "loop") of_loops
    ∷ foreign (codes "print") of_devices
    ∷ foreign (codes "printf") of_devices
    ∷ foreign (codes "write") of_devices
    ∷ foreign (codes "read") of_devices
    ∷ foreign (codes "break") of_leaving
    ∷ foreign (codes "continue") of_leaving
    ∷ foreign (codes "switch") of_choices
    ∷ foreign (codes "case") of_choices
    ∷ foreign (codes "bool") of_types
    ∷ foreign (codes "float") of_types
    ∷ foreign (codes "double") of_types
    ∷ foreign (codes "real") of_types
    ∷ foreign (codes "char") of_types
    ∷ foreign (codes "string") of_types
    ∷ foreign (codes "void") of_types
    ∷ foreign (codes "long") of_types
    ∷ foreign (codes "short") of_types
    ∷ foreign (codes "unsigned") of_types
    ∷ foreign (codes "integer") of_types
    ∷ []

-- what is said of a word of another language; nothing of other words
unfoldable pub word_note : (word : List ℕ) → List ℕ
word_note word = option_map_or (λ f. f.note) (find (λ f. bytes_eq f.word word) other_words) []
