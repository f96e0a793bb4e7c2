-- Tables of words, and the slots by which keywords are looked up.
use Rattle.std.specs.Prelude.{ℕ, ◌+◌, ◌-◌, ◌*◌, ◌%◌, nat_lt, if◌then◌else◌, List, map, length, slice_index_or}
use Rattle.std.specs.Borrow.{Bor}

-- the words of a table of the program
abbrev pub words_of : List (Bor (List ℕ)) → List (List ℕ)
words_of table = map (λ (word : Bor (List ℕ)). word.now) table

-- the slot of a word, below 128
abbrev pub slot : List ℕ → ℕ
slot word =
    if nat_lt (length word) 2 then 0
    else ((5 * slice_index_or word 0 0 + slice_index_or word (length word - 1) 0) + 72 * slice_index_or word 1 0 + length word) % 128
