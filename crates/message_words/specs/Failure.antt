-- The messages of calls that the outside ended.
use Rattle.std.specs.Prelude.{ℕ, ◌++◌, List, codes}
use Rattle.message_text.specs.Words.{plain}

-- the file of this name cannot be read
abbrev pub cannot_read : (name : List ℕ) → List ℕ
cannot_read name = codes "rte: cannot read " ++ (plain name ++ codes "\n")

-- the file of this name cannot be written
abbrev pub cannot_write : (name : List ℕ) → List ℕ
cannot_write name = codes "rte: cannot write " ++ (plain name ++ codes "\n")

-- standard output takes no more
abbrev pub cannot_put : List ℕ
cannot_put = codes "rte: cannot put to standard output\n"

-- there is no memory left
abbrev pub out_of_memory : List ℕ
out_of_memory = codes "rte: out of memory\n"
