-- The summary of a load: how many processes, instructions, lines and bytes, and a mark of the bytes.
use Rattle.std.specs.Prelude.{ℕ, ◌+◌, ◌*◌, ◌%◌, ◌^◌, List, ◌++◌, codes, decimal, fold}

-- the mark after one more byte
abbrev pub marked : (mark byte : ℕ) → ℕ
marked mark byte = (mark * 31 + byte) % 2 ^ 32

-- the mark after these bytes
abbrev pub marked_by : (mark : ℕ) → List ℕ → ℕ
marked_by mark bytes = fold marked mark bytes

-- the mark of all bytes of a log
abbrev pub mark_of : List ℕ → ℕ
mark_of bytes = marked_by 0 bytes

unfoldable pub summary : (count code lines bytes mark : ℕ) → List ℕ
summary count code lines bytes mark =
    codes "made " ++ (decimal count ++ (codes " code " ++ (decimal code ++ (codes " lines " ++ (decimal lines
    ++ (codes " bytes " ++ (decimal bytes ++ (codes " mark " ++ (decimal mark ++ codes "\n")))))))))
