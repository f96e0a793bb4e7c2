-- The words of a line.
use Rattle.std.specs.Prelude.{ℕ, ◌+◌, ◌==◌, Bool, false, List, [], ◌∷◌, length, Option, Some, None, bytes_eq, codes, slice_get}
use Rattle.std.specs.List.{slice_index_or}
use Rattle.message_text.specs.Lines.{words}
use Rattle.message_script.specs.declared.words as code

-- a word, and the column of its first byte
pub record Word : Type 0 where
  pub column : ℕ
  pub bytes : List ℕ

abbrev pub seen : code.Word.Word → Word
seen w = record { column = w.column; bytes = w.bytes.now }

-- pieces with one blank between them, the first at this column
abbrev pub words_from : (column : ℕ) → List (List ℕ) → List Word
words_from column [] = []
words_from column (piece ∷ more) = record { column = column; bytes = piece } ∷ words_from (column + (length piece + 1)) more

-- the word at a place of a line, from 0
unfoldable pub word_at : (bytes : List ℕ) (place : ℕ) → Option Word
word_at bytes place = slice_get (words_from 1 (words bytes)) place

-- the first word
unfoldable pub first_word : (bytes : List ℕ) → Word
first_word bytes = record { column = 1; bytes = slice_index_or (words bytes) 0 [] }

-- the line that says the end
unfoldable pub is_end : (bytes : List ℕ) → Bool
is_end bytes = bytes_eq (first_word bytes).bytes (codes "end")

-- there is a word, and it is this
abbrev pub is_word : Option Word → (bytes : List ℕ) → Bool
is_word None bytes = false
is_word (Some w) bytes = bytes_eq w.bytes bytes

-- the first byte is this
unfoldable pub begins : (byte : ℕ) (bytes : List ℕ) → Bool
begins byte [] = false
begins byte (b ∷ bs) = b == byte
