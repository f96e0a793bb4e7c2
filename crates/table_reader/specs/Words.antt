-- The words of a line, as they are read from left to right.
use Rattle.std.specs.Prelude.{ℕ, List, [], ◌∷◌, Option, Some, None, option_map, ◌==◌, if◌then◌else◌}
use Rattle.std.specs.Borrow.{Bor}
use Rattle.table_format.specs.Spelling.{Word}
use Rattle.table_format.specs.Rules.{same_name}
use Rattle.table_reader.specs.declared.words.NextWord.{NextWord}
use Rattle.table_reader.specs.declared.words.OptionalWord.{OptionalWord}

-- a byte before the first of some words
abbrev pub grown : ℕ → List Word → List Word
grown b [] = (b ∷ []) ∷ []
grown b (word ∷ words) = (b ∷ word) ∷ words

-- what stands between the spaces of a line
abbrev pub split : List ℕ → List Word
split [] = [] ∷ []
split (b ∷ bs) = if b == 32 then [] ∷ split bs else grown b (split bs)

-- the words that are left
abbrev pub left : Option (Bor (List ℕ)) → List Word
left None = []
left (Some bytes) = split bytes.now

-- a word and those behind it
abbrev pub seen_next : NextWord → Word × List Word
seen_next next = (next.word.now, left next.words.rest)

abbrev pub first_word : List Word → Option (Word × List Word)
first_word [] = None
first_word (word ∷ words) = Some (word, words)

-- the word behind its key, and those behind it
abbrev pub after_key : (key : Word) → List Word → Option (Word × List Word)
after_key key [] = None
after_key key (first ∷ words) = if same_name first key then first_word words else None

-- the same, where they may be left out
abbrev pub optional_of : List Word → Option (Word × List Word) → Option Word × List Word
optional_of words None = (None, words)
optional_of words (Some found) = (Some found.0, found.1)

abbrev pub optional : (key : Word) → List Word → Option Word × List Word
optional key words = optional_of words (after_key key words)

abbrev pub optional_seen : OptionalWord → Option Word × List Word
optional_seen next = (option_map (λ word. word.now) next.word, left next.words.rest)
