-- What the table of commands and the row of `make` keep.
use Rattle.std.specs.Prelude.{◌≡◌, ◌≤◌, ◌↔◌, ℕ, List, Some, String, decimal}
use Rattle.std.specs.Global.{Global}
use Rattle.command_words.specs.Calls.{Call, Load}
use Rattle.command_words.specs.Words.{overhead_of, IsCommand, IsMake}

-- words are at most one command
abbrev pub WordsAreOneCommand : Type 0
WordsAreOneCommand = (words : List (String Global)) (c other : Call) → IsCommand words c → IsCommand words other → c ≡ other

-- words are at most one load
abbrev pub WordsAreOneLoad : Type 0
WordsAreOneLoad = (words : List (String Global)) (l other : Load) → IsMake words l → IsMake words other → l ≡ other

-- words are not both a command and a load
abbrev pub NoCommandIsALoad : Type 0
NoCommandIsALoad = (words : List (String Global)) (c : Call) (l : Load) → IsCommand words c → IsMake words l → ⊥

-- the word is the decimal text of a number from 0 to 1000
abbrev pub IsOverhead : List ℕ → ℕ → Type 0
IsOverhead word overhead = (overhead ≤ 1000) × (word ≡ decimal overhead)

-- a word gives exactly the overhead whose decimal text it is
abbrev pub OverheadsAreDecimal : Type 0
OverheadsAreDecimal = (word : List ℕ) (overhead : ℕ) → (overhead_of word ≡ Some overhead) ↔ IsOverhead word overhead
