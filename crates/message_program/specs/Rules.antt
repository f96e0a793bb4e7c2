-- The rules that a text may fail, and what is said of each.
use Rattle.std.specs.Prelude.{ℕ, ◌++◌, ◌==◌, List, [], ◌∷◌, codes, find, length, if◌then◌else◌}
use Rattle.std.specs.Option.{unwrap_or}
use Rattle.message_text.specs.Words.{quoted}

-- a rule: its number; the sentence before and behind the word at the place, the whole of it before
-- where it does not name the word; and what can be done, nothing where that is plain
pub record Rule : Type 0 where
  pub number : ℕ
  pub before : List ℕ
  pub behind : List ℕ
  pub note : List ℕ

-- a rule whose sentence begins with the word
abbrev pub word_is : (number : ℕ) (behind note : List ℕ) → Rule
word_is number behind note = record { number = number; before = []; behind = behind; note = note }

-- a rule whose sentence has the word in its middle
abbrev pub with_word : (number : ℕ) (before behind note : List ℕ) → Rule
with_word number before behind note = record { number = number; before = before; behind = behind; note = note }

-- a rule whose sentence does not name the word
abbrev pub plain_rule : (number : ℕ) (sentence note : List ℕ) → Rule
plain_rule number sentence note = record { number = number; before = sentence; behind = []; note = note }

unfoldable pub rules : List Rule
rules =
    with_word 2 (codes "the number ") (codes " is above 2147483647") (codes "numbers are -2147483648 to 2147483647")
    ∷ word_is 11 (codes " opens level 65; 64 are the most") (codes "put an inner part into a procedure or a variable of its own")
    ∷ word_is 20 (codes " is declared nowhere in reach") (codes "declare it, or correct the name")
    ∷ word_is 21 (codes " is declared already") (codes "give one of them another name")
    ∷ word_is 22 (codes " is no name of the kind that is wanted here") []
    ∷ word_is 23 (codes " closes nothing") (codes "behind `end` stands the name of what it closes")
    ∷ plain_rule 30 (codes "types or numbers of arguments do not agree") []
    ∷ plain_rule 31 (codes "a routine reaches itself through its calls") (codes "no routine calls itself, nor through others; write a loop")
    ∷ plain_rule 32 (codes "a lower bound is above its upper bound, or a loop goes up to 2147483647") []
    ∷ plain_rule 33 (codes "the loop has more than 1000000 turns") (codes "make fewer turns, or split the loop over activations")
    ∷ plain_rule 34 (codes "a statement or a call stands where it may not") (codes "an entry calls no entry and no procedure; a function that is no entry has no `get` or `put`, calls no entry and no procedure, and changes nothing but its own variables; a function is no statement, a procedure gives no value; `exit` stands inside a loop")
    ∷ plain_rule 35 (codes "a handler reaches a `wait`, or lists a number twice") (codes "no handler waits, and each lists a number once")
    ∷ plain_rule 36 (codes "a frame, a deadline or a first activation is out of its range") []
    ∷ plain_rule 37 (codes "the event starts no process, or more than one") (codes "write `atEvent` with it in exactly one process, or leave the event out")
    ∷ plain_rule 38 (codes "the device has the other direction") (codes "`get` takes from `in` devices, `put` gives to `out` devices")
    ∷ plain_rule 39 (codes "the number of an exception is out of its range") []
    ∷ plain_rule 40 (codes "a program has 1 to 64 processes, and up to 64 monitors, devices and events each") (codes "declare one, or join or leave out some")
    ∷ plain_rule 41 (codes "this is condition number 257; 256 are the most") (codes "join or leave out some")
    ∷ plain_rule 42 (codes "this is routine number 513; 512 are the most") (codes "join or leave out some")
    ∷ plain_rule 43 (codes "the variables take more than 1048576 words") (codes "make arrays smaller")
    ∷ plain_rule 44 (codes "the array has more than 65536 elements") (codes "make arrays smaller")
    ∷ plain_rule 45 (codes "the limit of a wait is out of its range") []
    ∷ plain_rule 46 (codes "the program has more than 65535 instructions") (codes "make the program smaller")
    ∷ with_word 47 (codes "the stack of ") (codes " takes more than 4096 words") (codes "make arrays smaller")
    ∷ plain_rule 48 (codes "`edf` takes no program with a `wait`") (codes "`go`, `check` and `run` take it")
    ∷ []

-- what is said where no rule has the number
abbrev pub no_rule : Rule
no_rule = plain_rule 0 (codes "the text is no program") []

-- the rule of this number
abbrev pub rule : (number : ℕ) → Rule
rule number = unwrap_or (find (λ r. r.number == number) rules) no_rule

-- the word and what stands behind it, where something does
abbrev pub naming : (word behind : List ℕ) → List ℕ
naming word behind = if length behind == 0 then [] else quoted word ++ behind

-- what is said of a word that fails the rule
abbrev pub rule_sentence : (r : Rule) (word : List ℕ) → List ℕ
rule_sentence r word = r.before ++ naming word r.behind
