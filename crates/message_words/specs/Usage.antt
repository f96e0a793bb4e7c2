-- The message for words that are no call.
use Rattle.std.specs.Prelude.{ℕ, ◌+◌, ◌-◌, ◌++◌, not, List, [], ◌∷◌, Option, Some, None, length, map, flat_map, find, bytes_eq, codes, replicate, if◌then◌else◌}
use Rattle.std.specs.List.{list_any}
use Rattle.command_words.specs.Words.{is_word}
use Rattle.message_text.specs.Words.{quoted}
use Rattle.message_text.specs.Nearest.{hint, nearest}

-- a row: its command, the words behind it, what it does, and which sign of these words is explained
pub record Row : Type 0 where
  pub command : List ℕ
  pub places : List ℕ
  pub does : List ℕ
  pub sign : List ℕ

abbrev pub row : (command places does sign : List ℕ) → Row
row command places does sign = record { command = command; places = places; does = does; sign = sign }

-- the table: each command once
unfoldable pub rows : List Row
rows =
    row (codes "go") (codes "P I S [K]") (codes "check P, store its image in I, put report and log over script S") (codes "K")
    ∷ row (codes "check") (codes "P [K]") (codes "check P and put its report") (codes "K")
    ∷ row (codes "json") (codes "P [K]") (codes "the same report as JSON") (codes "K")
    ∷ row (codes "why") (codes "P [K]") (codes "take the bounds of P apart") (codes "K")
    ∷ row (codes "fit") (codes "P [K]") (codes "tell what single change would make P timely") (codes "K")
    ∷ row (codes "slack") (codes "P [K]") (codes "tell how many ticks longer each process may run") (codes "K")
    ∷ row (codes "compile") (codes "P I [K]") (codes "check P, store its image in I, put the report") (codes "K")
    ∷ row (codes "run") (codes "I S") (codes "put the log of image I over script S") []
    ∷ row (codes "watch") (codes "I S T") (codes "put the state of image I over script S at a stop") (codes "T")
    ∷ row (codes "chart") (codes "I S A B") (codes "draw who runs in ticks A to B - 1 of image I over script S") (codes "A B")
    ∷ row (codes "replay") (codes "P S L") (codes "tell whether log L is a run of P over script S") []
    ∷ row (codes "edf") (codes "P S") (codes "judge and run P by earliest deadlines over script S") []
    ∷ row (codes "print") (codes "P") (codes "put P in its canonical form, without comments") []
    ∷ row (codes "dis") (codes "I A") (codes "store image I as text in A") []
    ∷ row (codes "asm") (codes "A I") (codes "store the image of text A in I") []
    ∷ row (codes "migrate") (codes "I J") (codes "store image I in J by the newest version") []
    ∷ row (codes "table") (codes "F P") (codes "store in P a program with the costs, frames and stays of table F") []
    ∷ row (codes "make") (codes "KEY N P S") (codes "store a generated program of N processes in P, its script in S") (codes "KEY")
    ∷ []

-- the command and the words behind it, filled up with blanks to 15 bytes
abbrev pub form : Row → List ℕ
form r = r.command ++ (codes " " ++ (r.places ++ replicate (15 - (length r.command + 1 + length r.places)) 32))

-- what a row takes, and what it does
abbrev pub row_line : Row → List ℕ
row_line r = codes "  rte " ++ (form r ++ (codes " " ++ (r.does ++ codes "\n")))

-- a line where one of the rows has its sign
abbrev pub explained : List Row → (sign text : List ℕ) → List ℕ
explained shown sign text = if list_any (λ r. bytes_eq r.sign sign) shown then text else []

-- what the signs stand for
abbrev pub overhead_line : List Row → List ℕ
overhead_line shown = explained shown (codes "K") (codes "K: overhead in ticks, 0 to 1000; 0 where it is not given\n")

abbrev pub stop_line : List Row → List ℕ
stop_line shown = explained shown (codes "T") (codes "T: a tick, 0 to 1000000000; or @A for after address A, 0 to 65534\n")

abbrev pub ticks_line : List Row → List ℕ
ticks_line shown = explained shown (codes "A B") (codes "A B: ticks, A below B; A to 999999999, B to 1000000000\n")

abbrev pub key_line : List Row → List ℕ
key_line shown = explained shown (codes "KEY") (codes "KEY: 0 to 18446744073709551615; N: 1 to 64\n")

-- the rows, then a line for each of their signs
abbrev pub table : List Row → List ℕ
table shown =
    flat_map row_line shown ++ (overhead_line shown ++ (stop_line shown ++ (ticks_line shown ++ key_line shown)))

-- what is wrong with the words of a command
abbrev pub wrong : (word : List ℕ) (no_word : Option (List ℕ)) → List ℕ
wrong word None = codes "rte: wrong words for " ++ (quoted word ++ codes "\n")
wrong word (Some other) = codes "rte: no word is empty or begins with `-`: " ++ (quoted other ++ codes "\n")

-- a word that is no command, and the nearest one
abbrev pub no_command : (word : List ℕ) (near : Option (List ℕ)) → List ℕ
no_command word near = codes "rte: " ++ (quoted word ++ (codes " is no command" ++ (hint near ++ codes "\n")))

-- a first word that is no command; `help` is none either, and nothing is said of it
abbrev pub unknown : List ℕ → List ℕ
unknown word = if bytes_eq word (codes "help") then [] else no_command word (nearest word (map (λ r. r.command) rows))

-- the message for words whose first is this, with the row of the command that it is
abbrev pub told : (words : List (List ℕ)) (word : List ℕ) (row : Option Row) → List ℕ
told words word (Some r) = wrong word (find (λ w. not (is_word w)) words) ++ table (r ∷ [])
told words word None = unknown word ++ table rows

-- without words a command is wanted
abbrev pub told_of : List (List ℕ) → List ℕ
told_of [] = codes "rte: a command is wanted\n" ++ table rows
told_of (word ∷ words) = told (word ∷ words) word (find (λ r. bytes_eq r.command word) rows)

-- the message for words that are no call
unfoldable pub usage : List (List ℕ) → List ℕ
usage words = told_of words
