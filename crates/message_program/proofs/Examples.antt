-- The messages for three texts that are no programs.
use Rattle.std.proofs.Common.{refl}
use Rattle.std.specs.Prelude.{◌≡◌, ℕ, List, codes}
use Rattle.std.specs.Fmt.{digits}
use Rattle.message_text.specs.Shown.{show}
use Rattle.message_program.specs.Hints.{beginnings}
use Rattle.message_text.specs.Words.{note}
use Rattle.message_program.specs.Program.{unexpected_message, word_message}
use Rattle.message_program.specs.Rules.{rules}
use Rattle.syntax_tree.specs.declared.place.Place.{Place}

abbrev pub at : (line col : ℕ) → Place
at line col = record { line = line; col = col }

-- six lines
abbrev pub text : List ℕ
text = codes "program a\ndevice d : out\nprocess p : periodic frame 100\nvar x : int\nbegin\nput D 1\n"

-- a name that is declared nowhere
pub no_name : word_message (codes "P") text 20 (at 6 5) ≡ codes "P:6:5: E20: `D` is declared nowhere in reach\n      6 | put D 1\n        |     ^\n        = declare it, or correct the name\n"
unfolding show rules digits
no_name = refl

-- a byte that begins no word
pub no_word : word_message (codes "P") (codes "x != 1\n") 1 (at 1 3) ≡ codes "P:1:3: E1: `!` begins no word\n      1 | x != 1\n        |   ^\n        = write `<>`\n"
unfolding show beginnings digits
no_word = refl

-- a text that ends too early, with a note
pub no_end : unexpected_message (codes "P") (codes "program a\n") (at 2 1) (note (codes "after `a` expected `end`")) ≡ codes "P:2:1: E10: unexpected end of the text\n      2 | \n        | ^\n        = after `a` expected `end`\n"
unfolding show digits
no_end = refl
