-- A text as it is written, word by word.
use Rattle.std.specs.Prelude.{ℕ, Bool, true, false, List, [], ◌∷◌, ◌++◌, codes}
use Rattle.syntax.specs.Words.{Word}
use Rattle.syntax_printer.specs.Canonical.{Line, spelling}

-- a text, and whether a line begins at its end
pub record Paper : Type 0 where
  pub text : List ℕ
  pub fresh : Bool

-- what stands before a word
abbrev pub gap : Bool → List ℕ
gap true = []
gap false = codes " "

-- one more word of the line
unfoldable pub put : Paper → Word → Paper
put p word = record { text = (p.text ++ gap p.fresh) ++ spelling word; fresh = false }

-- words of the line, one after another
abbrev pub puts : Paper → Line → Paper
puts p [] = p
puts p (word ∷ words) = puts (put p word) words

-- the line's end
unfoldable pub ended : Paper → Paper
ended p = record { text = p.text ++ codes "\n"; fresh = true }

-- lines, one after another
abbrev pub put_lines : Paper → List Line → Paper
put_lines p [] = p
put_lines p (line ∷ lines) = put_lines (ended (puts p line)) lines
