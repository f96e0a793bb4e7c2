-- The length of lines by their words: one byte more than its spelling for each word.
use Rattle.std.proofs.Common.{◌≡◌, ◌≤◌, ◌+◌, ℕ, List, [], ◌∷◌, ◌++◌, codes, length, length-append, refl, arith}
use Rattle.syntax.specs.Words.{Word}
use Rattle.syntax_printer.specs.Canonical.{Line, spelling, line_text, text_of}
use Rattle.syntax_printer.proofs.Spelled.{flat}
use Rattle.table_law.proofs.Lists.{Every}

abbrev pub weight : List Word → ℕ
weight [] = 0
weight (word ∷ ws) = length (spelling word) + 1 + weight ws

abbrev pub HasWord : Line → Type 0
HasWord [] = ⊥
HasWord (word ∷ line) = Unit {0}

weight-append : (xs ys : List Word) → weight (xs ++ ys) ≡ weight xs + weight ys
weight-append [] ys = omega arith
weight-append (x ∷ xs) ys = omega (arith, weight-append xs ys)

line_length : (word : Word) (line : Line) → length (line_text (word ∷ line)) ≡ weight (word ∷ line)
line_length word [] = omega (arith, length-append (spelling word) (codes "\n"))
line_length word (next ∷ line) = omega (arith, line_length next line, length-append (spelling word) (codes " " ++ line_text (next ∷ line)))

pub text_length : (lines : List Line) → Every HasWord lines → length (text_of lines) ≡ weight (flat lines)
text_length [] all = omega arith
text_length ([] ∷ lines) all = absurd all.0
text_length ((word ∷ line) ∷ lines) all =
    omega (arith, line_length word line, text_length lines all.1, length-append (line_text (word ∷ line)) (text_of lines), weight-append (word ∷ line) (flat lines))
