-- What stands on a page is the text of its lines.
use Rattle.std.proofs.Common.{◌≡◌, ℕ, true, false, List, [], ◌∷◌, ◌++◌, codes, append_assoc, append-nil, refl, sym, ap, ◌∙◌}
use Rattle.syntax.specs.Words.{Word}
use Rattle.syntax_printer.specs.Canonical.{Line, spelling, line_text, text_of}
use Rattle.syntax_printer.specs.Pages.{Paper, put, puts, ended, put_lines}

-- a page at whose end a line begins, and one in a line
abbrev fresh : List ℕ → Paper
fresh t = record { text = t; fresh = true }

abbrev within : List ℕ → Paper
within t = record { text = t; fresh = false }

-- the rest of a line, after its first word
rest_of_line : (t : List ℕ) (word : Word) (words : Line) → ended (puts (within (t ++ spelling word)) words) ≡ fresh (t ++ line_text (word ∷ words))
unfolding put ended
rest_of_line t word [] = ap fresh (append_assoc t (spelling word) (codes "\n"))
rest_of_line t word (next ∷ more) =
    rest_of_line ((t ++ spelling word) ++ codes " ") next more
    ∙ ap fresh (append_assoc (t ++ spelling word) (codes " ") (line_text (next ∷ more)) ∙ append_assoc t (spelling word) (codes " " ++ line_text (next ∷ more)))

whole_line : (t : List ℕ) (line : Line) → ended (puts (fresh t) line) ≡ fresh (t ++ line_text line)
unfolding put ended
whole_line t [] = refl
whole_line t (word ∷ words) = ap (λ (s : List ℕ). ended (puts (within (s ++ spelling word)) words)) (append-nil t) ∙ rest_of_line t word words

all_lines : (t : List ℕ) (lines : List Line) → put_lines (fresh t) lines ≡ fresh (t ++ text_of lines)
all_lines t [] = ap fresh (sym (append-nil t))
all_lines t (line ∷ lines) =
    ap (λ p. put_lines p lines) (whole_line t line) ∙ all_lines (t ++ line_text line) lines ∙ ap fresh (append_assoc t (line_text line) (text_of lines))

-- the lines on an empty page
pub new_text : (lines : List Line) → put_lines (record { text = []; fresh = true }) lines ≡ record { text = text_of lines; fresh = true }
new_text lines = all_lines [] lines
