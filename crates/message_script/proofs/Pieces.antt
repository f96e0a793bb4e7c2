-- The words of a line, one after another.
use Rattle.std.proofs.Common.{◌≡◌, ◌<◌, ◌≤◌, ◌+◌, ◌-◌, ℕ, suc, List, ◌∷◌, length, ap, ◌∙◌, arith}
use Rattle.std.specs.Prelude.{slice_get}
use Rattle.message_script.specs.Words.{words_from}

-- a word further on is one of what stands behind the first piece
pub word_further : (pieces more : List (List ℕ)) (first : List ℕ) (column place before : ℕ) → pieces ≡ first ∷ more → before < place
    → slice_get (words_from column pieces) (place - before) ≡ slice_get (words_from (column + (length first + 1)) more) (place - (before + 1))
word_further pieces more first column place before is below =
    let e : place - before ≡ suc (place - (before + 1)) = omega (arith, below) in
    ap (λ (ps : List (List ℕ)). slice_get (words_from column ps) (place - before)) is
    ∙ ap (λ (n : ℕ). slice_get (words_from column (first ∷ more)) n) e

-- the word here
pub word_here : (pieces more : List (List ℕ)) (first : List ℕ) (column place before : ℕ) → pieces ≡ first ∷ more → place ≤ before
    → slice_get (words_from column pieces) (place - before) ≡ slice_get (words_from column (first ∷ more)) 0
word_here pieces more first column place before is past =
    let e : place - before ≡ 0 = omega (arith, past) in
    ap (λ (ps : List (List ℕ)). slice_get (words_from column ps) (place - before)) is
    ∙ ap (λ (n : ℕ). slice_get (words_from column (first ∷ more)) n) e
