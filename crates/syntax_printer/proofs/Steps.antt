-- Words and lines that are put one after another.
use Rattle.std.proofs.Common.{◌≡◌, ◌<◌, ◌+◌, ℕ, List, [], ◌∷◌, ◌++◌, length, map, drop, get_or, Result, Ok, Err, OnOk, refl, sym, ap, ◌∙◌}
use Rattle.std.proofs.lemmas.List.{drop_more}
use Rattle.syntax_printer.specs.Canonical.{Line, lines_of, more_listed}
use Rattle.syntax.specs.Words.{Word, COMMA}
use Rattle.syntax_printer.specs.Pages.{Paper, put, puts, ended, put_lines}

pub puts_append : (p : Paper) (xs ys : Line) → puts p (xs ++ ys) ≡ puts (puts p xs) ys
puts_append p [] ys = refl
puts_append p (x ∷ xs) ys = puts_append (put p x) xs ys

pub put_lines_append : (p : Paper) (xs ys : List Line) → put_lines p (xs ++ ys) ≡ put_lines (put_lines p xs) ys
put_lines_append p [] ys = refl
put_lines_append p (x ∷ xs) ys = put_lines_append (ended (puts p x)) xs ys

-- one turn of a loop that puts the parts of a list
pub turned : {A : Type 0} (all : Paper → List A → Paper) (xs : List A) (i : ℕ) (x : A) (old new end : Paper) → i < length xs → x ≡ get_or xs i x
    → all old (drop i xs) ≡ end → all old (x ∷ drop (i + 1) xs) ≡ all new (drop (i + 1) xs) → all new (drop (i + 1) xs) ≡ end
turned all xs i x old new end within is so_far step =
    let here : drop i xs ≡ x ∷ drop (i + 1) xs = drop_more xs i x within ∙ ap (λ y. y ∷ drop (i + 1) xs) (sym is) in
    sym step ∙ sym (ap (all old) here) ∙ so_far

-- one turn of a loop that puts the lines of each
pub lines_turned : {A B : Type 0} (lines : B → List Line) (view : A → B) (xs : List A) (i : ℕ) (x : A) (old new end : Paper) → i < length xs → x ≡ get_or xs i x
    → put_lines old (lines_of lines (map view (drop i xs))) ≡ end → new ≡ put_lines old (lines (view x)) → put_lines new (lines_of lines (map view (drop (i + 1) xs))) ≡ end
lines_turned lines view xs i x old new end within is so_far put =
    let rest : List Line = lines_of lines (map view (drop (i + 1) xs)) in
    turned (λ p ys. put_lines p (lines_of lines (map view ys))) xs i x old new end within is so_far (put_lines_append old (lines (view x)) rest ∙ ap (λ p. put_lines p rest) (sym put))

-- a word and then words
pub said : (old middle new : Paper) (word : Word) (words rest : Line) → middle ≡ put old word → new ≡ puts middle words → puts old (word ∷ (words ++ rest)) ≡ puts new rest
said old middle new word words rest first more =
    let both : new ≡ puts (put old word) words = more ∙ ap (λ p. puts p words) first in
    puts_append (put old word) words rest ∙ ap (λ p. puts p rest) (sym both)

-- one turn of a loop that puts a comma and the words of each
pub listed_turned : {A B : Type 0} (words : B → Line) (view : A → B) (xs : List A) (i : ℕ) (x : A) (old middle new end : Paper) → i < length xs → x ≡ get_or xs i x
    → puts old (more_listed words (map view (drop i xs))) ≡ end → middle ≡ put old COMMA → new ≡ puts middle (words (view x)) → puts new (more_listed words (map view (drop (i + 1) xs))) ≡ end
listed_turned words view xs i x old middle new end within is so_far comma put =
    let rest : Line = more_listed words (map view (drop (i + 1) xs)) in
    turned (λ p ys. puts p (more_listed words (map view ys))) xs i x old new end within is so_far (said old middle new COMMA (words (view x)) rest comma put)

-- what an answer gives gives more
pub on_ok : {T E A B : Type 0} (r : Result T E) → OnOk r A → (A → B) → OnOk r B
on_ok (Ok x) a f = f a
on_ok (Err e) a f = tt
