-- The log, line by line.
use Rattle.std.proofs.Common.{◌≡◌, ◌≢◌, ◌<◌, ◌+◌, ℕ, List, [], ◌∷◌, ◌++◌, length, take, drop, get_or, refl, sym, ap, subst, ◌∙◌, append_assoc, add-one, drop-cons}
use Rattle.std.specs.Prelude.{decimal}
use Rattle.std.proofs.lemmas.List.{append-nil, take-append-drop, take_more}
use Rattle.base.specs.declared.event.Event.{Event}
use Rattle.image.specs.declared.names.ImageNames.{ImageNames}
use Rattle.event_log.specs.Line.{act_text, line_of, log_of, process_name}

pub log_of-append : (names : ImageNames) (xs ys : List Event) → log_of names (xs ++ ys) ≡ log_of names xs ++ log_of names ys
unfolding log_of
log_of-append names [] ys = refl
log_of-append names (x ∷ xs) ys = ap (λ t. line_of names x ++ t) (log_of-append names xs ys) ∙ sym (append_assoc (line_of names x) (log_of names xs) (log_of names ys))

pub log_of-cons : (names : ImageNames) (e : Event) (es : List Event) → log_of names (e ∷ es) ≡ line_of names e ++ log_of names es
unfolding log_of
log_of-cons names e es = refl

pub log_of-nil : (names : ImageNames) → log_of names [] ≡ []
unfolding log_of
log_of-nil names = refl

pub log_of-more : (names : ImageNames) (xs : List Event) (i : ℕ) (d : Event) → i < length xs → log_of names (take (i + 1) xs) ≡ log_of names (take i xs) ++ line_of names (get_or xs i d)
log_of-more names xs i d below =
    ap (log_of names) (take_more xs i d below) ∙ (log_of-append names (take i xs) (get_or xs i d ∷ [])
    ∙ ap (λ t. log_of names (take i xs) ++ t) (log_of-cons names (get_or xs i d) [] ∙ (ap (λ t. line_of names (get_or xs i d) ++ t) (log_of-nil names) ∙ append-nil (line_of names (get_or xs i d)))))

pub log_of-cut : (names : ImageNames) (xs : List Event) (i : ℕ) (d : Event) → i < length xs → log_of names xs ≡ log_of names (take i xs) ++ (line_of names (get_or xs i d) ++ log_of names (drop (i + 1) xs))
log_of-cut names xs i d below =
    let rest : drop i xs ≡ get_or xs i d ∷ drop (i + 1) xs = rw add-one (drop-cons xs i d below) in
    ap (log_of names) (sym (take-append-drop i xs)) ∙ (log_of-append names (take i xs) (drop i xs)
    ∙ ap (λ t. log_of names (take i xs) ++ t) (ap (log_of names) rest ∙ log_of-cons names (get_or xs i d) (drop (i + 1) xs)))

-- ---- a log with an event has bytes

pub some_before : (a b : List ℕ) → a ≢ [] → a ++ b ≢ []
some_before [] b some = absurd (some refl)
some_before (x ∷ a) b some = λ none. absurd cc

pub some_behind : (a b : List ℕ) → b ≢ [] → a ++ b ≢ []
some_behind [] b some = some
some_behind (x ∷ a) b some = λ none. absurd cc

cons_some : (x : ℕ) (xs : List ℕ) → x ∷ xs ≢ []
cons_some x xs = λ none. absurd cc

line_of-some : (names : ImageNames) (e : Event) → line_of names e ≢ []
line_of-some names e = some_behind (decimal e.tick) _ (cons_some 32 (process_name names e.proc ++ act_text names e.act))

pub log_of-some : (names : ImageNames) (xs : List Event) (i : ℕ) (d : Event) → i < length xs → log_of names xs ≢ []
log_of-some names xs i d below =
    subst (λ (bytes : List ℕ). bytes ≢ []) (sym (log_of-cut names xs i d below))
    (some_behind (log_of names (take i xs)) _ (some_before (line_of names (get_or xs i d)) _ (line_of-some names (get_or xs i d))))
