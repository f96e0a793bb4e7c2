-- Where words lead, as what comes of them and of what follows.
use Rattle.std.proofs.Common.{◌≡◌, ℕ, zero, suc, ◌<◌, ◌≤◌, Bool, true, false, cond, Option, None, Some, Ok, Err, List, [], ◌∷◌, ◌++◌, length, refl, ap, sym, ◌∙◌, subst, arith}
use Rattle.std.specs.List.{list_all}
use Rattle.std.specs.Prelude.{is_some}
use Rattle.syntax.specs.Words.{Tok, tok, toks_of}
use Rattle.syntax.specs.declared.token.Token.{Token}
use Rattle.syntax_reading.specs.ExprReading.{nesting, syntax}
use Rattle.syntax_tree.specs.declared.place.Place.{Place}
use Rattle.message_expected.specs.Automaton as a
use Rattle.message_expected.specs.Automaton.{Found, Head, Reached, Turn, along, feed, find, found_then, goes_on, inside, is_optional, is_refused, is_whole, kind_in, kind_of_word, kinds_in, levels_behind, on, reach, refused, stopped, taken, turn}
use Rattle.message_expected.specs.declared.kinds.Kind.{Kind}
use Rattle.message_expected.specs.declared.symbols.Symbol.{Symbol}
use Rattle.message_expected.specs.declared.symbols.Symbol.TheVariants as s
use Rattle.message_expected.proofs.Runs.{Answer, after, at_end, run}

-- what comes of words that led there, and of these behind them
abbrev pub Comes : Reached → List (Tok Place) → Answer → Type 0
Comes stopped us x = (n : ℕ) × (length us < n) × (x ≡ Err (syntax n))
Comes a.too_deep us x = (n : ℕ) × (x ≡ Err (nesting n))
Comes (on e stack) us x = x ≡ run e stack us

length-behind : {A : Type 0} (xs ys : List A) → length ys ≤ length (xs ++ ys)
length-behind [] ys = omega arith
length-behind (x ∷ xs) ys = let more = length-behind xs ys in omega (arith, more)

comes-by : (r : Reached) (text : List ℕ) (toks : List Token) (us : List (Tok Place)) (t : Tok Place) → ((e : ℕ) (stack : List Symbol) → Comes (reach (on e stack) (kinds_in text toks)) us (run e stack (toks_of text toks ++ us)))
    → Comes (reach r (kinds_in text toks)) us (after r (λ e rest. run e rest (toks_of text toks ++ us)) (length (t ∷ (toks_of text toks ++ us))))
unfolding reach
comes-by stopped text toks us t again = let more = length-behind (toks_of text toks) us in (length (t ∷ (toks_of text toks ++ us)), omega (arith, more), refl)
comes-by a.too_deep text toks us t again = (length (t ∷ (toks_of text toks ++ us)), refl)
comes-by (on e stack) text toks us t again = again e stack

pub comes : (text : List ℕ) (toks : List Token) (d : ℕ) (stack : List Symbol) (us : List (Tok Place)) → Comes (reach (on d stack) (kinds_in text toks)) us (run d stack (toks_of text toks ++ us))
unfolding reach run
comes text [] d stack us = refl
comes text (t ∷ toks) d stack us = comes-by (feed d stack (kind_in text t)) text toks us (tok text t) (λ e rest. comes text toks e rest us)

-- ---- one word more

found-head : (d : ℕ) (stack : List Symbol) (kind : Kind) (f : Found) → find d stack kind ≡ Some f → is_refused f.turn.head ≡ false
unfolding find
found-head d [] kind f is = cc
found-head d (symbol ∷ stack) kind f is = by (is_refused (turn symbol kind).head) (is_optional symbol) refl is (λ e. found-head (levels_behind symbol d) stack kind f e)
  where
    by : (b o : Bool) → is_refused (turn symbol kind).head ≡ b → cond b (cond o (find (levels_behind symbol d) stack kind) None) (Some (record { levels = d; turn = turn symbol kind; below = stack })) ≡ Some f
        → (find (levels_behind symbol d) stack kind ≡ Some f → is_refused f.turn.head ≡ false) → is_refused f.turn.head ≡ false
    by true true e is again = again is
    by true false e is again = cc
    by false o e is again = let same : record { levels = d; turn = turn symbol kind; below = stack } ≡ f = cc in subst (λ (f : Found). is_refused f.turn.head ≡ false) same e

no-stop : (x : Answer) (n : ℕ) → 0 < n → (stack : List Symbol) → x ≡ at_end stack → x ≡ Err (syntax n) → ⊥
no-stop x n some stack is at = by (list_all is_optional stack) (sym is ∙ at)
  where
    by : (b : Bool) → ◌≡◌ {A = Answer} (cond b (Ok tt) (Err (syntax 0))) (Err (syntax n)) → ⊥
    by true e = cc
    by false e = let same : 0 ≡ n = cc in omega (arith, some, same)

taken-on : (levels : ℕ) (h : Head) (behind : List Symbol) (x : Answer) (n : ℕ) → 0 < n → is_refused h ≡ false → x ≡ after (taken levels h behind) (λ e rest. run {P = Place} e rest []) 1 → x ≡ Err (syntax n) → ⊥
unfolding run
taken-on levels refused behind x n some does is at = cc
taken-on levels (along symbols) behind x n some does is at = no-stop x n some (symbols ++ behind) is at
taken-on zero (inside symbols) behind x n some does is at = let both = sym is ∙ at in cc
taken-on (suc levels) (inside symbols) behind x n some does is at = no-stop x n some (symbols ++ s.Leave (suc levels) ∷ behind) is at

-- where it goes on with a word, that does not stop it
pub no-fault : (r : Reached) (w : Tok Place) (x : Answer) (n : ℕ) → Comes r (w ∷ []) x → goes_on r (kind_of_word w.word) ≡ true → 0 < n → x ≡ Err (syntax n) → ⊥
unfolding run
no-fault stopped w x n came goes some at = cc
no-fault a.too_deep w x n (m, came) goes some at = let both = sym came ∙ at in cc
no-fault (on e stack) w x n came goes some at = by (find e stack (kind_of_word w.word)) refl
  where
    by : (o : Option Found) → find e stack (kind_of_word w.word) ≡ o → ⊥
    by None is = let both = sym (ap is_some is) ∙ goes in cc
    by (Some f) is =
        taken-on f.levels f.turn.head (f.turn.behind ++ f.below) x n some (found-head e stack (kind_of_word w.word) f is) (came ∙ ap (λ o. after (found_then o) (λ e rest. run {P = Place} e rest []) 1) is) at

-- where it does not, that does
pub a-fault : (r : Reached) (w : Tok Place) (x : Answer) → Comes r (w ∷ []) x → goes_on r (kind_of_word w.word) ≡ false → (n : ℕ) × (0 < n) × (x ≡ Err (syntax n))
unfolding run
a-fault stopped w x (n, more, came) goes = (n, omega (arith, more), came)
a-fault a.too_deep w x came goes = cc
a-fault (on e stack) w x came goes = by (find e stack (kind_of_word w.word)) refl
  where
    by : (o : Option Found) → find e stack (kind_of_word w.word) ≡ o → (n : ℕ) × (0 < n) × (x ≡ Err (syntax n))
    by None is = (1, omega arith, came ∙ ap (λ o. after (found_then o) (λ e rest. run {P = Place} e rest []) 1) is)
    by (Some f) is = let both = sym (ap is_some is) ∙ goes in cc

-- ---- no more

pub whole-so : (r : Reached) (x : Answer) → Comes r [] x → is_whole r ≡ true → x ≡ Ok tt
unfolding run
whole-so stopped x came is = cc
whole-so a.too_deep x came is = cc
whole-so (on e stack) x came is = came ∙ ap (λ b. cond b (Ok tt) (Err (syntax 0))) is

pub so-whole : (r : Reached) (x : Answer) → Comes r [] x → is_whole r ≡ false → x ≡ Ok tt → ⊥
unfolding run
so-whole stopped x (n, more, came) is at = let both = sym came ∙ at in cc
so-whole a.too_deep x (n, came) is at = let both = sym came ∙ at in cc
so-whole (on e stack) x came is at = let both : ◌≡◌ {A = Answer} (Err (syntax 0)) (Ok tt) = sym (came ∙ ap (λ b. cond b (Ok tt) (Err (syntax 0))) is) ∙ at in cc
