-- The turns of a loop that reads a list.
use Rattle.std.proofs.Common.{◌≡◌, ℕ, zero, suc, ◌+◌, ◌-◌, ◌<◌, ◌≤◌, List, [], ◌∷◌, ◌++◌, map, Ok, Err, Result, Bool, true, false, cond, arith, ap, ◌∙◌, refl}
use Rattle.std.proofs.lemmas.List.{append-nil}
use Rattle.syntax.specs.Words.{Tok}
use Rattle.syntax_reading.specs.ExprReading.{Parse, Fault, each, ◌>>=◌}
use Rattle.syntax_parser.specs.Reads.{with_front}

-- the elements read so far, with one more
pushed : {A B : Type 0} (view : A → B) (xs : List A) (x : A) (ys : List B) → map view xs ++ (view x ∷ ys) ≡ map view (xs ++ x ∷ []) ++ ys
pushed view [] x ys = refl
pushed view (z ∷ xs) x ys = ap (λ ys. view z ∷ ys) (pushed view xs x ys)

pub front-none : {P A B : Type 0} (view : A → B) (xs : List A) (ts : List (Tok P)) → with_front (map view xs) (Ok ([], ts)) ≡ Ok (map view xs, ts)
front-none view xs ts = ap (λ ys. Ok (ys, ts)) (append-nil (map view xs))

front-step : {P A B : Type 0} (view : A → B) (xs : List A) (x : A) (r : Result (List B × List (Tok P)) Fault)
    → with_front (map view xs) (r >>= λ ys. Ok (view x ∷ ys.0, ys.1)) ≡ with_front (map view (xs ++ x ∷ [])) r
front-step view xs x (Ok r) = ap (λ ys. Ok (ys, r.1)) (pushed view xs x r.0)
front-step view xs x (Err f) = refl

pub each-stop : {P B : Type 0} (b : List (Tok P) → Bool) (p : Parse P B) (n : ℕ) (ts : List (Tok P)) → b ts ≡ false → each b p n ts ≡ Ok ([], ts)
unfolding each
each-stop b p zero ts stop = refl
each-stop b p (suc n) ts stop = ap (λ c. cond c (p ts >>= λ x. each b p n x.1 >>= λ xs. Ok (x.0 ∷ xs.0, xs.1)) (Ok ([], ts))) stop

pub each-turn : {P B : Type 0} (b : List (Tok P) → Bool) (p : Parse P B) (last turn : ℕ) (ts : List (Tok P)) → b ts ≡ true → turn < last
    → each b p (last - turn) ts ≡ (p ts >>= λ x. each b p (last - (turn + 1)) x.1 >>= λ xs. Ok (x.0 ∷ xs.0, xs.1))
unfolding each
each-turn b p last turn ts go h =
    let e : last - turn ≡ suc (last - (turn + 1)) = omega arith in
    ap (λ n. each b p n ts) e
    ∙ ap (λ c. cond c (p ts >>= λ x. each b p (last - (turn + 1)) x.1 >>= λ xs. Ok (x.0 ∷ xs.0, xs.1)) (Ok ([], ts))) go

-- the next token begins none
pub loop-stop : {P A B : Type 0} (view : A → B) (b : List (Tok P) → Bool) (p : Parse P B) (n : ℕ) (xs : List A) (ts : List (Tok P)) → b ts ≡ false
    → with_front (map view xs) (each b p n ts) ≡ Ok (map view xs, ts)
loop-stop view b p n xs ts stop = ap (with_front (map view xs)) (each-stop b p n ts stop) ∙ front-none view xs ts

-- all turns are used
pub loop-last : {P A B : Type 0} (view : A → B) (b : List (Tok P) → Bool) (p : Parse P B) (last turn : ℕ) (xs : List A) (ts : List (Tok P)) → last ≤ turn
    → with_front (map view xs) (each b p (last - turn) ts) ≡ Ok (map view xs, ts)
unfolding each
loop-last view b p last turn xs ts h =
    let e : last - turn ≡ 0 = omega arith in ap (λ n. with_front (map view xs) (each b p n ts)) e ∙ front-none view xs ts

-- one more is read
pub loop-turn : {P A B : Type 0} (view : A → B) (b : List (Tok P) → Bool) (p : Parse P B) (last turn : ℕ) (xs : List A) (ts us : List (Tok P)) (x : A)
    → b ts ≡ true → turn < last → p ts ≡ Ok (view x, us)
    → with_front (map view xs) (each b p (last - turn) ts) ≡ with_front (map view (xs ++ x ∷ [])) (each b p (last - (turn + 1)) us)
loop-turn view b p last turn xs ts us x go h read =
    ap (with_front (map view xs)) (each-turn b p last turn ts go h)
    ∙ ap (λ r. with_front (map view xs) (r >>= λ x. each b p (last - (turn + 1)) x.1 >>= λ xs. Ok (x.0 ∷ xs.0, xs.1))) read
    ∙ front-step view xs x (each b p (last - (turn + 1)) us)
