-- A fault of the grammar stands at the token with which the tokens read no longer begin a program, or at the end of what begins one.
use Rattle.std.proofs.Common.{◌≡◌, ℕ, zero, suc, ◌+◌, ◌≤◌, ◌⊎◌, inl, inr, List, [], ◌∷◌, ◌++◌, length, map, Result, Ok, Err, refl, ap, sym, ◌∙◌, subst, append_assoc, arith}
use Rattle.std.proofs.lemmas.Grind.{common_steps}
use Rattle.std.proofs.lemmas.List.{length-map, map-append}
use Rattle.syntax_tree.specs.declared.place.Place.{Place}
use Rattle.syntax_tree.specs.Placed.{Prog}
use Rattle.syntax.specs.declared.token.Token.{Token}
use Rattle.syntax.specs.Words.{Tok, tok, toks_of}
use Rattle.syntax.specs.Grammar.{MOST_LEVELS, IsProgWithin}
use Rattle.syntax.specs.Opening.{Whole}
use Rattle.syntax_reading.specs.ExprReading.{Fault, syntax}
use Rattle.syntax_reading.specs.Reading.{whole}
use Rattle.syntax_reading.specs.Beginning.{BeginsWithin, BeginsProg, Stop}
use Rattle.syntax_reading.proofs.Viable.{Partial}
use Rattle.syntax_reading.proofs.ProgViable.{whole-viable}
use Rattle.syntax_reading.proofs.ProgLocal.{no_beginning}

-- the two parts of what a list is mapped to are what two parts of the list are mapped to
split : {A B : Type 0} (f : A → B) (xs : List A) (front us : List B) → map f xs ≡ front ++ us
    → (before after : List A) × (xs ≡ before ++ after) × (map f before ≡ front) × (us ≡ map f after)
split f xs [] us e = ([], xs, refl, refl, sym e)
split f [] (z ∷ front) us e = cc
split f (x ∷ xs) (z ∷ front) us e =
    let head : f x ≡ z = cc in
    let rest : map f xs ≡ front ++ us = cc in
    let (before, after, all, first, is) = split f xs front us rest in
    (x ∷ before, after, ap (λ l. x ∷ l) all, ap (λ l. f x ∷ l) first ∙ ap (λ y. y ∷ front) head, is)

-- one more, and then others
one-more : {A B : Type 0} (f : A → B) (xs : List A) (x : A) (us : List B) → map f (xs ++ x ∷ []) ++ us ≡ map f xs ++ f x ∷ us
one-more f [] x us = refl
one-more f (y ∷ xs) x us = ap (λ l. f y ∷ l) (one-more f xs x us)

stop-or-end : (text : List ℕ) (toks before after : List Token) (left : ℕ) → whole MOST_LEVELS (toks_of text toks) ≡ Err (syntax left) → toks ≡ before ++ after
    → left ≡ length (toks_of text after) → BeginsProg (toks_of text before)
    → ((s : Stop text toks) × (left ≡ length (s.token ∷ s.after))) ⊎ (BeginsProg (toks_of text toks) × (left ≡ 0))
stop-or-end text toks before [] left bad all count begins =
    let same : toks ≡ before = all ∙ grind (arith, common_steps) in
    inr (subst (λ l. BeginsProg (toks_of text l)) (sym same) begins, count)
stop-or-end text toks before (t ∷ after) left bad all count begins =
    let list : toks_of text toks ≡ toks_of text before ++ tok text t ∷ toks_of text after = ap (toks_of text) all ∙ map-append (tok text) before (t ∷ after) in
    let fault : whole MOST_LEVELS (toks_of text before ++ tok text t ∷ toks_of text after) ≡ Err (syntax (length (tok text t ∷ toks_of text after))) =
    sym (ap (whole MOST_LEVELS) list) ∙ bad ∙ ap (λ n. Err (syntax n)) count in
    inl (
      record {
        before = before;
        token = t;
        after = after;
        all = all;
        begins = begins;
        stops = λ (more, (us, g, took)).
            no_beginning (tok text t) (toks_of text after) us (MOST_LEVELS + more) (omega arith) (toks_of text before) g fault
            (subst (λ l. IsProgWithin (MOST_LEVELS + more) g l []) (one-more (tok text) before t us) took);
      },
      count ∙ length-map (t ∷ after) (tok text),
    )

pub fault-stops : (text : List ℕ) (toks : List Token) (left : ℕ) → whole MOST_LEVELS (toks_of text toks) ≡ Err (syntax left)
    → ((s : Stop text toks) × (left ≡ length (s.token ∷ s.after))) ⊎ (BeginsProg (toks_of text toks) × (left ≡ 0))
fault-stops text toks left bad =
    let r = whole-viable (record { line = 0; col = 0 }) MOST_LEVELS (toks_of text toks) left bad in
    let (before, after, all, first, is) = split (tok text) toks r.front r.rest r.is in
    let g = r.fits [] in
    stop-or-end text toks before after left bad all (sym r.left ∙ ap length is) (subst BeginsProg (sym first) (1, (r.more ++ [], g.0, g.1)))

-- ---- there is one such token

shorter-begins : {P : Type 0} (xs ys : List (Tok P)) → BeginsProg (xs ++ ys) → BeginsProg xs
shorter-begins xs ys (more, (us, g, took)) = (more, (ys ++ us, g, subst (λ l. IsProgWithin (MOST_LEVELS + more) g l []) (append_assoc xs ys us) took))

-- a stop before another is none: the tokens up to it begin a program
not-before : (text : List ℕ) (before rest : List Token) (t : Token) → BeginsProg (toks_of text (before ++ t ∷ rest)) → BeginsProg (toks_of text (before ++ t ∷ []))
not-before text before rest t begins =
    let list : toks_of text (before ++ t ∷ rest) ≡ toks_of text (before ++ t ∷ []) ++ toks_of text rest =
    map-append (tok text) before (t ∷ rest) ∙ sym (one-more (tok text) before t (toks_of text rest)) in
    shorter-begins (toks_of text (before ++ t ∷ [])) (toks_of text rest) (subst BeginsProg list begins)

-- of two places in a list, they are one, or the one stands before the other
which : {A : Type 0} (bs cs : List A) (x y : A) (xs ys : List A) → bs ++ x ∷ xs ≡ cs ++ y ∷ ys → (x ≡ y) ⊎ ((zs : List A) × (cs ≡ bs ++ x ∷ zs)) ⊎ ((zs : List A) × (bs ≡ cs ++ y ∷ zs))
which [] [] x y xs ys e = inl cc
which [] (c ∷ cs) x y xs ys e = let head : x ≡ c = cc in inr (inl (cs, ap (λ z. z ∷ cs) (sym head)))
which (b ∷ bs) [] x y xs ys e = let head : b ≡ y = cc in inr (inr (bs, ap (λ z. z ∷ bs) head))
which (b ∷ bs) (c ∷ cs) x y xs ys e =
    let head : b ≡ c = cc in
    let rest : bs ++ x ∷ xs ≡ cs ++ y ∷ ys = cc in
    elim (which bs cs x y xs ys rest) [
      | inl same ↦ inl same
      | inr later ↦ elim later [
        | inl (zs, is) ↦ inr (inl (zs, ap (λ l. c ∷ l) is ∙ ap (λ z. z ∷ (bs ++ x ∷ zs)) (sym head)))
        | inr (zs, is) ↦ inr (inr (zs, ap (λ l. b ∷ l) is ∙ ap (λ z. z ∷ (cs ++ y ∷ zs)) head))
      ]
    ]

pub one-stop : (text : List ℕ) (toks : List Token) (s r : Stop text toks) → s.token ≡ r.token
one-stop text toks s r =
    elim (which s.before r.before s.token r.token s.after r.after (sym s.all ∙ r.all)) [
      | inl same ↦ same
      | inr later ↦ elim later [
        | inl (zs, is) ↦ absurd (s.stops (not-before text s.before zs s.token (subst (λ l. BeginsProg (toks_of text l)) is r.begins)))
        | inr (zs, is) ↦ absurd (r.stops (not-before text r.before zs r.token (subst (λ l. BeginsProg (toks_of text l)) is s.begins)))
      ]
    ]

-- the whole list begins no program where there is such a token
pub no-end : (text : List ℕ) (toks : List Token) → Stop text toks → BeginsProg (toks_of text toks) → ⊥
no-end text toks s begins = s.stops (not-before text s.before s.after s.token (subst (λ l. BeginsProg (toks_of text l)) s.all begins))
