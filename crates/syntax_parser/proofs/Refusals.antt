-- A list of tokens at fault has no tree, and a fault of nesting stands at a token that opens a level beyond the last.
use Rattle.std.proofs.Common.{◌≡◌, ℕ, List, [], ◌∷◌, ◌++◌, length, map, Result, Ok, Err, refl, ap, sym, ◌∙◌, subst, arith}
use Rattle.std.proofs.lemmas.Grind.{common_steps}
use Rattle.syntax_tree.specs.declared.place.Place.{Place}
use Rattle.syntax.specs.declared.token.Token.{Token}
use Rattle.syntax_tree.specs.Placed.{Prog}
use Rattle.syntax.specs.Words.{Tok, tok, toks_of}
use Rattle.syntax.specs.Grammar.{MOST_LEVELS, IsProg}
use Rattle.syntax.specs.Opening.{OpensProg}
use Rattle.syntax_reading.specs.ExprReading.{Fault, nesting}
use Rattle.syntax_reading.specs.Reading.{whole}
use Rattle.syntax_reading.proofs.Again.{whole_again}
use Rattle.syntax_reading.proofs.ProgOpens.{whole_opens}
use Rattle.syntax_reading.proofs.OpenTails.{prog-at}
use Rattle.syntax_reading.proofs.ProgDeep.{whole_finds}
use Rattle.syntax_parser.specs.Faults.{OpensAt}

pub no_tree : {P : Type 0} (ts : List (Tok P)) (f : Fault) → whole MOST_LEVELS ts ≡ Err f → (g : Prog P) → IsProg g ts [] → ⊥
no_tree {P} ts f e g took = let both : ◌≡◌ {A = Result (Prog P) Fault} (Ok g) (Err f) = sym (whole_again MOST_LEVELS ts g took) ∙ e in cc

-- the end of what a list is mapped to is what an end of the list is mapped to
map-end : {A B : Type 0} (f : A → B) (xs : List A) (front us : List B) → map f xs ≡ front ++ us
    → (before after : List A) × (xs ≡ before ++ after) × (us ≡ map f after)
map-end f xs [] us e = ([], xs, refl, sym e)
map-end f [] (z ∷ front) us e = cc
map-end f (x ∷ xs) (z ∷ front) us e =
    let rest : map f xs ≡ front ++ us = cc in
    let (before, after, all, is) = map-end f xs front us rest in
    (x ∷ before, after, ap (λ l. x ∷ l) all, is)

-- the token at a fault of nesting, with those before it and those behind it
pub record Opening (text : List ℕ) (toks : List Token) (left : ℕ) : Type 0 where
  pub before : List Token
  pub token : Token
  pub after : List Token
  pub all : toks ≡ before ++ token ∷ after
  pub count : left ≡ length (token ∷ after)
  pub opens : OpensProg (toks_of text toks) (toks_of text (token ∷ after))

length-toks : (text : List ℕ) (toks : List Token) → length (toks_of text toks) ≡ length toks
length-toks text toks = grind (arith, common_steps)

from-end : (text : List ℕ) (toks before after : List Token) (us rest : List (Tok Place)) (first : Tok Place) (n : ℕ) → OpensProg (toks_of text toks) us → length us ≡ n → us ≡ first ∷ rest
    → toks ≡ before ++ after → us ≡ toks_of text after → Opening text toks n
from-end text toks before [] us rest first n opens left some all is = let none = sym some ∙ is in cc
from-end text toks before (t ∷ after) us rest first n opens left some all is =
    record {
      before = before;
      token = t;
      after = after;
      all = all;
      count = sym left ∙ ap length is ∙ length-toks text (t ∷ after);
      opens = subst (OpensProg (toks_of text toks)) is opens;
    }

pub opening : (text : List ℕ) (toks : List Token) (left : ℕ) → whole MOST_LEVELS (toks_of text toks) ≡ Err (nesting left) → Opening text toks left
opening text toks left e =
    let (us, opens, count) = whole_opens (toks_of text toks) left e in
    let at = prog-at (toks_of text toks) us opens in
    let (before, after, all, is) = map-end (tok text) toks at.end.front us at.end.is in
    from-end text toks before after us at.rest at.first left opens count at.is all is

-- where a token opens a level beyond the last, reading stops at it
pub stopped : (text : List ℕ) (toks : List Token) (p : Place) (o : OpensAt text toks p) → whole MOST_LEVELS (toks_of text toks) ≡ Err (nesting (length (o.token ∷ o.after)))
stopped text toks p o =
    whole_finds (toks_of text toks) (toks_of text (o.token ∷ o.after)) o.opens ∙ ap (λ n. Err (nesting n)) (length-toks text (o.token ∷ o.after))
