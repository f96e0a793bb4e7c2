-- Two ends of a list that have one length are one.
use Rattle.std.proofs.Common.{◌≡◌, ℕ, List, [], ◌∷◌, ◌++◌, ◌+◌, length, Result, Err, inl, inr, ap, sym, ◌∙◌, arith}
use Rattle.std.proofs.lemmas.Grind.{common_steps}
use Rattle.syntax_tree.specs.declared.place.Place.{Place}
use Rattle.syntax_tree.specs.Placed.{Prog}
use Rattle.syntax.specs.declared.token.Token.{Token}
use Rattle.syntax.specs.declared.token.Tokens.{Tokens}
use Rattle.syntax_reading.specs.ExprReading.{Fault, nesting}
use Rattle.syntax_parser.specs.Faults.{OpensAt, StopsAt, place}
use Rattle.syntax_reading.proofs.Stops.{one-stop, no-end}
use Rattle.syntax_parser.proofs.Refusals.{stopped}

same_end : {A : Type 0} (front other : List A) (x y : A) (xs ys : List A) → front ++ x ∷ xs ≡ other ++ y ∷ ys → length (x ∷ xs) ≡ length (y ∷ ys) → x ≡ y
same_end [] [] x y xs ys e n = cc
same_end [] (z ∷ zs) x y xs ys e n =
    let rest : xs ≡ zs ++ y ∷ ys = cc in
    let count : length xs ≡ length zs + length (y ∷ ys) = ap length rest ∙ grind (arith, common_steps) in
    absurd (omega arith)
same_end (z ∷ zs) [] x y xs ys e n =
    let rest : zs ++ x ∷ xs ≡ ys = cc in
    let count : length ys ≡ length zs + length (x ∷ xs) = sym (ap length rest) ∙ grind (arith, common_steps) in
    absurd (omega arith)
same_end (z ∷ zs) (w ∷ ws) x y xs ys e n = let rest : zs ++ x ∷ xs ≡ ws ++ y ∷ ys = cc in same_end zs ws x y xs ys rest n

pub one_opening : (text : List ℕ) (toks : List Token) (p q : Place) → OpensAt text toks p → OpensAt text toks q → p ≡ q
one_opening text toks p q first second =
    let both : ◌≡◌ {A = Result (Prog Place) Fault} (Err (nesting (length (first.token ∷ first.after)))) (Err (nesting (length (second.token ∷ second.after)))) =
    sym (stopped text toks p first) ∙ stopped text toks q second in
    let count : length (first.token ∷ first.after) ≡ length (second.token ∷ second.after) = cc in
    first.stands ∙ (ap place (same_end first.before second.before first.token second.token first.after second.after (sym first.all ∙ second.all) count) ∙ sym second.stands)

pub one_place : (text : List ℕ) (toks : Tokens) (p q : Place) → StopsAt text toks p → StopsAt text toks q → p ≡ q
one_place text toks p q (inl (s, is)) (inl (r, same)) = is ∙ ap place (one-stop text toks.list s r) ∙ sym same
one_place text toks p q (inl (s, is)) (inr (begins, same)) = absurd (no-end text toks.list s begins)
one_place text toks p q (inr (begins, is)) (inl (r, same)) = absurd (no-end text toks.list r begins)
one_place text toks p q (inr (begins, is)) (inr (others, same)) = is ∙ sym same
