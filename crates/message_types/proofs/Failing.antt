-- Something is told exactly of the places at which the rule for types and numbers of arguments
-- fails.
use Rattle.std.proofs.Common.{◌≡◌, ◌==◌, ℕ, Bool, true, false, List, [], ◌∷◌, Option, Some, None, ◌⊎◌, inl, inr, ◌↔◌, IsSome, option_map, refl, ap, sym, ◌∙◌, subst, eqb, eqb-true, arith, if◌then◌else◌}
use Rattle.std.proofs.lemmas.Bool.{and_parts, and_from, eq-eqb}
use Rattle.std.proofs.lemmas.Bool.Decides.{nat_tests}
use Rattle.std.specs.Option.{is_none, is_some, option_or}
use Rattle.syntax_tree.specs.Placed.{Prog}
use Rattle.syntax_tree.specs.Parts.{same_place}
use Rattle.syntax_tree.specs.declared.place.Place.{Place}
use Rattle.static_rule.specs.Parts.{FailsOf, FailsAmong}
use Rattle.static_declarations.specs.Things.{named_at, sort_of}
use Rattle.static_declarations.specs.Parts.{Part, statement, answer, stmt_place, parts}
use Rattle.static_types.specs.Types.{is_of, mistyped, stmt_agrees}
use Rattle.static_types.specs.Conduct.{is_at}
use Rattle.static_types.specs.Rules.{statement_rules, StatementFails}
use Rattle.message_types.specs.Mismatches.{Mismatch, result_of, unfit, stmt_mismatch}
use Rattle.message_types.specs.Sentences.{sentence}
use Rattle.message_conduct.specs.Told.{routine_name}
use Rattle.message_types.specs.Told.{first_mismatch, mismatch_at, type_sentence}
use Rattle.message_types.proofs.Agreeing.{of-stmt, of-unfit}

some-if : (b : Bool) (m : Mismatch) → is_some (if b then Some m else None) ≡ b
some-if true m = refl
some-if false m = refl

none-if : (b : Bool) (m : Option Mismatch) → m ≡ None → is_some (if b then m else None) ≡ false
none-if true m is = ap is_some is
none-if false m is = refl

-- a mismatch is found exactly where what fails stands at the place
found-there : (agrees : Bool) (p place : Place) (m : Option Mismatch) → is_none m ≡ agrees
    → is_some (if same_place p place then m else None) ≡ is_at place (if agrees then None else Some p)
found-there true p place None is = none-if (same_place p place) None refl
found-there true p place (Some m) is = cc
found-there false p place None is = cc
found-there false p place (Some m) is = some-if (same_place p place) m

pub at-part : (g : Prog Place) (place : Place) (part : Part) → is_some (mismatch_at g place part) ≡ is_at place (mistyped (named_at g) part)
at-part g place (statement here s) = found-there (stmt_agrees (named_at g) s) (stmt_place s) place (stmt_mismatch (named_at g) s) (of-stmt (named_at g) s)
at-part g place (answer name kind e) =
    let spot = result_of (routine_name g name) in
    found-there (is_of (named_at g) (sort_of kind) e) name place (unfit (named_at g) spot (sort_of kind) e) (of-unfit (named_at g) spot (sort_of kind) e)

-- ---- numbers and places

not-eqb : (m n : ℕ) → (m ≡ n → ⊥) → (m == n) ≡ false
not-eqb m n other = grind (arith, nat_tests)

same-true : (p q : Place) → same_place p q ≡ true → p ≡ q
same-true p q h =
    let both = and_parts (eqb p.line q.line) (eqb p.col q.col) h in
    let line : p.line ≡ q.line = eqb-true p.line q.line both.0 in
    let col : p.col ≡ q.col = eqb-true p.col q.col both.1 in
    λ i. record { line = line i; col = col i }

itself : (p : Place) → same_place p p ≡ true
itself p = and_from _ _ (eq-eqb p.line p.line refl) (eq-eqb p.col p.col refl)

is-there : (place : Place) (fails : Option Place) → is_at place fails ≡ true → fails ≡ Some place
is-there place None h = cc
is-there place (Some p) h = ap Some (same-true p place h)

there : (place : Place) (fails : Option Place) → fails ≡ Some place → is_at place fails ≡ true
there place fails h = ap (is_at place) h ∙ itself place

-- ---- one part, and all of them

either : (x y : Option Mismatch) → IsSome (option_or x y) → IsSome x ⊎ IsSome y
either None y h = inr h
either (Some m) y h = inl refl

or-first : (x y : Option Mismatch) → IsSome x → IsSome (option_or x y)
or-first None y h = cc
or-first (Some m) y h = refl

or-last : (x y : Option Mismatch) → IsSome y → IsSome (option_or x y)
or-last None y h = h
or-last (Some m) y h = refl

fails-of : (g : Prog Place) (place : Place) (part : Part) → mistyped (named_at g) part ≡ Some place → FailsOf (statement_rules g) part 30 place
unfolding statement_rules
fails-of g place part h = inl (refl, h)

of-fails : (g : Prog Place) (place : Place) (part : Part) → FailsOf (statement_rules g) part 30 place → mistyped (named_at g) part ≡ Some place
unfolding statement_rules
of-fails g place part (inl h) = h.1
of-fails g place part (inr (inl h)) = absurd (omega (arith, h.0))
of-fails g place part (inr (inr (inl h))) = absurd (omega (arith, h.0))
of-fails g place part (inr (inr (inr (inl h)))) = absurd (omega (arith, h.0))
of-fails g place part (inr (inr (inr (inr (inl h))))) = absurd (omega (arith, h.0))
of-fails g place part (inr (inr (inr (inr (inr (inl h)))))) = absurd (omega (arith, h.0))
of-fails g place part (inr (inr (inr (inr (inr (inr (inl h))))))) = absurd (omega (arith, h.0))
of-fails g place part (inr (inr (inr (inr (inr (inr (inr (inl h)))))))) = absurd (omega (arith, h.0))
of-fails g place part (inr (inr (inr (inr (inr (inr (inr (inr h)))))))) = absurd h

failure : (g : Prog Place) (place : Place) (ps : List Part) → IsSome (first_mismatch g place ps) → FailsAmong (statement_rules g) ps 30 place
failure g place [] h = cc
failure g place (p ∷ ps) h = elim (either (mismatch_at g place p) (first_mismatch g place ps) h) [
  | inl here ↦ inl (fails-of g place p (is-there place (mistyped (named_at g) p) (sym (at-part g place p) ∙ here)))
  | inr later ↦ inr (failure g place ps later)
]

mismatched : (g : Prog Place) (place : Place) (ps : List Part) → FailsAmong (statement_rules g) ps 30 place → IsSome (first_mismatch g place ps)
mismatched g place [] h = absurd h
mismatched g place (p ∷ ps) (inl here) = or-first (mismatch_at g place p) _ (at-part g place p ∙ there place (mistyped (named_at g) p) (of-fails g place p here))
mismatched g place (p ∷ ps) (inr later) = or-last (mismatch_at g place p) _ (mismatched g place ps later)

said : (m : Option Mismatch) → is_some (option_map sentence m) ≡ is_some m
said None = refl
said (Some m) = refl

of-rule : (g : Prog Place) (place : Place) → IsSome (type_sentence g 30 place) ↔ StatementFails g 30 place
unfolding type_sentence
of-rule g place =
    let same = said (first_mismatch g place (parts g)) in
    ((λ h. failure g place (parts g) (sym same ∙ h)), (λ h. same ∙ mismatched g place (parts g) h))

pub of-this : (g : Prog Place) (number : ℕ) (place : Place) → number ≡ 30 → option_map sentence (first_mismatch g place (parts g)) ≡ type_sentence g number place
unfolding type_sentence
of-this g number place is = ap (λ k. if k == 30 then option_map sentence (first_mismatch g place (parts g)) else None) (sym is)

pub of-other : (g : Prog Place) (number : ℕ) (place : Place) → (number ≡ 30 → ⊥) → None ≡ type_sentence g number place
unfolding type_sentence
of-other g number place other = ap (λ b. if b then option_map sentence (first_mismatch g place (parts g)) else None) (sym (not-eqb number 30 other))

when-some : (b : Bool) (x : Option (List ℕ)) → IsSome (if b then x else None) → b ≡ true
when-some true x h = refl
when-some false x h = cc

by-number : (g : Prog Place) (number : ℕ) (place : Place) → IsSome (type_sentence g number place) → number ≡ 30
unfolding type_sentence
by-number g number place h = eqb-true number 30 (when-some (eqb number 30) (option_map sentence (first_mismatch g place (parts g))) h)

pub of-sentences : (g : Prog Place) (number : ℕ) (place : Place) → IsSome (type_sentence g number place) ↔ ((number ≡ 30) × StatementFails g number place)
of-sentences g number place = (
  (λ h.
      let is = by-number g number place h in
      (is, subst (λ k. StatementFails g k place) (sym is) ((of-rule g place).0 (subst (λ k. IsSome (type_sentence g k place)) is h)))),
  (λ h. subst (λ k. IsSome (type_sentence g k place)) (sym h.0) ((of-rule g place).1 (subst (λ k. StatementFails g k place) h.0 h.1))),
)
