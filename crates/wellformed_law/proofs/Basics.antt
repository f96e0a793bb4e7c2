-- Lists, tests and rules: what stands in a list stands behind more of it, and where no rule fails, each of them holds of each part.
use Rattle.std.proofs.Common.{◌≡◌, ℕ, ◌⊎◌, inl, inr, Bool, true, false, if◌then◌else◌, List, [], ◌∷◌, Option, Some, None, refl, sym, subst, arith}
use Rattle.std.specs.Prelude.{Contains}
use Rattle.base.proofs.Members.{front_or_behind}
use Rattle.syntax_tree.specs.Placed.{Prog}
use Rattle.syntax_tree.specs.declared.place.Place.{Place}
use Rattle.static_rule.specs.Parts.{Rule, FailsOf, FailsAmong}
use Rattle.static_declarations.specs.Things.{named_at}
use Rattle.static_declarations.specs.Values.{value}
use Rattle.static_declarations.specs.Parts.{Part, parts}
use Rattle.static_types.specs.Types.{mistyped}
use Rattle.static_types.specs.Conduct.{misplaced, misdirected}
use Rattle.static_types.specs.Numbers.{crossed_loop, endless_loop, long_loop, bad_number, bad_limit}
use Rattle.static_types.specs.Rules.{statement_rules, StatementFails}

-- ---- tests

-- ---- rules

none_given : (o : Option Place) → ((p : Place) → ¬ (o ≡ Some p)) → o ≡ None
none_given None h = refl
none_given (Some p) h = absurd (h p refl)

-- a rule that fails of one of the parts fails among them
among : {X : Type 0} (rs : List (Rule X)) (xs : List X) (x : X) (number : ℕ) (place : Place) → Contains xs x → FailsOf rs x number place → FailsAmong rs xs number place
among rs [] x number place h f = absurd (omega (arith, h.1))
among rs (y ∷ ys) x number place h f = by (front_or_behind y ys x h) (λ there. among rs ys x number place there f)
  where
    by : (y ≡ x) ⊎ Contains ys x → (Contains ys x → FailsAmong rs ys number place) → FailsAmong rs (y ∷ ys) number place
    by (inl same) rest = inl (subst (λ z. FailsOf rs z number place) (sym same) f)
    by (inr there) rest = inr (rest there)

-- the rules for statements hold of a part
pub record KeepsRules (g : Prog Place) (x : Part) : Type 0 where
  pub mistyped : mistyped (named_at g) x ≡ None
  pub crossed_loop : crossed_loop (value g) x ≡ None
  pub endless_loop : endless_loop (value g) x ≡ None
  pub long_loop : long_loop (value g) x ≡ None
  pub misplaced : misplaced (named_at g) x ≡ None
  pub misdirected : misdirected (named_at g) x ≡ None
  pub bad_number : bad_number (value g) x ≡ None
  pub bad_limit : bad_limit (value g) x ≡ None

pub keeps_rules : (g : Prog Place) (x : Part) → ((number : ℕ) (place : Place) → ¬ StatementFails g number place) → Contains (parts g) x → KeepsRules g x
unfolding statement_rules
keeps_rules g x keeps listed = record {
  mistyped = none_given _ (λ p e. keeps 30 p (among (statement_rules g) (parts g) x 30 p listed (inl (refl, e))));
  crossed_loop = none_given _ (λ p e. keeps 32 p (among (statement_rules g) (parts g) x 32 p listed (inr (inl (refl, e)))));
  endless_loop = none_given _ (λ p e. keeps 32 p (among (statement_rules g) (parts g) x 32 p listed (inr (inr (inl (refl, e))))));
  long_loop = none_given _ (λ p e. keeps 33 p (among (statement_rules g) (parts g) x 33 p listed (inr (inr (inr (inl (refl, e)))))));
  misplaced = none_given _ (λ p e. keeps 34 p (among (statement_rules g) (parts g) x 34 p listed (inr (inr (inr (inr (inl (refl, e))))))));
  misdirected = none_given _ (λ p e. keeps 38 p (among (statement_rules g) (parts g) x 38 p listed (inr (inr (inr (inr (inr (inl (refl, e)))))))));
  bad_number = none_given _ (λ p e. keeps 39 p (among (statement_rules g) (parts g) x 39 p listed (inr (inr (inr (inr (inr (inr (inl (refl, e))))))))));
  bad_limit = none_given _ (λ p e. keeps 45 p (among (statement_rules g) (parts g) x 45 p listed (inr (inr (inr (inr (inr (inr (inr (inl (refl, e)))))))))));
}

-- ---- what a rule that holds says of its test

pub held : (b : Bool) (place : Place) → (if b then None else Some place) ≡ None → b ≡ true
held true place e = refl
held false place e = cc

pub not_held : (b : Bool) (place : Place) → (if b then Some place else None) ≡ None → b ≡ false
not_held false place e = refl
not_held true place e = cc
