-- Rules over the parts of a tree and of the tree with other places.
use Rattle.std.proofs.Common.{◌≡◌, ℕ, inl, inr, Bool, List, [], ◌∷◌, Option, Some, None, sym, ◌∙◌, ap}
use Rattle.std.specs.Prelude.{if◌then◌else◌}
use Rattle.syntax_tree.specs.declared.place.Place.{Place}
use Rattle.static_rule.specs.Parts.{Rule, FailsOf, FailsAmong}
use Rattle.printed_law.specs.Alike.{Stays}
use Rattle.printed_law.proofs.Both.{Both, Likewise, Pairwise, chosen}

-- the same rule, which fails of related parts at two places of one position
pub record LikeRule {X U V : Type 0} (a b : X → Place) (R : U → V → Type 0) (r : Rule U) (s : Rule V) : Type 0 where
  pub number : r.number ≡ s.number
  pub fails : (x : U) (y : V) → R x y → Likewise (Both a b) (r.fails x) (s.fails y)

module _ {X : Type 0} (a b : X → Place) where
  pub some-stays : (u v : Option Place) → Likewise (Both a b) u v → (p : Place) → u ≡ Some p → Stays a b p (λ q. v ≡ Some q)
  some-stays None None like p same = absurd (let no : None ≡ Some p = same in cc)
  some-stays (Some u) (Some v) like p same =
      let is : u ≡ p = cc in
      record { at = like.at; is = sym is ∙ like.one; holds = ap (λ q. Some q) like.two }
  some-stays None (Some v) like p same = absurd like
  some-stays (Some u) None like p same = absurd like

  -- the place, where a test says so
  pub placed-if : (c d : Bool) → c ≡ d → (p q : Place) → Both a b p q → Likewise (Both a b) (if c then Some p else None) (if d then Some q else None)
  placed-if c d same p q both = chosen (Likewise (Both a b)) c d same (Some p) None (Some q) None both tt

  pub placed-unless : (c d : Bool) → c ≡ d → (p q : Place) → Both a b p q → Likewise (Both a b) (if c then None else Some p) (if d then None else Some q)
  placed-unless c d same p q both = chosen (Likewise (Both a b)) c d same None (Some p) None (Some q) tt both

  of-stays : {U V : Type 0} (R : U → V → Type 0) (rs : List (Rule U)) (ss : List (Rule V)) → Pairwise (LikeRule a b R) rs ss → (x : U) (y : V) → R x y → (number : ℕ) (p : Place)
      → FailsOf rs x number p → Stays a b p (FailsOf ss y number)
  of-stays R [] ss like x y are number p fails = absurd fails
  of-stays R (r ∷ rs) [] like x y are number p fails = absurd like
  of-stays R (r ∷ rs) (s ∷ ss) like x y are number p (inl fails) =
      let it = some-stays (r.fails x) (s.fails y) (like.0.fails x y are) p fails.1 in
      record { at = it.at; is = it.is; holds = inl (sym like.0.number ∙ fails.0, it.holds) }
  of-stays R (r ∷ rs) (s ∷ ss) like x y are number p (inr fails) =
      let it = of-stays R rs ss like.1 x y are number p fails in
      record { at = it.at; is = it.is; holds = inr it.holds }

  pub among-stays : {U V : Type 0} (R : U → V → Type 0) (rs : List (Rule U)) (ss : List (Rule V)) → Pairwise (LikeRule a b R) rs ss → (xs : List U) (ys : List V) → Pairwise R xs ys → (number : ℕ) (p : Place)
      → FailsAmong rs xs number p → Stays a b p (FailsAmong ss ys number)
  among-stays R rs ss like [] ys are number p fails = absurd fails
  among-stays R rs ss like (x ∷ xs) [] are number p fails = absurd are
  among-stays R rs ss like (x ∷ xs) (y ∷ ys) are number p (inl fails) =
      let it = of-stays R rs ss like x y are.0 number p fails in
      record { at = it.at; is = it.is; holds = inl it.holds }
  among-stays R rs ss like (x ∷ xs) (y ∷ ys) are number p (inr fails) =
      let it = among-stays R rs ss like xs ys are.1 number p fails in
      record { at = it.at; is = it.is; holds = inr it.holds }
