-- The rules for names in a tree and in the tree with other places.
use Rattle.std.proofs.Common.{◌≡◌, ℕ, Bool, true, not, inl, inr, List, [], ◌∷◌, Some, None, refl, sym, ◌∙◌}
use Rattle.std.specs.Prelude.{if◌then◌else◌}
use Rattle.syntax_tree.specs.Placed.{Prog}
use Rattle.syntax_tree.specs.declared.place.Place.{Place}
use Rattle.syntax_tree.specs.Parts.{same_place}
use Rattle.static_names.specs.Reach.{same, suits}
use Rattle.static_names.specs.Occurrences.{Occurrence, declares, closes, used, names, declared_at}
use Rattle.static_names.specs.Rules.{Among, place_of, undeclared, shadows, misused, misclosed, Fails}
use Rattle.printed_law.specs.Moved.{moved}
use Rattle.printed_law.specs.Alike.{AreAlike, Stays}
use Rattle.printed_law.proofs.Both.{Both, both-same, Likewise, Pairwise, chosen}
use Rattle.printed_law.proofs.Sites.{or-else-like}
use Rattle.printed_law.proofs.Names.{LikeOccurrence, names-like}

module _ {X : Type 0} (a b : X → Place) where
  place-like : (x y : Occurrence) → LikeOccurrence a b x y → Both a b (place_of x) (place_of y)
  place-like (declares n p t) (declares m q u) like = like.0
  place-like (closes n p t) (closes m q u) like = like.0
  place-like (used n p w d) (used m q v e) like = like.0
  place-like x y like = absurd like

  undeclared-like : (x y : Occurrence) → LikeOccurrence a b x y → undeclared x ≡ undeclared y
  undeclared-like (declares n p t) (declares m q u) like = refl
  undeclared-like (closes n p t) (closes m q u) like = refl
  undeclared-like (used n p w None) (used m q v None) like = refl
  undeclared-like (used n p w (Some d)) (used m q v (Some e)) like = refl
  undeclared-like (used n p w None) (used m q v (Some e)) like = absurd like.2
  undeclared-like (used n p w (Some d)) (used m q v None) like = absurd like.2
  undeclared-like x y like = absurd like

  shadows-like : (x y : Occurrence) → LikeOccurrence a b x y → shadows x ≡ shadows y
  shadows-like (declares n p t) (declares m q u) like = like.1
  shadows-like (closes n p t) (closes m q u) like = refl
  shadows-like (used n p w d) (used m q v e) like = refl
  shadows-like x y like = absurd like

  misused-like : (x y : Occurrence) → LikeOccurrence a b x y → misused x ≡ misused y
  misused-like (declares n p t) (declares m q u) like = refl
  misused-like (closes n p t) (closes m q u) like = refl
  misused-like (used n p w None) (used m q v None) like = refl
  misused-like (used n p w (Some d)) (used m q v (Some e)) like = let want = like.1 in let kind = like.2.kind in λ i. not (suits (want i) (kind i))
  misused-like (used n p w None) (used m q v (Some e)) like = absurd like.2
  misused-like (used n p w (Some d)) (used m q v None) like = absurd like.2
  misused-like x y like = absurd like

  misclosed-like : (x y : Occurrence) → LikeOccurrence a b x y → misclosed x ≡ misclosed y
  misclosed-like (declares n p t) (declares m q u) like = refl
  misclosed-like (closes n p t) (closes m q u) like = let name = like.1 in let opening = like.2 in λ i. not (same (name i) (opening i))
  misclosed-like (used n p w d) (used m q v e) like = refl
  misclosed-like x y like = absurd like

  stands-stay : (test : Occurrence → Bool) → ((x y : Occurrence) → LikeOccurrence a b x y → test x ≡ test y) → (xs ys : List Occurrence) → Pairwise (LikeOccurrence a b) xs ys
      → (p : Place) → Among (λ o. (place_of o ≡ p) × (test o ≡ true)) xs → Stays a b p (λ q. Among (λ o. (place_of o ≡ q) × (test o ≡ true)) ys)
  stands-stay test keeps [] ys like p stands = absurd stands
  stands-stay test keeps (x ∷ xs) [] like p stands = absurd like
  stands-stay test keeps (x ∷ xs) (y ∷ ys) like p (inl stands) =
      let both = place-like x y like.0 in
      record { at = both.at; is = sym stands.0 ∙ both.one; holds = inl (both.two, sym (keeps x y like.0) ∙ stands.1) }
  stands-stay test keeps (x ∷ xs) (y ∷ ys) like p (inr stands) =
      let it = stands-stay test keeps xs ys like.1 p stands in
      record { at = it.at; is = it.is; holds = inr it.holds }

  module _ (alike : AreAlike a b) where
    pub declared-at-like : (xs ys : List Occurrence) → Pairwise (LikeOccurrence a b) xs ys → (p q : Place) → Both a b p q → Likewise (Both a b) (declared_at xs p) (declared_at ys q)
    declared-at-like [] [] like p q places = tt
    declared-at-like (declares n r t ∷ xs) (declares m s u ∷ ys) like p q places = declared-at-like xs ys like.1 p q places
    declared-at-like (closes n r t ∷ xs) (closes m s u ∷ ys) like p q places = declared-at-like xs ys like.1 p q places
    declared-at-like (used n r w None ∷ xs) (used m s v None ∷ ys) like p q places = declared-at-like xs ys like.1 p q places
    declared-at-like (used n r w (Some d) ∷ xs) (used m s v (Some e) ∷ ys) like p q places =
        or-else-like (Both a b) (declared_at xs p) (if same_place r p then Some d.place else None) (declared_at ys q) (if same_place s q then Some e.place else None)
        (declared-at-like xs ys like.1 p q places)
        (chosen (Likewise (Both a b)) (same_place r p) (same_place s q) (both-same a b alike r s p q like.0.0 places) (Some d.place) None (Some e.place) None like.0.2.place tt)
    declared-at-like (used n r w None ∷ xs) (used m s v (Some e) ∷ ys) like p q places = absurd like.0.2
    declared-at-like (used n r w (Some d) ∷ xs) (used m s v None ∷ ys) like p q places = absurd like.0.2
    declared-at-like [] (y ∷ ys) like p q places = absurd like
    declared-at-like (x ∷ xs) [] like p q places = absurd like
    declared-at-like (x ∷ xs) (y ∷ ys) like p q places = absurd like.0

    -- where names that are used are declared
    pub found-like : (t : Prog X) (p q : Place) → Both a b p q → Likewise (Both a b) (declared_at (names (moved a t)) p) (declared_at (names (moved b t)) q)
    found-like t = declared-at-like (names (moved a t)) (names (moved b t)) (names-like a b alike t)

    pub names-stay : (t : Prog X) (number : ℕ) (p : Place) → Fails (moved a t) number p → Stays a b p (Fails (moved b t) number)
    names-stay t number p fails = by fails
      where
        of : (test : Occurrence → Bool) → ((x y : Occurrence) → LikeOccurrence a b x y → test x ≡ test y) → Among (λ o. (place_of o ≡ p) × (test o ≡ true)) (names (moved a t))
            → Stays a b p (λ q. Among (λ o. (place_of o ≡ q) × (test o ≡ true)) (names (moved b t)))
        of test keeps = stands-stay test keeps (names (moved a t)) (names (moved b t)) (names-like a b alike t) p

        by : Fails (moved a t) number p → Stays a b p (Fails (moved b t) number)
        by (inl (is, stands)) = let it = of undeclared undeclared-like stands in record { at = it.at; is = it.is; holds = inl (is, it.holds) }
        by (inr (inl (is, stands))) = let it = of shadows shadows-like stands in record { at = it.at; is = it.is; holds = inr (inl (is, it.holds)) }
        by (inr (inr (inl (is, stands)))) = let it = of misused misused-like stands in record { at = it.at; is = it.is; holds = inr (inr (inl (is, it.holds))) }
        by (inr (inr (inr (is, stands)))) = let it = of misclosed misclosed-like stands in record { at = it.at; is = it.is; holds = inr (inr (inr (is, it.holds))) }
