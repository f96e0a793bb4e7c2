-- What edges reach through listed nodes, by a test: through one node more, what is reached before it reaches what is reached
-- behind it.
use Rattle.std.proofs.Common.{◌≡◌, ◌⊎◌, inl, inr, Bool, true, List, [], ◌∷◌, sym, subst}
use Rattle.std.specs.Prelude.{Contains, ◌||◌, ◌&&◌}
use Rattle.std.proofs.lemmas.Bool.{or_cases, or_left, or_right, and_parts, and_from}
use Rattle.base.proofs.Members.{front_or_behind, none_in}

module _ {X : Type 0} (edge : X → X → Bool) where
  abbrev pub through : List X → X → X → Bool
  through [] x y = edge x y
  through (z ∷ zs) x y = through zs x y || (through zs x z && through zs z y)

  -- with the node z or without it
  ways : (z : X) (zs : List X) (x y : X) → through (z ∷ zs) x y ≡ true → (through zs x y ≡ true) ⊎ ((through zs x z ≡ true) × (through zs z y ≡ true))
  ways z zs x y h = by (or_cases (through zs x y) (through zs x z && through zs z y) h)
    where
      by : (through zs x y ≡ true) ⊎ ((through zs x z && through zs z y) ≡ true) → (through zs x y ≡ true) ⊎ ((through zs x z ≡ true) × (through zs z y ≡ true))
      by (inl without) = inl without
      by (inr with_it) = inr (and_parts (through zs x z) (through zs z y) with_it)

  straight : (z : X) (zs : List X) (x y : X) → through zs x y ≡ true → through (z ∷ zs) x y ≡ true
  straight z zs x y h = or_left (through zs x y) (through zs x z && through zs z y) h

  across : (z : X) (zs : List X) (x y : X) → through zs x z ≡ true → through zs z y ≡ true → through (z ∷ zs) x y ≡ true
  across z zs x y a b = or_right (through zs x y) (through zs x z && through zs z y) (and_from (through zs x z) (through zs z y) a b)

  -- the node itself is no help on the way to it, or from it
  to_it : (z : X) (zs : List X) (x : X) → through (z ∷ zs) x z ≡ true → through zs x z ≡ true
  to_it z zs x h = by (ways z zs x z h)
    where
      by : (through zs x z ≡ true) ⊎ ((through zs x z ≡ true) × (through zs z z ≡ true)) → through zs x z ≡ true
      by (inl a) = a
      by (inr a) = a.0

  from_it : (z : X) (zs : List X) (y : X) → through (z ∷ zs) z y ≡ true → through zs z y ≡ true
  from_it z zs y h = by (ways z zs z y h)
    where
      by : (through zs z y ≡ true) ⊎ ((through zs z z ≡ true) × (through zs z y ≡ true)) → through zs z y ≡ true
      by (inl a) = a
      by (inr a) = a.1

  pub through-edge : (zs : List X) (x y : X) → edge x y ≡ true → through zs x y ≡ true
  through-edge [] x y h = h
  through-edge (z ∷ zs) x y h = straight z zs x y (through-edge zs x y h)

  -- what is reached by way of a listed node is reached
  pub through-joined : (zs : List X) (m : X) → Contains zs m → (x y : X) → through zs x m ≡ true → through zs m y ≡ true → through zs x y ≡ true
  through-joined [] m h x y a b = absurd (none_in m h)
  through-joined (z ∷ zs) m h x y a b = by (front_or_behind z zs m h) (λ there. through-joined zs m there)
    where
      both : ((v w : X) → through zs v m ≡ true → through zs m w ≡ true → through zs v w ≡ true)
          → (through zs x m ≡ true) ⊎ ((through zs x z ≡ true) × (through zs z m ≡ true))
          → (through zs m y ≡ true) ⊎ ((through zs m z ≡ true) × (through zs z y ≡ true)) → through (z ∷ zs) x y ≡ true
      both join (inl p) (inl q) = straight z zs x y (join x y p q)
      both join (inl p) (inr q) = across z zs x y (join x z p q.0) q.1
      both join (inr p) (inl q) = across z zs x y p.0 (join z y p.1 q)
      both join (inr p) (inr q) = across z zs x y p.0 q.1

      by : (z ≡ m) ⊎ Contains zs m → (Contains zs m → (v w : X) → through zs v m ≡ true → through zs m w ≡ true → through zs v w ≡ true) → through (z ∷ zs) x y ≡ true
      by (inl same) rest =
          across z zs x y (to_it z zs x (subst (λ n. through (z ∷ zs) x n ≡ true) (sym same) a)) (from_it z zs y (subst (λ n. through (z ∷ zs) n y ≡ true) (sym same) b))
      by (inr there) rest = both (rest there) (ways z zs x m a) (ways z zs m y b)

  -- what is reached so is in each relation that holds of edges and goes on from one to the next
  pub through-holds : (R : X → X → Type 0) → ((x y : X) → edge x y ≡ true → R x y) → ((x y z : X) → R x y → R y z → R x z) → (zs : List X) (x y : X) → through zs x y ≡ true → R x y
  through-holds R edges joins [] x y h = edges x y h
  through-holds R edges joins (z ∷ zs) x y h = by (ways z zs x y h) (through-holds R edges joins zs)
    where
      by : (through zs x y ≡ true) ⊎ ((through zs x z ≡ true) × (through zs z y ≡ true)) → ((v w : X) → through zs v w ≡ true → R v w) → R x y
      by (inl a) rest = rest x y a
      by (inr a) rest = joins x z y (rest x z a.0) (rest z y a.1)
