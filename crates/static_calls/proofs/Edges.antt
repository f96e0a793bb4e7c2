-- How the edges of a graph grow, one by one.
use Rattle.std.proofs.Common.{◌≡◌, ℕ, zero, suc, ◌+◌, ◌<◌, ◌⊎◌, inl, inr, List, [], ◌∷◌, ◌++◌, length, map, take, drop, set, get_or, ap, sym, ◌∙◌, subst, arith, get_or-set_same, get_or-set_other}
use Rattle.std.specs.Prelude.{Contains, All}
use Rattle.std.specs.declared.alloc.Global.{Global}
use Rattle.std.specs.declared.vec.Vec.{Vec}
use Rattle.std.proofs.lemmas.Bool.{cases_eq}
use Rattle.std.proofs.lemmas.List.{map-set, get_or-map, length-map, take_more, take_at}
use Rattle.std.proofs.lemmas.List.Elements.{All-contains, Contains-append_left, Contains-append_right, Contains-append_cases, Contains-get_or, Contains-push, Contains-push_cases}
use Rattle.static_calls.specs.Graph.{Graph, HasEdge, HasEdges, AreTurned, turned, rows_of, with_edge}

-- adding to one row of the code's graph adds an edge
pub rows-add : (rows : List (Vec ℕ Global)) (a b : ℕ) (v w : Vec ℕ Global) → a < length rows → w.items ≡ (get_or rows a v).items ++ b ∷ [] → rows_of (set rows a w) ≡ with_edge (rows_of rows) a b
rows-add rows a b v w below pushed =
    map-set (λ (r : Vec ℕ Global). r.items) rows a w ∙ ap (set (rows_of rows) a) (pushed ∙ ap (λ r. r ++ b ∷ []) (sym (get_or-map (λ (r : Vec ℕ Global). r.items) rows a v [] below)))

-- where a has an edge, it is a node
pub edge-from : (g : Graph) (a b : ℕ) → HasEdge g a b → a < length g
edge-from [] a b e = absurd (omega (arith, e.1))
edge-from (r ∷ g) zero b e = omega arith
edge-from (r ∷ g) (suc a) b e = let h = edge-from g a b e in omega arith

pub edge-kept : (g : Graph) (a b p q : ℕ) → a < length g → HasEdge g p q → HasEdge (with_edge g a b) p q
edge-kept g a b p q below e = by (cases_eq p a)
  where
    by : (p ≡ a) ⊎ (p ≡ a → ⊥) → HasEdge (with_edge g a b) p q
    by (inl same) =
        let there : Contains (get_or g a [] ++ b ∷ []) q = Contains-append_left (get_or g a []) (b ∷ []) q (subst (λ n. HasEdge g n q) same e) in
        subst (λ n. HasEdge (with_edge g a b) n q) (sym same) (subst (λ r. Contains r q) (sym (get_or-set_same g a (get_or g a [] ++ b ∷ []) [] below)) there)
    by (inr other) = subst (λ r. Contains r q) (sym (get_or-set_other g a p (get_or g a [] ++ b ∷ []) [] other)) e

pub edge-added : (g : Graph) (a b : ℕ) → a < length g → HasEdge (with_edge g a b) a b
edge-added g a b below = subst (λ r. Contains r b) (sym (get_or-set_same g a (get_or g a [] ++ b ∷ []) [] below)) (Contains-push (get_or g a []) b)

pub edge-cases : (g : Graph) (a b p q : ℕ) → a < length g → HasEdge (with_edge g a b) p q → HasEdge g p q ⊎ ((a ≡ p) × (b ≡ q))
edge-cases g a b p q below e = by (cases_eq p a)
  where
    by : (p ≡ a) ⊎ (p ≡ a → ⊥) → HasEdge g p q ⊎ ((a ≡ p) × (b ≡ q))
    by (inl same) = new (Contains-push_cases (get_or g a []) b q (subst (λ r. Contains r q) (get_or-set_same g a (get_or g a [] ++ b ∷ []) [] below) (subst (λ n. HasEdge (with_edge g a b) n q) same e)))
      where
        new : Contains (get_or g a []) q ⊎ (b ≡ q) → HasEdge g p q ⊎ ((a ≡ p) × (b ≡ q))
        new (inl old) = inl (subst (λ n. HasEdge g n q) (sym same) old)
        new (inr is) = inr (sym same, is)
    by (inr other) = inl (subst (λ r. Contains r q) (get_or-set_other g a p (get_or g a [] ++ b ∷ []) [] other) e)

-- rows that are empty have no edge
pub no-edges : (rows : List (Vec ℕ Global)) → All (λ row. row.items ≡ []) rows → HasEdges (rows_of rows) []
no-edges rows none a b = (λ e. absurd (has e), λ e. absurd (omega (arith, e.1)))
  where
    has : HasEdge (rows_of rows) a b → ⊥
    has e = at rows none a (edge-from (rows_of rows) a b e) e
      where
        at : (rows : List (Vec ℕ Global)) → All (λ row. row.items ≡ []) rows → (a : ℕ) → a < length (rows_of rows) → HasEdge (rows_of rows) a b → ⊥
        at [] none a below e = omega arith
        at (r ∷ rows) none zero below e =
            let empty : r.items ≡ [] = none 0 r (omega arith) in
            let f : Contains [] b = subst (λ l. Contains l b) empty e in
            omega (arith, f.1)
        at (r ∷ rows) none (suc a) below e = at rows (λ k d l. none (suc k) d (omega arith)) a (omega arith) e

-- once one more edge is added
pub edges-more : (g : Graph) (edges : List (ℕ × ℕ)) (i : ℕ) (d : ℕ × ℕ) → i < length edges → (get_or edges i d).0 < length g → HasEdges g (take i edges) → HasEdges (with_edge g (get_or edges i d).0 (get_or edges i d).1) (take (i + 1) edges)
edges-more g edges i d inside below old p q = (to, from)
  where
    more : take (i + 1) edges ≡ take i edges ++ get_or edges i d ∷ []
    more = take_more edges i d inside

    to : HasEdge (with_edge g (get_or edges i d).0 (get_or edges i d).1) p q → Contains (take (i + 1) edges) (p, q)
    to e = subst (λ es. Contains es (p, q)) (sym more) (by (edge-cases g (get_or edges i d).0 (get_or edges i d).1 p q below e))
      where
        by : HasEdge g p q ⊎ (((get_or edges i d).0 ≡ p) × ((get_or edges i d).1 ≡ q)) → Contains (take i edges ++ get_or edges i d ∷ []) (p, q)
        by (inl kept) = Contains-append_left (take i edges) (get_or edges i d ∷ []) (p, q) ((old p q).0 kept)
        by (inr is) = subst (λ e. Contains (take i edges ++ get_or edges i d ∷ []) e) (λ j. (is.0 j, is.1 j)) (Contains-push (take i edges) (get_or edges i d))

    from : Contains (take (i + 1) edges) (p, q) → HasEdge (with_edge g (get_or edges i d).0 (get_or edges i d).1) p q
    from e = by (Contains-push_cases (take i edges) (get_or edges i d) (p, q) (subst (λ es. Contains es (p, q)) more e))
      where
        by : Contains (take i edges) (p, q) ⊎ (get_or edges i d ≡ (p, q)) → HasEdge (with_edge g (get_or edges i d).0 (get_or edges i d).1) p q
        by (inl listed) = edge-kept g (get_or edges i d).0 (get_or edges i d).1 p q below ((old p q).1 listed)
        by (inr is) = subst (λ (e : ℕ × ℕ). HasEdge (with_edge g (get_or edges i d).0 (get_or edges i d).1) e.0 e.1) is (edge-added g (get_or edges i d).0 (get_or edges i d).1 below)

-- what is left of a list, all of whose items were lent and changed
pub lent-whole : {X : Type 0} (n : ℕ) (old new : List X) → length new ≡ n → take n (new ++ drop (length new) old) ≡ new
lent-whole n old new same = take_at new (drop (length new) old) n same

-- edges between nodes lead to nodes
pub within : (g : Graph) (edges : List (ℕ × ℕ)) (size : ℕ) → All (λ e. (e.0 < size) × (e.1 < size)) edges → HasEdges g edges → (a b : ℕ) → HasEdge g a b → b < size
within g edges size inside has a b e = (All-contains (λ e. (e.0 < size) × (e.1 < size)) edges (a, b) inside ((has a b).0 e)).1

-- an edge that was listed turned round is one of the node's
pub turned-is : (n : ℕ) (row : List ℕ) (a b : ℕ) → Contains (map (turned n) row) (b, a) → (n ≡ a) × Contains row b
turned-is n row a b h =
    let inside : h.0 < length row = omega (arith, h.1, length-map row (turned n)) in
    let is : turned n (get_or row h.0 b) ≡ (b, a) = sym (get_or-map (turned n) row h.0 b (b, a) inside) ∙ h.2 in
    (ap (λ (e : ℕ × ℕ). e.1) is, (h.0, inside, ap (λ (e : ℕ × ℕ). e.0) is))

-- and each of them is listed so
pub turned-listed : (n : ℕ) (row : List ℕ) (b : ℕ) → Contains row b → Contains (map (turned n) row) (b, n)
turned-listed n row b h = (h.0, (omega (arith, h.1, length-map row (turned n))), get_or-map (turned n) row h.0 b (b, n) h.1 ∙ ap (turned n) h.2)

-- once the edges of one more node are turned round
pub turned-more : (g : Graph) (n : ℕ) (edges : List (ℕ × ℕ)) → AreTurned g n edges → AreTurned g (n + 1) (edges ++ map (turned n) (get_or g n []))
turned-more g n edges old a b = (to, from)
  where
    to : Contains (edges ++ map (turned n) (get_or g n [])) (b, a) → (a < n + 1) × HasEdge g a b
    to h = by (Contains-append_cases edges (map (turned n) (get_or g n [])) (b, a) h)
      where
        by : Contains edges (b, a) ⊎ Contains (map (turned n) (get_or g n [])) (b, a) → (a < n + 1) × HasEdge g a b
        by (inl known) = ((let l = ((old a b).0 known).0 in omega arith), ((old a b).0 known).1)
        by (inr new) = let is = turned-is n (get_or g n []) a b new in ((let e = is.0 in omega arith), subst (λ m. HasEdge g m b) is.0 is.1)

    from : (a < n + 1) × HasEdge g a b → Contains (edges ++ map (turned n) (get_or g n [])) (b, a)
    from h = by (cases_eq a n)
      where
        by : (a ≡ n) ⊎ (a ≡ n → ⊥) → Contains (edges ++ map (turned n) (get_or g n [])) (b, a)
        by (inl same) = Contains-append_right edges (map (turned n) (get_or g n [])) (b, a) (subst (λ m. Contains (map (turned n) (get_or g n [])) (b, m)) (sym same) (turned-listed n (get_or g n []) b (subst (λ m. HasEdge g m b) same h.1)))
        by (inr other) = Contains-append_left edges (map (turned n) (get_or g n [])) (b, a) ((old a b).1 ((let l = h.0 in omega arith), h.1))

-- the edges of a node lead to nodes
pub row-within : (g : Graph) (node : ℕ) (size : ℕ) → ((a b : ℕ) → HasEdge g a b → b < size) → All (λ to. to < size) (get_or g node [])
row-within g node size inside k d below = inside node (get_or (get_or g node []) k d) (Contains-get_or (get_or g node []) k d below)
