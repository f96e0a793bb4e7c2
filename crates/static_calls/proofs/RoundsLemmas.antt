-- Nodes that reach themselves.
use Rattle.std.proofs.Common.{◌≡◌, ℕ, ◌<◌, ◌≤◌, ◌⊎◌, inl, inr, true, [], length, get_or, refl, ap, subst, arith}
use Rattle.std.specs.Prelude.{◌==◌}
use Rattle.std.specs.List.{list_any}
use Rattle.std.proofs.lemmas.List.Folds.{list_any-from_Any}
use Rattle.std.proofs.lemmas.Bool.{eq-eqb}
use Rattle.static_calls.specs.Graph.{Graph, HasEdge, Reaches, by_edge, by_edges, IsReached}
use Rattle.static_calls.proofs.Edges.{edge-from}

-- the first edge of the way from one node to another
pub record Sets (g : Graph) (a b : ℕ) : Type 0 where
  pub next : ℕ
  pub edge : HasEdge g a next
  pub on : (next ≡ b) ⊎ Reaches g next b

pub sets-out : (g : Graph) (a b : ℕ) → Reaches g a b → Sets g a b
sets-out g a b (by_edge _ _ e) = record { next = b; edge = e; on = inl refl }
sets-out g a b (by_edges _ m _ e r) = record { next = m; edge = e; on = inr r }

-- what reaches something is a node
pub reaches-from : (g : Graph) (a b : ℕ) → Reaches g a b → a < length g
reaches-from g a b r = let s = sets-out g a b r in edge-from g a s.next s.edge

-- what some node has an edge to reaches it
pub back-through : (g : Graph) (a : ℕ) → IsReached g (get_or g a []) a → Reaches g a a
back-through g a r = by r.reached
  where
    by : (r.start ≡ a) ⊎ Reaches g r.start a → Reaches g a a
    by (inl same) = subst (λ n. Reaches g a n) same (by_edge a r.start r.listed)
    by (inr s) = by_edges a r.start a r.listed s

pub round-through : (g : Graph) (a : ℕ) → Reaches g a a → IsReached g (get_or g a []) a
round-through g a r = let s = sets-out g a a r in record { start = s.next; listed = s.edge; reached = s.on }

module _ (g : Graph) (number : ℕ → ℕ) (rises : (a b : ℕ) → HasEdge g a b → number a ≤ number b) where
  -- numbers that fall along no edge fall along no way
  pub rises-along : (a b : ℕ) → Reaches g a b → number a ≤ number b
  rises-along a b (by_edge _ _ e) = rises a b e
  rises-along a b (by_edges _ m _ e r) = let first = rises a m e in let rest = rises-along m b r in omega arith

  -- so they stay around a circle
  pub stays-around : (a : ℕ) → Reaches g a a → list_any (λ to. number to == number a) (get_or g a []) ≡ true
  stays-around a r =
      let s = sets-out g a a r in
      let out = rises a s.next s.edge in
      let same : number s.next ≡ number a = by s.next out s.on in
      list_any-from_Any (λ to. number to == number a) (get_or g a []) (s.edge.0, s.next, s.edge.1, s.edge.2, eq-eqb (number s.next) (number a) same)
    where
      by : (next : ℕ) → number a ≤ number next → (next ≡ a) ⊎ Reaches g next a → number next ≡ number a
      by next out (inl is) = ap number is
      by next out (inr back) = let h = rises-along next a back in omega arith
