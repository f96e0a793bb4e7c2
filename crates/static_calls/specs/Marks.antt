-- Nodes that are marked, and listed in the order in which they were.
use Rattle.std.specs.Prelude.{◌≡◌, ℕ, ◌⊎◌, Bool, true, List, length, take, count_by, All, Contains}
use Rattle.static_calls.specs.Graph.{Graph, HasEdge, Reaches, marked}

-- the nodes that are listed are those that are marked, each once
pub record AreListed (marks : List Bool) (found : List ℕ) : Type 0 where
  pub listed : (node : ℕ) → marked marks node ≡ true → Contains found node
  pub marks_them : All (λ node. marked marks node ≡ true) found
  pub count : length found ≡ count_by (λ (mark : Bool). mark) marks

-- these nodes are marked too, and no others, and listed behind those before
pub record AreMarked (marks : List Bool) (found nodes : List ℕ) (new_marks : List Bool) (new_found : List ℕ) : Type 0 where
  pub kept : (node : ℕ) → marked marks node ≡ true → marked new_marks node ≡ true
  pub all : All (λ node. marked new_marks node ≡ true) nodes
  pub only : (node : ℕ) → marked new_marks node ≡ true → (marked marks node ≡ true) ⊎ Contains nodes node
  pub front : take (length found) new_found ≡ found
  pub listed : AreListed marks found → AreListed new_marks new_found

-- a node that was marked is the node, or reaches it
pub record ComesFrom (g : Graph) (marks : List Bool) (node : ℕ) : Type 0 where
  pub start : ℕ
  pub was : marked marks start ≡ true
  pub reached : (start ≡ node) ⊎ Reaches g start node

-- what the marked nodes reach is marked too, and nothing else
pub record AreSpread (g : Graph) (marks new_marks : List Bool) : Type 0 where
  pub kept : (node : ℕ) → marked marks node ≡ true → marked new_marks node ≡ true
  pub closed : (a b : ℕ) → marked new_marks a ≡ true → HasEdge g a b → marked new_marks b ≡ true
  pub only : (node : ℕ) → marked new_marks node ≡ true → ComesFrom g marks node
