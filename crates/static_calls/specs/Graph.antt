-- Graphs whose nodes are the numbers below a size, and which nodes reach which by their edges.
use Rattle.std.specs.Prelude.{◌≡◌, ℕ, ◌<◌, ◌⊎◌, ◌↔◌, Bool, true, false, List, [], ◌∷◌, ◌++◌, length, map, Contains, slice_index_or, slice_set}
use Rattle.std.specs.declared.alloc.Global.{Global}
use Rattle.std.specs.declared.vec.Vec.{Vec}

-- for each node the nodes to which its edges lead
abbrev pub Graph : Type 0
Graph = List (List ℕ)

-- an edge leads from the one node to the other
abbrev pub HasEdge : Graph → ℕ → ℕ → Type 0
HasEdge g a b = Contains (slice_index_or g a []) b

-- the graph has these edges and no others
abbrev pub HasEdges : Graph → List (ℕ × ℕ) → Type 0
HasEdges g edges = (a b : ℕ) → HasEdge g a b ↔ Contains edges (a, b)

-- a node reaches another by one edge or more
pub data Reaches (g : Graph) : ℕ → ℕ → Type 0 where
  by_edge : (a b : ℕ) → HasEdge g a b → Reaches g a b
  by_edges : (a b c : ℕ) → HasEdge g a b → Reaches g b c → Reaches g a c

-- whether a node is marked; beyond the marks none is
abbrev pub marked : List Bool → ℕ → Bool
marked marks node = slice_index_or marks node false

-- the node is one of these, or one of them reaches it
pub record IsReached (g : Graph) (starts : List ℕ) (node : ℕ) : Type 0 where
  pub start : ℕ
  pub listed : Contains starts start
  pub reached : (start ≡ node) ⊎ Reaches g start node

-- the node is one of these, or it reaches one of them
pub record ReachesOne (g : Graph) (ends : List ℕ) (node : ℕ) : Type 0 where
  pub end : ℕ
  pub listed : Contains ends end
  pub reaches : (node ≡ end) ⊎ Reaches g node end

-- each node that reaches itself is marked
abbrev pub MarksRounds : List Bool → Graph → Type 0
MarksRounds marks g = (node : ℕ) → Reaches g node node → marked marks node ≡ true

-- the rows of the code's graph
abbrev pub rows_of : List (Vec ℕ Global) → Graph
rows_of rows = map (λ row. row.items) rows

-- once one more edge leads from the one node to the other
abbrev pub with_edge : Graph → ℕ → ℕ → Graph
with_edge g a b = slice_set g a (slice_index_or g a [] ++ b ∷ [])

-- an edge from the node, turned round
abbrev pub turned : ℕ → ℕ → ℕ × ℕ
turned node to = (to, node)

-- the edges from the nodes below a number, turned round
abbrev pub AreTurned : Graph → ℕ → List (ℕ × ℕ) → Type 0
AreTurned g end edges = (a b : ℕ) → Contains edges (b, a) ↔ ((a < end) × HasEdge g a b)

-- no edge leads out of the graph
abbrev pub IsWithin : List (Vec ℕ Global) → Type 0
IsWithin rows = (a b : ℕ) → HasEdge (rows_of rows) a b → b < length rows
