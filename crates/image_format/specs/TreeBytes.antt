-- Segment trees as bytes: the number of segments, and each segment by its tag.
use Rattle.std.specs.Prelude.{◌<◌, ◌+◌, ◌^◌, ◌++◌, ℕ, List, [], ◌∷◌}
use Rattle.machine_semantics.specs.Trees.{Seg, Line, Fork, Rep, Call, Stay, Wait, Exit, Segs, Nil, Cons}
use Rattle.image_format.specs.Numbers.{u16, u32}

-- how many segments stand side by side
abbrev pub row : Segs → ℕ
row Nil = 0
row (Cons head rest) = 1 + row rest

-- the number of segments, before their bytes
abbrev pub counted : Segs → List ℕ → List ℕ
counted tree segments = u32 (row tree) ++ segments

-- the number of segments side by side fits its four bytes
abbrev pub IsCounted : Segs → Type 0
IsCounted tree = row tree < 2 ^ 32

-- so does that of each tree inside a segment, and inside segments side by side
abbrev mutual
  pub InnerRowsFit : Seg → Type 0
  InnerRowsFit (Line count) = Unit {0}
  InnerRowsFit (Fork first second) = (IsCounted first × AllRowsFit first) × (IsCounted second × AllRowsFit second)
  InnerRowsFit (Rep turns body) = IsCounted body × AllRowsFit body
  InnerRowsFit (Call routine) = Unit {0}
  InnerRowsFit (Stay monitor body) = IsCounted body × AllRowsFit body
  InnerRowsFit Wait = Unit {0}
  InnerRowsFit Exit = Unit {0}

  pub AllRowsFit : Segs → Type 0
  AllRowsFit Nil = Unit {0}
  AllRowsFit (Cons head rest) = InnerRowsFit head × AllRowsFit rest

-- each number of segments in a tree fits its four bytes
abbrev pub RowsFit : Segs → Type 0
RowsFit tree = IsCounted tree × AllRowsFit tree

-- a segment by its tag, its numbers and its trees; segments side by side
abbrev mutual
  pub seg_bytes : Seg → List ℕ
  seg_bytes (Line count) = 1 ∷ u32 count
  seg_bytes (Fork first second) = 2 ∷ (counted first (segs_bytes first) ++ counted second (segs_bytes second))
  seg_bytes (Rep turns body) = 3 ∷ (u32 turns ++ counted body (segs_bytes body))
  seg_bytes (Call routine) = 4 ∷ u16 routine
  seg_bytes (Stay monitor body) = 5 ∷ (u16 monitor ++ counted body (segs_bytes body))
  seg_bytes Wait = 6 ∷ []
  seg_bytes Exit = 7 ∷ []

  pub segs_bytes : Segs → List ℕ
  segs_bytes Nil = []
  segs_bytes (Cons head rest) = seg_bytes head ++ segs_bytes rest

-- a whole tree
abbrev pub tree_bytes : Segs → List ℕ
tree_bytes tree = counted tree (segs_bytes tree)

-- how many segments a tree has in all, inner ones too
abbrev mutual
  pub inner : Seg → ℕ
  inner (Line count) = 0
  inner (Fork first second) = segments first + segments second
  inner (Rep turns body) = segments body
  inner (Call routine) = 0
  inner (Stay monitor body) = segments body
  inner Wait = 0
  inner Exit = 0

  pub segments : Segs → ℕ
  segments Nil = 0
  segments (Cons head rest) = 1 + inner head + segments rest
