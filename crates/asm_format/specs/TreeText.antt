-- The line of a segment tree.
use Rattle.std.specs.Prelude.{◌++◌, ℕ, List, [], codes, decimal}
use Rattle.machine_semantics.specs.Trees.{Seg, Line, Fork, Rep, Call, Stay, Wait, Exit, Segs, Nil, Cons}

-- a number behind these bytes
abbrev pub field : List ℕ → ℕ → List ℕ
field label n = label ++ decimal n

-- each word after a space; inner trees stand between parentheses, which are words
abbrev mutual
  pub seg_text : Seg → List ℕ
  seg_text (Line count) = field (codes " line ") count
  seg_text (Fork first second) = codes " fork (" ++ (segs_text first ++ (codes " ) (" ++ (segs_text second ++ codes " )")))
  seg_text (Rep turns body) = field (codes " rep ") turns ++ (codes " (" ++ (segs_text body ++ codes " )"))
  seg_text (Call routine) = field (codes " call ") routine
  seg_text (Stay monitor body) = field (codes " stay ") monitor ++ (codes " (" ++ (segs_text body ++ codes " )"))
  seg_text Wait = codes " wait"
  seg_text Exit = codes " exit"

  pub segs_text : Segs → List ℕ
  segs_text Nil = []
  segs_text (Cons head rest) = seg_text head ++ segs_text rest

-- the line of a whole tree
abbrev pub tree_line : Segs → List ℕ
tree_line tree = codes "tree" ++ (segs_text tree ++ codes "\n")
