-- Segment trees as plain data, without where they lie in memory.
use Rattle.std.specs.Prelude.{List, [], ◌∷◌, map}
use Rattle.machine_semantics.specs.Trees as tree
use Rattle.image_format.specs.declared.seg.Seg.{Seg, fold-Seg}
use Rattle.image_format.specs.declared.seg.Seg.TheOpen.{Seg-F}

-- a list of segments as a tree
abbrev pub tree_of : List tree.Seg → tree.Segs
tree_of [] = tree.Nil
tree_of (s ∷ ss) = tree.Cons s (tree_of ss)

-- one level, whose inner segments are already seen as plain data
abbrev pub view_step : Seg-F tree.Seg → tree.Seg
view_step (Seg-F.Line count) = tree.Line count
view_step (Seg-F.Fork arms) = tree.Fork (tree_of arms.first) (tree_of arms.second)
view_step (Seg-F.Rep turns) = tree.Rep turns.count (tree_of turns.body)
view_step (Seg-F.Call routine) = tree.Call routine
view_step (Seg-F.Stay inside) = tree.Stay inside.monitor (tree_of inside.body)
view_step Seg-F.Wait = tree.Wait
view_step Seg-F.Exit = tree.Exit

abbrev pub view : Seg → tree.Seg
view = fold-Seg tree.Seg view_step

abbrev pub views : List Seg → tree.Segs
views segs = tree_of (map view segs)
