-- The segments of a tree, as a list.
use Rattle.std.specs.Prelude.{List, [], ◌∷◌}
use Rattle.machine_semantics.specs.Trees.{Seg, Segs, Nil, Cons}
use Rattle.image_format.specs.declared.items.SegItems.{SegItems}
use Rattle.image_format.specs.Stands.{tree_in}

abbrev pub segments_of : Segs → List Seg
segments_of Nil = []
segments_of (Cons head rest) = head ∷ segments_of rest

-- those that are still to come
abbrev pub items_left : SegItems → List Seg
items_left s = segments_of (tree_in s.rest)
