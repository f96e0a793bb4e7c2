-- What a view of bytes stands for.
use Rattle.std.specs.Prelude.{◌+◌, ℕ, max}
use Rattle.machine_semantics.specs.Trees as tree
use Rattle.image_format.specs.declared.view.SegBytes.{SegBytes}
use Rattle.image_format.specs.declared.view.SegItem.{SegItem}
use Rattle.image_format.specs.declared.view.SegItem.TheVariants.{Line, Fork, Rep, Call, Stay, Wait, Exit}
use Rattle.image_format.specs.Rows.{row_in, row_read}

-- the tree that its bytes are read as
unfoldable pub tree_in : SegBytes → tree.Segs
tree_in s = row_in (row_read s.limits s.depth s.count s.bytes.now)

-- a segment, with the trees that its views stand for
abbrev pub item_in : SegItem → tree.Seg
item_in (Line count) = tree.Line count
item_in (Fork first second) = tree.Fork (tree_in first) (tree_in second)
item_in (Rep turns body) = tree.Rep turns (tree_in body)
item_in (Call routine) = tree.Call routine
item_in (Stay monitor body) = tree.Stay monitor (tree_in body)
item_in Wait = tree.Wait
item_in Exit = tree.Exit

-- how deep inner trees nest at most
unfoldable pub nesting : SegBytes → ℕ
nesting s = s.depth

abbrev pub inner_nesting : SegItem → ℕ
inner_nesting (Line count) = 0
inner_nesting (Fork first second) = max (nesting first) (nesting second) + 1
inner_nesting (Rep turns body) = nesting body + 1
inner_nesting (Call routine) = 0
inner_nesting (Stay monitor body) = nesting body + 1
inner_nesting Wait = 0
inner_nesting Exit = 0

-- how many segments are left
unfoldable pub segments_left : SegBytes → ℕ
segments_left s = s.count
