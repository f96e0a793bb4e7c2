-- Segments side by side, as bytes are read by the format of images.
use Rattle.std.specs.Prelude.{ℕ, List, Ok, Err, Result}
use Rattle.machine_semantics.specs.Trees.{Seg, Segs, Nil}
use Rattle.image_format.specs.declared.fault.ByteFault.{ByteFault}
use Rattle.image_format.specs.declared.limits.Limits.{Limits}
use Rattle.image_format.specs.Format.{Format, Read}
use Rattle.image_format.specs.TreeFormat.{seg_format, segs_read, tree_format, within_limits}

-- trees with numbers within the limits, which nest at most so deep, and segments of such trees
abbrev pub tree_within : Limits → (depth : ℕ) → Format Segs
tree_within limits depth = tree_format (within_limits limits) depth

abbrev pub seg_within : Limits → (depth : ℕ) → Format Seg
seg_within limits depth = seg_format (within_limits limits) (tree_within limits depth)

-- so many segments, whose inner trees nest at most so deep
abbrev pub row_read : Limits → (depth count : ℕ) → List ℕ → Read Segs
row_read limits depth count bytes = segs_read (seg_within limits depth) count bytes

-- the segments that were read
abbrev pub row_in : Read Segs → Segs
row_in (Ok x) = x.0
row_in (Err e) = Nil

-- the bytes left after what was read
abbrev pub left_of : {A : Type 0} → Read A → Result (List ℕ) ByteFault
left_of (Ok x) = Ok x.1
left_of (Err e) = Err e
