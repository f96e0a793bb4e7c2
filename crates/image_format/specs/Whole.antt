-- A whole tree as its bytes.
use Rattle.std.specs.Prelude.{◌≡◌, ℕ, List, [], Ok}
use Rattle.machine_semantics.specs.Trees.{Segs}
use Rattle.image_format.specs.Format.{Format}
use Rattle.image_format.specs.TreeBytes.{tree_bytes}
use Rattle.image_format.specs.TreeFormat.{tree_format, widest, within_limits}
use Rattle.image_format.specs.Rows.{row_in}

-- trees that nest at most so deep, whatever their numbers
abbrev pub any_tree : (depth : ℕ) → Format Segs
any_tree depth = tree_format (within_limits widest) depth

-- how deep trees that are kept may nest: each level takes four bytes, and there are never 2 ^ 64
abbrev pub deepest_kept : ℕ
deepest_kept = 4611686018427387904

-- the tree that bytes are read as
unfoldable pub tree_of : (depth : ℕ) → List ℕ → Segs
tree_of depth bytes = row_in ((any_tree depth).read bytes)

-- the bytes are those of the tree that they are read as, and no more
pub record IsTree (depth : ℕ) (bytes : List ℕ) : Type 0 where
  pub is_read : (any_tree depth).read bytes ≡ Ok (tree_of depth bytes, [])
  pub are : bytes ≡ tree_bytes (tree_of depth bytes)
