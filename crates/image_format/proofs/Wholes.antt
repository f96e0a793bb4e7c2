-- Bytes that are written of a tree are those that it is read from.
use Rattle.std.proofs.Common.{◌≡◌, ◌++◌, ℕ, true, List, [], Ok, sym, ap, ◌∙◌, append-nil}
use Rattle.machine_semantics.specs.Trees.{Segs}
use Rattle.image_format.specs.TreeBytes.{tree_bytes}
use Rattle.image_format.specs.TreeFormat.{widest, within_limits}
use Rattle.image_format.proofs.Trees.{limited_tree_sound, tree_write_is}
use Rattle.image_format.specs.Rows.{row_in}
use Rattle.image_format.specs.Whole.{IsTree, any_tree, tree_of}

pub record Stands (depth : ℕ) (bytes : List ℕ) (tree : Segs) : Type 0 where
  pub is_tree : IsTree depth bytes
  pub same : tree_of depth bytes ≡ tree

pub stands : (depth : ℕ) (bytes : List ℕ) (tree : Segs) → bytes ≡ tree_bytes tree → (any_tree depth).is tree ≡ true → Stands depth bytes tree
unfolding tree_of
stands depth bytes tree are fits =
    let written : bytes ≡ (any_tree depth).write tree ++ [] = are ∙ sym (tree_write_is (within_limits widest) depth tree) ∙ sym (append-nil ((any_tree depth).write tree)) in
    let read : (any_tree depth).read bytes ≡ Ok (tree, []) = ap (λ (all : List ℕ). (any_tree depth).read all) written ∙ (limited_tree_sound widest depth).again tree [] fits in
    let same : tree_of depth bytes ≡ tree = ap row_in read in
    record {
      is_tree = record { is_read = read ∙ ap (λ t. Ok (t, [])) (sym same); are = are ∙ ap tree_bytes (sym same) };
      same = same;
    }
