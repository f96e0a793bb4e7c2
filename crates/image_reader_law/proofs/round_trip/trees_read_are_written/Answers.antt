use Rattle.std.proofs.Common.{◌≡◌, ◌++◌, ℕ, zero, suc, List, refl, sym, ap, ◌∙◌}
use Rattle.machine_semantics.specs.Trees.{Segs}
use Rattle.image_format.specs.TreeBytes.{tree_bytes}
use Rattle.image_format.specs.TreeFormat.{in_image, tree_format}
use Rattle.image_format.proofs.Trees.{tree_sound}
use Rattle.image_reader_law.proofs.round_trip.trees_read_are_written.Goals as goal

written : (monitors depth : ℕ) (tree : Segs) → (tree_format (in_image monitors) depth).write tree ≡ tree_bytes tree
unfolding tree_format
written monitors zero tree = refl
written monitors (suc depth) tree = refl

pub returns : goal.returns
returns c monitors depth bytes tree rest are = (
  (λ read. let back = (tree_sound monitors depth).back bytes (tree, rest) are read in
      record { are = back.0 ∙ ap (λ (front : List ℕ). front ++ rest) (written monitors depth tree); in_range = back.1 }),
  (λ b. ap (λ (all : List ℕ). (tree_format (in_image monitors) depth).read all) (b.are ∙ ap (λ (front : List ℕ). front ++ rest) (sym (written monitors depth tree))) ∙ (tree_sound monitors depth).again tree rest b.in_range),
)
