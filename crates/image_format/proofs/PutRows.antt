-- Rows of segments as they are put.
use Rattle.std.proofs.Common.{◌<◌, ◌^◌, ◌-◌, suc, true, ◌≡◌, ◌≤◌, ◌++◌, ℕ, List, [], ◌∷◌, length, drop, refl, sym, ◌∙◌, ap, subst, arith, append_assoc, append-nil}
use Rattle.std.specs.Prelude.{nat_lt}
use Rattle.std.proofs.lemmas.List.{drop_all}
use Rattle.std.proofs.lemmas.Bool.{lt-ltb}
use Rattle.image_format.specs.TreeFormat.{seg_format, segs_is, tree_format, widest, within_limits}
use Rattle.image_format.proofs.Booleans.{together}
use Rattle.image_format.specs.Whole.{any_tree}
use Rattle.image_format.specs.declared.seg.Seg.{Seg}
use Rattle.image_format.specs.View.{views}
use Rattle.image_format.specs.TreeBytes.{row, segs_bytes, tree_bytes}
use Rattle.image_format.specs.Numbers.{u32}

pub row-views : (segs : List Seg) → row (views segs) ≡ length segs
row-views [] = refl
row-views (s ∷ ss) = omega (arith, row-views ss)

-- what stands in a buffer after all segments
pub tree_written : (out start counted : List ℕ) (segs : List Seg) (i : ℕ) → length segs ≤ i → counted ≡ start ++ u32 (length segs)
    → out ++ segs_bytes (views (drop i segs)) ≡ counted ++ segs_bytes (views segs) → out ≡ start ++ tree_bytes (views segs)
tree_written out start counted segs i past counted-is written =
    let none : drop i segs ≡ [] = drop_all i segs past in
    let whole : out ++ [] ≡ counted ++ segs_bytes (views segs) = subst (λ xs. out ++ segs_bytes (views xs) ≡ counted ++ segs_bytes (views segs)) none written in
    let rows : tree_bytes (views segs) ≡ u32 (length segs) ++ segs_bytes (views segs) = ap (λ n. u32 n ++ segs_bytes (views segs)) (row-views segs) in
    sym (append-nil out) ∙ whole ∙ ap (λ (xs : List ℕ). xs ++ segs_bytes (views segs)) counted-is ∙ append_assoc start (u32 (length segs)) (segs_bytes (views segs)) ∙ ap (λ (xs : List ℕ). start ++ xs) (sym rows)

-- a tree whose segments all fit nests one deeper
pub tree_fits : (depth : ℕ) (segs : List Seg) (i : ℕ) → 0 < depth → row (views segs) < 2 ^ 32 → length segs ≤ i
    → segs_is (seg_format (within_limits widest) (any_tree (depth - 1))) (views (drop i segs)) ≡ segs_is (seg_format (within_limits widest) (any_tree (depth - 1))) (views segs) → (any_tree depth).is (views segs) ≡ true
unfolding tree_format
tree_fits depth segs i deep fits past so_far =
    let one = seg_format (within_limits widest) (any_tree (depth - 1)) in
    let none : drop i segs ≡ [] = drop_all i segs past in
    let all : segs_is one (views segs) ≡ true = sym so_far ∙ ap (λ xs. segs_is one (views xs)) none in
    let few : nat_lt (row (views segs)) (2 ^ 32) ≡ true = lt-ltb (row (views segs)) (2 ^ 32) fits in
    let is_suc : depth ≡ suc (depth - 1) = omega (arith, deep) in
    ap (λ d. (any_tree d).is (views segs)) is_suc ∙ together (nat_lt (row (views segs)) (2 ^ 32)) (segs_is one (views segs)) few all
