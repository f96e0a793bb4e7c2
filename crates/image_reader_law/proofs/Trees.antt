-- A tree has at most nine bytes for each instruction that it covers, and four.
use Rattle.std.proofs.Common.{◌≡◌, ◌≤◌, ◌+◌, ◌*◌, ◌^◌, ℕ, zero, suc, true, length, arith}
use Rattle.std.specs.Prelude.{nat_lt}
use Rattle.std.proofs.lemmas.Bool.{and_parts}
use Rattle.std.proofs.lemmas.List.{length-append}
use Rattle.machine_semantics.specs.Trees.{Seg, Line, Fork, Rep, Call, Stay, Wait, Exit, Segs, Nil, Cons, size, size_of}
use Rattle.image_format.specs.Format.{Format}
use Rattle.image_format.specs.TreeBytes.{row, seg_bytes, segs_bytes, tree_bytes}
use Rattle.image_format.specs.TreeFormat.{in_image, seg_format, seg_is, segs_is, tree_format, turns_count, u16_below}
use Rattle.image_reader_law.proofs.Ranged.{least_long}

module _ (monitors : ℕ) (sub : Format Segs) (low : (t : Segs) → sub.is t ≡ true → length (tree_bytes t) ≤ 9 * size t + 4) where
  seg_short : (s : Seg) → seg_is (in_image monitors) sub s ≡ true → length (seg_bytes s) ≤ 9 * size_of s
  seg_short (Line n) h = let some : 1 ≤ n = least_long 1 65535 n h in omega (arith, some)
  seg_short (Fork a b) h =
      let both = and_parts (sub.is a) (sub.is b) h in
      omega (arith, low a both.0, low b both.1, length-append (tree_bytes a) (tree_bytes b))
  seg_short (Rep n a) h = let both = and_parts (turns_count.is n) (sub.is a) h in omega (arith, low a both.1)
  seg_short (Call n) h = omega arith
  seg_short (Stay m a) h = let both = and_parts ((u16_below monitors).is m) (sub.is a) h in omega (arith, low a both.1)
  seg_short Wait h = omega arith
  seg_short Exit h = omega arith

  segs_short : (t : Segs) → segs_is (seg_format (in_image monitors) sub) t ≡ true → length (segs_bytes t) ≤ 9 * size t
  segs_short Nil h = omega arith
  segs_short (Cons s ss) h =
      let both = and_parts (seg_is (in_image monitors) sub s) (segs_is (seg_format (in_image monitors) sub) ss) h in
      omega (arith, seg_short s both.0, segs_short ss both.1, length-append (seg_bytes s) (segs_bytes ss))

pub tree_short : (monitors depth : ℕ) (t : Segs) → (tree_format (in_image monitors) depth).is t ≡ true → length (tree_bytes t) ≤ 9 * size t + 4
unfolding tree_format
tree_short monitors zero t h = cc
tree_short monitors (suc depth) t h =
    let sub = tree_format (in_image monitors) depth in
    let both = and_parts (nat_lt (row t) (2 ^ 32)) (segs_is (seg_format (in_image monitors) sub) t) h in
    omega (arith, segs_short monitors sub (λ u is. tree_short monitors depth u is) t both.1)
