-- What is within some limits is within the widest.
use Rattle.std.proofs.Common.{◌≡◌, ◌+◌, ◌≤◌, ◌<◌, ◌^◌, ◌++◌, ◌-◌, ℕ, zero, suc, true, List, length, take, Ok, refl, ap, ◌∙◌, arith, length-append}
use Rattle.std.specs.Prelude.{nat_le, nat_lt}
use Rattle.std.proofs.Math.Seq.{take-append_seam}
use Rattle.std.proofs.lemmas.Bool.{le-leb, lt-ltb, ltb-true, and_parts}
use Rattle.machine_semantics.specs.Trees.{Seg, Line, Fork, Rep, Call, Stay, Wait, Exit, Segs, Nil, Cons}
use Rattle.image_format.specs.declared.limits.Limits.{Limits}
use Rattle.image_format.specs.Format.{Format, is_fine, unless}
use Rattle.image_format.specs.FormatLaw.{AreBytes}
use Rattle.image_format.specs.TreeBytes.{row, tree_bytes}
use Rattle.image_format.specs.TreeFormat.{seg_format, seg_is, segs_is, tree_format, u16_below, u32_within, widest, within, within_limits}
use Rattle.image_format.proofs.Booleans.{together}
use Rattle.image_format.proofs.Trees.{limited_tree_sound, tree_write_is}
use Rattle.image_format.specs.Whole.{any_tree}
use Rattle.image_format.proofs.Wholes.{Stands, stands}

wide_long : (low high n : ℕ) → (u32_within low high).is n ≡ true → (u32_within 0 4294967295).is n ≡ true
wide_long low high n h =
    let p = and_parts (nat_lt n (2 ^ 32)) (is_fine (within low high n)) h in
    let fits : n < 2 ^ 32 = ltb-true n (2 ^ 32) p.0 in
    let high : nat_le n 4294967295 ≡ true = le-leb n 4294967295 (omega (arith, fits)) in
    let low : nat_le 0 n ≡ true = le-leb 0 n (omega arith) in
    together (nat_lt n (2 ^ 32)) (is_fine (within 0 4294967295 n)) p.0 (ap (λ b. is_fine (unless b 4)) (together (nat_le 0 n) (nat_le n 4294967295) low high))

wide_short : (count n : ℕ) → (u16_below count).is n ≡ true → (u16_below 65536).is n ≡ true
wide_short count n h =
    let p = and_parts (nat_lt n (2 ^ 16)) (is_fine (unless (nat_lt n count) 4)) h in
    let below : nat_lt n 65536 ≡ true = lt-ltb n 65536 (omega (arith, ltb-true n (2 ^ 16) p.0)) in
    together (nat_lt n (2 ^ 16)) (is_fine (unless (nat_lt n 65536) 4)) p.0 (ap (λ b. is_fine (unless b 4)) below)

module _ (l : Limits) (sub wide : Format Segs) (inner : (t : Segs) → sub.is t ≡ true → wide.is t ≡ true) where
  wide_seg : (s : Seg) → seg_is (within_limits l) sub s ≡ true → seg_is (within_limits widest) wide s ≡ true
  wide_seg (Line n) h = wide_long l.least_line l.most_line n h
  wide_seg (Fork a b) h = let p = and_parts (sub.is a) (sub.is b) h in together (wide.is a) (wide.is b) (inner a p.0) (inner b p.1)
  wide_seg (Rep n a) h =
      let p = and_parts ((u32_within l.least_turns l.most_turns).is n) (sub.is a) h in
      together ((u32_within 0 4294967295).is n) (wide.is a) (wide_long l.least_turns l.most_turns n p.0) (inner a p.1)
  wide_seg (Call n) h = h
  wide_seg (Stay m a) h =
      let p = and_parts ((u16_below l.monitors).is m) (sub.is a) h in
      together ((u16_below 65536).is m) (wide.is a) (wide_short l.monitors m p.0) (inner a p.1)
  wide_seg Wait h = refl
  wide_seg Exit h = refl

  wide_segs : (t : Segs) → segs_is (seg_format (within_limits l) sub) t ≡ true → segs_is (seg_format (within_limits widest) wide) t ≡ true
  wide_segs Nil h = refl
  wide_segs (Cons s ss) h =
      let p = and_parts (seg_is (within_limits l) sub s) (segs_is (seg_format (within_limits l) sub) ss) h in
      together (seg_is (within_limits widest) wide s) (segs_is (seg_format (within_limits widest) wide) ss) (wide_seg s p.0) (wide_segs ss p.1)

wide_tree : (l : Limits) (depth more : ℕ) (t : Segs) → depth ≤ more → (tree_format (within_limits l) depth).is t ≡ true → (any_tree more).is t ≡ true
unfolding tree_format
wide_tree l zero more t less h = cc
wide_tree l (suc depth) zero t less h = absurd (omega (arith, less))
wide_tree l (suc depth) (suc more) t less h =
    let p = and_parts (nat_lt (row t) (2 ^ 32)) (segs_is (seg_format (within_limits l) (tree_format (within_limits l) depth)) t) h in
    let below : depth ≤ more = omega (arith, less) in
    together (nat_lt (row t) (2 ^ 32)) (segs_is (seg_format (within_limits widest) (any_tree more)) t) p.0
    (wide_segs l (tree_format (within_limits l) depth) (any_tree more) (λ u is. wide_tree l depth more u below is) t p.1)

-- the bytes before those that are left are those of the tree that was read
pub record Taken (depth : ℕ) (bytes : List ℕ) (tree : Segs) (rest : List ℕ) : Type 0 where
  pub fewer : length rest ≤ length bytes
  pub stands : Stands depth (take (length bytes - length rest) bytes) tree

pub taken : (l : Limits) (depth more : ℕ) (bytes : List ℕ) (tree : Segs) (rest : List ℕ) → depth ≤ more → AreBytes bytes → (tree_format (within_limits l) depth).read bytes ≡ Ok (tree, rest) → Taken more bytes tree rest
taken l depth more bytes tree rest less are read =
    let back = (limited_tree_sound l depth).back bytes (tree, rest) are read in
    let is : bytes ≡ tree_bytes tree ++ rest = back.0 ∙ ap (λ (front : List ℕ). front ++ rest) (tree_write_is (within_limits l) depth tree) in
    let long : length bytes ≡ length (tree_bytes tree) + length rest = ap (λ (all : List ℕ). length all) is ∙ length-append (tree_bytes tree) rest in
    let many : length bytes - length rest ≡ length (tree_bytes tree) = omega (arith, long) in
    let front : take (length bytes - length rest) bytes ≡ tree_bytes tree =
    ap (λ n. take n bytes) many ∙ ap (λ (all : List ℕ). take (length (tree_bytes tree)) all) is ∙ take-append_seam (tree_bytes tree) rest in
    record { fewer = omega (arith, long); stands = stands more (take (length bytes - length rest) bytes) tree front (wide_tree l depth more tree less back.1) }
