-- A tree has no more segments than bytes.
use Rattle.std.proofs.Common.{◌≡◌, ◌≤◌, ◌+◌, ◌==◌, ℕ, zero, suc, Bool, true, false, List, [], ◌∷◌, length, Ok, Err, take, drop, refl, subst, arith, length-drop}
use Rattle.std.specs.Prelude.{nat_lt, slice_index, if◌then◌else◌}
use Rattle.std.specs.Int.{w16, w32, from_be_bytes}
use Rattle.std.proofs.lemmas.Bool.Decides.{nat_tests}
use Rattle.machine_semantics.specs.Trees.{Seg, Line, Fork, Rep, Call, Stay, Wait, Exit, Segs, Nil, Cons}
use Rattle.image_format.specs.TreeBytes.{inner, segments}
use Rattle.image_format.specs.Format.{Format, Read, ◌>>=◌, fault, field_at, u8, u16, u32, unless, checked, both}
use Rattle.image_format.specs.TreeFormat.{in_image, line_count, turns_count, u16_below, within, tagged, seg_read, seg_format, segs_read, row_format, no_tree, tree_format}
use Rattle.image_format.proofs.Sound.{came}
use Rattle.image_reader_law.proofs.Readings.{kept, two}
use Rattle.image_reader_law.proofs.Brings.{Brings}
use Rattle.image_format.proofs.Alike.{okay, same_ok}

-- a field takes all its bytes
taken : {A : Type 0} (size : ℕ) (value : List ℕ → A) (bytes : List ℕ) (z : A × List ℕ) → field_at size value bytes ≡ Ok z → size + length z.1 ≤ length bytes
taken {A = A} size value bytes z is = by (nat_lt (length bytes) size) refl is where
  by : (b : Bool) → nat_lt (length bytes) size ≡ b → (if b then Err (fault 2 0) else Ok (value (take size bytes), drop size bytes)) ≡ Ok z → size + length z.1 ≤ length bytes
  by true test e = absurd cc
  by false test e =
      subst (λ (y : A × List ℕ). size + length y.1 ≤ length bytes) (same_ok (value (take size bytes), drop size bytes) z e) (grind (arith, nat_tests, test, length-drop size bytes))

abbrev IsSmallIn : List ℕ → Segs × List ℕ → Type 0
IsSmallIn bytes z = segments z.0 + length z.1 ≤ length bytes

abbrev AreSmall : Format Segs → Type 0
AreSmall f = (bytes : List ℕ) (z : Segs × List ℕ) → f.read bytes ≡ Ok z → IsSmallIn bytes z

abbrev IsInnerIn : List ℕ → Seg × List ℕ → Type 0
IsInnerIn bytes z = inner z.0 + length z.1 ≤ length bytes

module _ (monitors : ℕ) (sub : Format Segs) (small : AreSmall sub) where
  of_line : (bytes : List ℕ) (z : Seg × List ℕ) → (line_count.read bytes >>= λ n. Ok (Line n.0, n.1)) ≡ Ok z → IsInnerIn bytes z
  of_line bytes z is =
      let a = came (line_count.read bytes) (λ n. Ok (Line n.0, n.1)) z is in
      let k = kept u32 (within 1 65535) bytes a.x a.was in
      let t = taken 4 (from_be_bytes w32) bytes a.x k.was in
      subst (IsInnerIn bytes) (same_ok (Line a.x.0, a.x.1) z a.then_is) (omega (arith, t))

  of_fork : (bytes : List ℕ) (z : Seg × List ℕ) → ((both sub (λ first. sub)).read bytes >>= λ x. Ok (Fork x.0.0 x.0.1, x.1)) ≡ Ok z → IsInnerIn bytes z
  of_fork bytes z is =
      let a = came ((both sub (λ first. sub)).read bytes) (λ x. Ok (Fork x.0.0 x.0.1, x.1)) z is in
      let t = two sub (λ first. sub) bytes a.x a.was in
      let one = small bytes (a.x.0.0, t.rest) t.one in
      let other = small t.rest (a.x.0.1, a.x.1) t.two in
      subst (IsInnerIn bytes) (same_ok (Fork a.x.0.0 a.x.0.1, a.x.1) z a.then_is) (omega (arith, one, other))

  of_rep : (bytes : List ℕ) (z : Seg × List ℕ) → ((both turns_count (λ turns. sub)).read bytes >>= λ x. Ok (Rep x.0.0 x.0.1, x.1)) ≡ Ok z → IsInnerIn bytes z
  of_rep bytes z is =
      let a = came ((both turns_count (λ turns. sub)).read bytes) (λ x. Ok (Rep x.0.0 x.0.1, x.1)) z is in
      let t = two turns_count (λ turns. sub) bytes a.x a.was in
      let k = kept u32 (within 1 1000000) bytes (a.x.0.0, t.rest) t.one in
      let field = taken 4 (from_be_bytes w32) bytes (a.x.0.0, t.rest) k.was in
      let body = small t.rest (a.x.0.1, a.x.1) t.two in
      subst (IsInnerIn bytes) (same_ok (Rep a.x.0.0 a.x.0.1, a.x.1) z a.then_is) (omega (arith, field, body))

  of_call : (bytes : List ℕ) (z : Seg × List ℕ) → (u16.read bytes >>= λ n. Ok (Call n.0, n.1)) ≡ Ok z → IsInnerIn bytes z
  of_call bytes z is =
      let a = came (u16.read bytes) (λ n. Ok (Call n.0, n.1)) z is in
      let t = taken 2 (from_be_bytes w16) bytes a.x a.was in
      subst (IsInnerIn bytes) (same_ok (Call a.x.0, a.x.1) z a.then_is) (omega (arith, t))

  of_stay : (bytes : List ℕ) (z : Seg × List ℕ) → ((both (u16_below monitors) (λ monitor. sub)).read bytes >>= λ x. Ok (Stay x.0.0 x.0.1, x.1)) ≡ Ok z → IsInnerIn bytes z
  of_stay bytes z is =
      let a = came ((both (u16_below monitors) (λ monitor. sub)).read bytes) (λ x. Ok (Stay x.0.0 x.0.1, x.1)) z is in
      let t = two (u16_below monitors) (λ monitor. sub) bytes a.x a.was in
      let k = kept u16 (λ n. unless (nat_lt n monitors) 4) bytes (a.x.0.0, t.rest) t.one in
      let field = taken 2 (from_be_bytes w16) bytes (a.x.0.0, t.rest) k.was in
      let body = small t.rest (a.x.0.1, a.x.1) t.two in
      subst (IsInnerIn bytes) (same_ok (Stay a.x.0.0 a.x.0.1, a.x.1) z a.then_is) (omega (arith, field, body))

  alone : (bytes : List ℕ) (s : Seg) (z : Seg × List ℕ) → inner s ≡ 0 → okay (s, bytes) ≡ okay z → IsInnerIn bytes z
  alone bytes s z none is = subst (IsInnerIn bytes) (same_ok (s, bytes) z is) (omega (arith, none))

  by_tag : (tag left : ℕ) (bytes : List ℕ) (z : Seg × List ℕ) → tagged (in_image monitors) sub tag left bytes ≡ Ok z → IsInnerIn bytes z
  by_tag tag left bytes z = by (tag == 1) (tag == 2) (tag == 3) (tag == 4) (tag == 5) (tag == 6) (tag == 7) where
    by : (a b c d e f g : Bool)
        → (if a then (line_count.read bytes >>= λ n. Ok (Line n.0, n.1))
        else (if b then ((both sub (λ first. sub)).read bytes >>= λ x. Ok (Fork x.0.0 x.0.1, x.1))
        else (if c then ((both turns_count (λ turns. sub)).read bytes >>= λ x. Ok (Rep x.0.0 x.0.1, x.1))
        else (if d then (u16.read bytes >>= λ n. Ok (Call n.0, n.1))
        else (if e then ((both (u16_below monitors) (λ monitor. sub)).read bytes >>= λ x. Ok (Stay x.0.0 x.0.1, x.1))
        else (if f then Ok (Wait, bytes)
        else (if g then Ok (Exit, bytes)
        else Err (fault 6 left)))))))) ≡ Ok z → IsInnerIn bytes z
    by true b c d e f g is = of_line bytes z is
    by false true c d e f g is = of_fork bytes z is
    by false false true d e f g is = of_rep bytes z is
    by false false false true e f g is = of_call bytes z is
    by false false false false true f g is = of_stay bytes z is
    by false false false false false true g is = alone bytes Wait z refl is
    by false false false false false false true is = alone bytes Exit z refl is
    by false false false false false false false is = absurd cc

  of_seg : (bytes : List ℕ) (z : Seg × List ℕ) → seg_read (in_image monitors) sub bytes ≡ Ok z → 1 + inner z.0 + length z.1 ≤ length bytes
  unfolding seg_read
  of_seg bytes z is =
      let a = came (u8.read bytes) (λ tag. tagged (in_image monitors) sub tag.0 (length bytes) tag.1) z is in
      let t = taken 1 (λ all. slice_index all 0) bytes a.x a.was in
      let s = by_tag a.x.0 (length bytes) a.x.1 z a.then_is in
      omega (arith, t, s)

  of_segs : (count : ℕ) (bytes : List ℕ) (z : Segs × List ℕ) → segs_read (seg_format (in_image monitors) sub) count bytes ≡ Ok z → IsSmallIn bytes z
  unfolding segs_read
  of_segs zero bytes z is = subst (IsSmallIn bytes) (same_ok (Nil, bytes) z is) (omega arith)
  of_segs (suc count) bytes z is =
      let a = came (seg_read (in_image monitors) sub bytes) (λ head. segs_read (seg_format (in_image monitors) sub) count head.1 >>= λ rest. Ok (Cons head.0 rest.0, rest.1)) z is in
      let b = came (segs_read (seg_format (in_image monitors) sub) count a.x.1) (λ rest. Ok (Cons a.x.0 rest.0, rest.1)) z a.then_is in
      let head = of_seg bytes a.x a.was in
      let rest = of_segs count a.x.1 b.x b.was in
      subst (IsSmallIn bytes) (same_ok (Cons a.x.0 b.x.0, b.x.1) z b.then_is) (omega (arith, head, rest))

  of_row : AreSmall (row_format (seg_format (in_image monitors) sub))
  of_row bytes z is =
      let a = came (u32.read bytes) (λ count. segs_read (seg_format (in_image monitors) sub) count.0 count.1) z is in
      let t = taken 4 (from_be_bytes w32) bytes a.x a.was in
      let s = of_segs a.x.0 a.x.1 z a.then_is in
      omega (arith, t, s)

pub trees_are_small : (monitors depth : ℕ) → AreSmall (tree_format (in_image monitors) depth)
unfolding tree_format
trees_are_small monitors zero bytes z is =
    let a = came (u32.read bytes) (λ count. no_tree (length bytes)) z is in
    let wrong = a.then_is in
    absurd cc
trees_are_small monitors (suc depth) bytes z is = of_row monitors (tree_format (in_image monitors) depth) (trees_are_small monitors depth) bytes z is

-- of at most n bytes
pub tree_brings : {n : ℕ} (monitors depth : ℕ) → Brings n (tree_format (in_image monitors) depth) (λ tree. segments tree ≤ n)
tree_brings {n = n} monitors depth = record { told = λ bytes z few is. let s = trees_are_small monitors depth bytes z is in (omega (arith, s, few), omega (arith, s, few)) }
