-- The trees of a valid image that nest within the limit have their numbers in range.
use Rattle.std.proofs.Common.{◌≡◌, ◌≤◌, ◌<◌, ◌+◌, ◌&&◌, ◌^◌, ℕ, zero, suc, true, List, length, Option, Some, None, pos, refl, arith}
use Rattle.std.specs.Prelude.{nat_eq, nat_lt, slice_get}
use Rattle.std.proofs.lemmas.Bool.{and_parts, eqb-true, lt-ltb, ltb-true}
use Rattle.std.proofs.lemmas.Option.{slice_get_within}
use Rattle.machine_isa.specs.declared.instr.Instr.{Instr}
use Rattle.machine_isa.specs.declared.instr.Instr.TheVariants as i
use Rattle.machine_semantics.specs.Trees.{Seg, Line, Fork, Rep, Call, Stay, Wait, Exit, Segs, Nil, Cons, size, size_of}
use Rattle.image_format.specs.Format.{Format}
use Rattle.image_format.specs.TreeBytes.{row}
use Rattle.image_format.specs.TreeFormat.{in_image, seg_format, seg_is, segs_is, tree_format, turns_count, u16_below}
use Rattle.image_format.proofs.Booleans.{together}
use Rattle.valid_image.specs.Found.{Found, Known, arms, call, entry, found, founds, is_call, is_enter, is_jump, is_jump_zero, is_leave, is_repeat, is_repeats, loop, tree_found}
use Rattle.valid_image_law.proofs.Tests.{called, chained, forked, looped, passed, repeats_is, stayed}
use Rattle.replay_law.proofs.Numbers.{long_within, short_below, short_fits}

-- ---- how deep trees nest

-- trees inside trees, this many at most
abbrev mutual
  pub Within : ℕ → Segs → Type 0
  Within n Nil = Unit {0}
  Within n (Cons s ss) = SegWithin n s × Within n ss

  pub SegWithin : ℕ → Seg → Type 0
  SegWithin n (Line k) = Unit {0}
  SegWithin zero (Fork a b) = ⊥
  SegWithin (suc n) (Fork a b) = Within n a × Within n b
  SegWithin zero (Rep k a) = ⊥
  SegWithin (suc n) (Rep k a) = Within n a
  SegWithin n (Call r) = Unit {0}
  SegWithin zero (Stay m a) = ⊥
  SegWithin (suc n) (Stay m a) = Within n a
  SegWithin n Wait = Unit {0}
  SegWithin n Exit = Unit {0}

mutual
  pub within_more : (n m : ℕ) (t : Segs) → n ≤ m → Within n t → Within m t
  within_more n m Nil le h = tt
  within_more n m (Cons s ss) le h = (seg_more n m s le h.0, within_more n m ss le h.1)

  seg_more : (n m : ℕ) (s : Seg) → n ≤ m → SegWithin n s → SegWithin m s
  seg_more n m (Line k) le h = tt
  seg_more zero m (Fork a b) le h = absurd h
  seg_more (suc n) zero (Fork a b) le h = absurd (omega (arith, le))
  seg_more (suc n) (suc m) (Fork a b) le h = (within_more n m a (omega (arith, le)) h.0, within_more n m b (omega (arith, le)) h.1)
  seg_more zero m (Rep k a) le h = absurd h
  seg_more (suc n) zero (Rep k a) le h = absurd (omega (arith, le))
  seg_more (suc n) (suc m) (Rep k a) le h = within_more n m a (omega (arith, le)) h
  seg_more n m (Call r) le h = tt
  seg_more zero m (Stay k a) le h = absurd h
  seg_more (suc n) zero (Stay k a) le h = absurd (omega (arith, le))
  seg_more (suc n) (suc m) (Stay k a) le h = within_more n m a (omega (arith, le)) h
  seg_more n m Wait le h = tt
  seg_more n m Exit le h = tt

-- ---- their numbers

module _ (code : List Instr) (known : List Known) (monitors : ℕ) (few : length known ≤ 65535) (turns : (a n : ℕ) → slice_get code a ≡ Some (i.Repeats (pos n)) → n ≤ 1000000) where
  abbrev trees : ℕ → Format Segs
  trees n = tree_format (in_image monitors) n

  record Fits (n : ℕ) (s : Seg) : Type 0 where
    some : 1 ≤ size_of s
    is : seg_is (in_image monitors) (trees n) s ≡ true

  record AllFit (n : ℕ) (t : Segs) : Type 0 where
    row_low : row t ≤ size t
    are : segs_is (seg_format (in_image monitors) (trees n)) t ≡ true

  whole : (n : ℕ) (t : Segs) → size t ≤ 65535 → AllFit n t → (trees (suc n)).is t ≡ true
  unfolding tree_format
  whole n t small h =
      together (nat_lt (row t) (2 ^ 32)) (segs_is (seg_format (in_image monitors) (trees n)) t) (lt-ltb (row t) (2 ^ 32) (let low = h.row_low in omega (arith, low, small))) h.are

  mutual
    seg_fits : (n : ℕ) (out held : Option ℕ) (s : Seg) (at h : ℕ) (f : Found) → found code known out held s at h ≡ Some f → size_of s ≤ 65535 → SegWithin n s → Fits n s
    seg_fits n out held (Line zero) at h f is small deep = absurd cc
    seg_fits n out held (Line (suc k)) at h f is small deep = record { some = omega arith; is = long_within 1 65535 (suc k) (omega arith) small (omega arith) }
    seg_fits n out held (Fork a b) at zero f is small deep = absurd cc
    seg_fits zero out held (Fork a b) at (suc h) f is small deep = absurd deep
    seg_fits (suc n) out held (Fork a b) at (suc h) f is small deep =
        let x = founds code known out held a (at + 1) h in
        let y = founds code known out held b (at + 1 + size a + 1) h in
        let p = passed (is_jump_zero (at + 1 + size a + 1) (slice_get code at) && is_jump (at + size a + size b + 2) (slice_get code (at + 1 + size a))) (arms x y) f is in
        let q = forked x y f p.1 in
        record {
          some = omega arith;
          is = together ((trees (suc n)).is a) ((trees (suc n)).is b) (whole n a (omega (arith, small)) (segs_fit n out held a (at + 1) h q.first q.is (omega (arith, small)) deep.0))
              (whole n b (omega (arith, small)) (segs_fit n out held b (at + 1 + size a + 1) h q.second q.other (omega (arith, small)) deep.1));
        }
    seg_fits zero out held (Rep k a) at h f is small deep = absurd deep
    seg_fits (suc n) out held (Rep k a) at h f is small deep =
        let x = founds code known (Some (at + 1 + size a + 1)) held a (at + 1) 0 in
        let p = passed (nat_lt 0 k && (is_repeats k (slice_get code at) && is_repeat (at + 1) (slice_get code (at + 1 + size a)))) (loop k h x) f is in
        let t = and_parts (nat_lt 0 k) (is_repeats k (slice_get code at) && is_repeat (at + 1) (slice_get code (at + 1 + size a))) p.0 in
        let u = and_parts (is_repeats k (slice_get code at)) (is_repeat (at + 1) (slice_get code (at + 1 + size a))) t.1 in
        let q = looped k h x f p.1 in
        let low : 0 < k = ltb-true 0 k t.0 in
        let high : k ≤ 1000000 = turns at k (repeats_is k (slice_get code at) u.0) in
        record {
          some = omega arith;
          is = together (turns_count.is k) ((trees (suc n)).is a) (long_within 1 1000000 k (omega (arith, low)) high (omega arith))
              (whole n a (omega (arith, small)) (segs_fit n (Some (at + 1 + size a + 1)) held a (at + 1) 0 q.turn q.is (omega (arith, small)) deep));
        }
    seg_fits n out held (Call r) at h f is small deep =
        let p = passed (is_call r (slice_get code at)) (call h (slice_get known r)) f is in
        let q = called h (slice_get known r) f p.1 in
        let low : r < length known = slice_get_within known r q.known q.is in
        record { some = omega arith; is = short_fits r (omega (arith, low, few)) }
    seg_fits n out held (Stay m a) at h f is small deep = absurd cc
    seg_fits n out held Wait at h f is small deep = record { some = omega arith; is = refl }
    seg_fits n out held Exit at h f is small deep = record { some = omega arith; is = refl }

    segs_fit : (n : ℕ) (out held : Option ℕ) (t : Segs) (at h : ℕ) (f : Found) → founds code known out held t at h ≡ Some f → size t ≤ 65535 → Within n t → AllFit n t
    segs_fit n out held Nil at h f is small deep = record { row_low = omega arith; are = refl }
    segs_fit n out held (Cons s ss) at h f is small deep =
        let c = chained (found code known out held s at h) (founds code known out held ss (at + size_of s)) f is in
        let one = seg_fits n out held s at h c.first c.is (omega (arith, small)) deep.0 in
        let rest = segs_fit n out held ss (at + size_of s) c.first.height c.later c.more (omega (arith, small)) deep.1 in
        let some = one.some in
        let low = rest.row_low in
        record {
          row_low = omega (arith, some, low);
          are = together (seg_is (in_image monitors) (trees n) s) (segs_is (seg_format (in_image monitors) (trees n)) ss) one.is rest.are;
        }

  pub tree_fits : (n : ℕ) (out held : Option ℕ) (t : Segs) (at h : ℕ) (f : Found) → founds code known out held t at h ≡ Some f → size t ≤ 65535 → Within n t → (trees (suc n)).is t ≡ true
  tree_fits n out held t at h f is small deep = whole n t small (segs_fit n out held t at h f is small deep)

  entry_fits : (n m : ℕ) (t : Segs) (at : ℕ) (f : Found) → m < monitors → monitors ≤ 65536 → entry code known m t at ≡ Some f → size t ≤ 65535 → Within n t → (trees (suc n)).is t ≡ true
  entry_fits zero m (Cons (Stay k a) Nil) at f low most is small deep = absurd deep.0
  entry_fits (suc n) m (Cons (Stay k a) Nil) at f low most is small deep =
      let x = founds code known None (Some m) a (at + 1) 0 in
      let p = passed (nat_eq k m && (is_enter m (slice_get code at) && is_leave m (slice_get code (at + 1 + size a)))) _ f is in
      let t = and_parts (nat_eq k m) (is_enter m (slice_get code at) && is_leave m (slice_get code (at + 1 + size a))) p.0 in
      let q = stayed x f p.1 in
      let same : k ≡ m = eqb-true k m t.0 in
      let inner : (trees (suc n)).is a ≡ true = tree_fits n None (Some m) a (at + 1) 0 q.inner q.is (omega (arith, small)) deep.0 in
      whole (suc n) (Cons (Stay k a) Nil) small (record {
        row_low = omega arith;
        are = together (seg_is (in_image monitors) (trees (suc n)) (Stay k a)) true (together ((u16_below monitors).is k) ((trees (suc n)).is a) (short_below monitors k (omega (arith, same, low)) most) inner) refl;
      })
  entry_fits n m _ at f low most is small deep = absurd cc

  -- the tree of a routine, whose monitor is there if it has one
  pub routine_fits : (n : ℕ) (o : Option ℕ) (t : Segs) (at : ℕ) (f : Found) → ((m : ℕ) → o ≡ Some m → m < monitors) → monitors ≤ 65536 → tree_found code known o t at ≡ Some f → size t ≤ 65535 → Within n t
      → (trees (suc n)).is t ≡ true
  routine_fits n (Some m) t at f there most is small deep = entry_fits n m t at f (there m refl) most is small deep
  routine_fits n None t at f there most is small deep = tree_fits n None None t at 0 f is small deep
