-- The bytes of a segment tree are those that it is read from.
use Rattle.std.proofs.Common.{◌≡◌, ◌<◌, ◌^◌, ◌&&◌, ◌==◌, ◌++◌, ◌+◌, ℕ, zero, suc, Bool, true, false, List, [], ◌∷◌, length, take, Ok, Err, refl, sym, ap, ◌∙◌, subst, arith}
use Rattle.std.specs.Prelude.{nat_lt}
use Rattle.std.proofs.lemmas.Bool.{eqb-true, and_parts}
use Rattle.machine_semantics.specs.Trees.{Seg, Line, Fork, Rep, Call, Stay, Wait, Exit, Segs, Nil, Cons}
use Rattle.image_format.specs.Numbers as written
use Rattle.image_format.specs.TreeBytes.{row, seg_bytes, segs_bytes, tree_bytes}
use Rattle.image_format.specs.Format.{Format, Read, ◌>>=◌, fault, given, u8, u16, u32, unless, both, via, each, each_read, each_write, each_is}
use Rattle.image_format.specs.TreeFormat.{SegNumbers, image_limits, in_image, within_limits, within, tagged, seg_read, seg_is, seg_format, segs_read, segs_is, row_format, no_tree, too_deep, tree_format}
use Rattle.image_format.specs.declared.limits.Limits.{Limits}
use Rattle.image_format.specs.FormatLaw.{AreBytes, IsSound}
use Rattle.image_format.proofs.Sound.{came, bytes_after, checked_sound, both_sound, via_sound, given_sound, each_sound}
use Rattle.image_format.proofs.SoundFields.{u8_sound, u16_sound, u32_sound}
use Rattle.image_format.proofs.Alike.{alike, same_ok}

-- ---- one segment: its tag, and what stands after it

abbrev nothing : Format (Unit {0})
nothing = given (λ x y. true) tt

nothing_sound : IsSound nothing
nothing_sound = given_sound (λ x y. true) tt (λ y h. refl) refl

-- a segment as it is written where inner trees are of the given format
abbrev seg_write : SegNumbers → Format Segs → Seg → List ℕ
seg_write numbers sub (Line count) = 1 ∷ numbers.lines.write count
seg_write numbers sub (Fork first second) = 2 ∷ (sub.write first ++ sub.write second)
seg_write numbers sub (Rep turns body) = 3 ∷ (numbers.turns.write turns ++ sub.write body)
seg_write numbers sub (Call routine) = 4 ∷ u16.write routine
seg_write numbers sub (Stay monitor body) = 5 ∷ (numbers.monitors.write monitor ++ sub.write body)
seg_write numbers sub Wait = 6 ∷ []
seg_write numbers sub Exit = 7 ∷ []

-- the numbers of segments are read as they are written
pub record AreSoundNumbers (numbers : SegNumbers) : Type 0 where
  pub lines : IsSound numbers.lines
  pub turns : IsSound numbers.turns
  pub monitors : IsSound numbers.monitors
  pub as_monitors : (n : ℕ) → numbers.monitors.write n ≡ written.u16 n
  pub as_turns : (n : ℕ) → numbers.turns.write n ≡ written.u32 n
  pub as_lines : (n : ℕ) → numbers.lines.write n ≡ written.u32 n

module _ (numbers : SegNumbers) (are_sound : AreSoundNumbers numbers) (sub : Format Segs) (sound : IsSound sub) where
  abbrev one : Format Seg
  one = record { write = seg_write numbers sub; is = seg_is numbers sub; read = seg_read numbers sub }

  -- a kind of segment
  record Kind {B : Type 0} (tag : ℕ) (payload : Format B) (of : B → Seg) : Type 0 where
    sound_payload : IsSound payload
    a_byte : nat_lt tag 256 ≡ true
    written : (y : B) → seg_write numbers sub (of y) ≡ tag ∷ payload.write y
    is_one : (y : B) → seg_is numbers sub (of y) ≡ payload.is y
    reads : (left : ℕ) (bytes : List ℕ) → tagged numbers sub tag left bytes ≡ (payload.read bytes >>= λ x. Ok (of x.0, x.1))

  kind_again : {B : Type 0} (tag : ℕ) (payload : Format B) (of : B → Seg) → Kind tag payload of → (y : B) (rest : List ℕ) → seg_is numbers sub (of y) ≡ true → seg_read numbers sub (seg_write numbers sub (of y) ++ rest) ≡ Ok (of y, rest)
  unfolding seg_read
  kind_again tag payload of k y rest h =
      ap (λ (bytes : List ℕ). seg_read numbers sub (bytes ++ rest)) (k.written y)
      ∙ ap (λ r. r >>= λ t. tagged numbers sub t.0 (length (tag ∷ (payload.write y ++ rest))) t.1) (u8_sound.again tag (payload.write y ++ rest) k.a_byte)
      ∙ k.reads (length (tag ∷ (payload.write y ++ rest))) (payload.write y ++ rest)
      ∙ ap (λ r. r >>= λ x. Ok (of x.0, x.1)) (k.sound_payload.again y rest (sym (k.is_one y) ∙ h))

  kind_cut : {B : Type 0} (tag : ℕ) (payload : Format B) (of : B → Seg) → Kind tag payload of → (y : B) (n : ℕ) → seg_is numbers sub (of y) ≡ true → n < length (seg_write numbers sub (of y)) → seg_read numbers sub (take n (seg_write numbers sub (of y))) ≡ Err (fault 2 0)
  unfolding seg_read
  kind_cut tag payload of k y zero h low = refl
  kind_cut tag payload of k y (suc n) h low =
      let shorter : n < length (payload.write y) = omega (arith, low, ap (λ (bytes : List ℕ). length bytes) (k.written y)) in
      ap (λ (bytes : List ℕ). seg_read numbers sub (take (suc n) bytes)) (k.written y)
      ∙ ap (λ r. r >>= λ t. tagged numbers sub t.0 (length (tag ∷ take n (payload.write y))) t.1) (u8_sound.again tag (take n (payload.write y)) k.a_byte)
      ∙ k.reads (length (tag ∷ take n (payload.write y))) (take n (payload.write y))
      ∙ ap (λ r. r >>= λ x. Ok (of x.0, x.1)) (k.sound_payload.cut y n (sym (k.is_one y) ∙ h) shorter)

  abbrev Back : List ℕ → Seg × List ℕ → Type 0
  Back bytes z = (bytes ≡ seg_write numbers sub z.0 ++ z.1) × (seg_is numbers sub z.0 ≡ true)

  kind_back : {B : Type 0} (tag : ℕ) (payload : Format B) (of : B → Seg) → Kind tag payload of → (left : ℕ) (bytes : List ℕ) (z : Seg × List ℕ) → AreBytes bytes → tagged numbers sub tag left bytes ≡ Ok z → Back (tag ∷ bytes) z
  kind_back tag payload of k left bytes z are is =
      let a = came (payload.read bytes) (λ x. Ok (of x.0, x.1)) z (sym (k.reads left bytes) ∙ is) in
      let b = k.sound_payload.back bytes a.x are a.was in
      subst (Back (tag ∷ bytes)) (same_ok (of a.x.0, a.x.1) z a.then_is)
      (ap (λ (more : List ℕ). tag ∷ more) b.0 ∙ ap (λ (front : List ℕ). front ++ a.x.1) (sym (k.written a.x.0)), k.is_one a.x.0 ∙ b.1)

  abbrev fork_payload : Format (Segs × Segs)
  fork_payload = both sub (λ first. sub)

  abbrev rep_payload : Format (ℕ × Segs)
  rep_payload = both numbers.turns (λ turns. sub)

  abbrev stay_payload : Format (ℕ × Segs)
  stay_payload = both numbers.monitors (λ monitor. sub)

  line_kind : Kind 1 numbers.lines (λ n. Line n)
  line_kind = record { sound_payload = are_sound.lines; a_byte = refl; written = λ y. refl; is_one = λ y. refl; reads = λ left bytes. refl }

  fork_kind : Kind 2 fork_payload (λ x. Fork x.0 x.1)
  fork_kind = record { sound_payload = both_sound sub (λ first. sub) sound (λ first. sound); a_byte = refl; written = λ y. refl; is_one = λ y. refl; reads = λ left bytes. refl }

  rep_kind : Kind 3 rep_payload (λ x. Rep x.0 x.1)
  rep_kind = record { sound_payload = both_sound numbers.turns (λ turns. sub) are_sound.turns (λ turns. sound); a_byte = refl; written = λ y. refl; is_one = λ y. refl; reads = λ left bytes. refl }

  call_kind : Kind 4 u16 (λ n. Call n)
  call_kind = record { sound_payload = u16_sound; a_byte = refl; written = λ y. refl; is_one = λ y. refl; reads = λ left bytes. refl }

  stay_kind : Kind 5 stay_payload (λ x. Stay x.0 x.1)
  stay_kind = record {
    sound_payload = both_sound numbers.monitors (λ monitor. sub) are_sound.monitors (λ monitor. sound);
    a_byte = refl;
    written = λ y. refl;
    is_one = λ y. refl;
    reads = λ left bytes. refl;
  }

  wait_kind : Kind 6 nothing (λ x. Wait)
  wait_kind = record { sound_payload = nothing_sound; a_byte = refl; written = λ y. refl; is_one = λ y. refl; reads = λ left bytes. refl }

  exit_kind : Kind 7 nothing (λ x. Exit)
  exit_kind = record { sound_payload = nothing_sound; a_byte = refl; written = λ y. refl; is_one = λ y. refl; reads = λ left bytes. refl }

  seg_again : (s : Seg) (rest : List ℕ) → seg_is numbers sub s ≡ true → seg_read numbers sub (seg_write numbers sub s ++ rest) ≡ Ok (s, rest)
  seg_again (Line n) rest h = kind_again 1 numbers.lines (λ n. Line n) line_kind n rest h
  seg_again (Fork a b) rest h = kind_again 2 fork_payload (λ x. Fork x.0 x.1) fork_kind (a, b) rest h
  seg_again (Rep n a) rest h = kind_again 3 rep_payload (λ x. Rep x.0 x.1) rep_kind (n, a) rest h
  seg_again (Call n) rest h = kind_again 4 u16 (λ n. Call n) call_kind n rest h
  seg_again (Stay n a) rest h = kind_again 5 stay_payload (λ x. Stay x.0 x.1) stay_kind (n, a) rest h
  seg_again Wait rest h = kind_again 6 nothing (λ x. Wait) wait_kind tt rest h
  seg_again Exit rest h = kind_again 7 nothing (λ x. Exit) exit_kind tt rest h

  seg_cut : (s : Seg) (n : ℕ) → seg_is numbers sub s ≡ true → n < length (seg_write numbers sub s) → seg_read numbers sub (take n (seg_write numbers sub s)) ≡ Err (fault 2 0)
  seg_cut (Line m) n h low = kind_cut 1 numbers.lines (λ n. Line n) line_kind m n h low
  seg_cut (Fork a b) n h low = kind_cut 2 fork_payload (λ x. Fork x.0 x.1) fork_kind (a, b) n h low
  seg_cut (Rep m a) n h low = kind_cut 3 rep_payload (λ x. Rep x.0 x.1) rep_kind (m, a) n h low
  seg_cut (Call m) n h low = kind_cut 4 u16 (λ n. Call n) call_kind m n h low
  seg_cut (Stay m a) n h low = kind_cut 5 stay_payload (λ x. Stay x.0 x.1) stay_kind (m, a) n h low
  seg_cut Wait n h low = kind_cut 6 nothing (λ x. Wait) wait_kind tt n h low
  seg_cut Exit n h low = kind_cut 7 nothing (λ x. Exit) exit_kind tt n h low

  at_tag : (k tag left : ℕ) (bytes : List ℕ) (z : Seg × List ℕ) → tag == k ≡ true → tagged numbers sub tag left bytes ≡ Ok z → (tagged numbers sub k left bytes ≡ Ok z → Back (k ∷ bytes) z) → Back (tag ∷ bytes) z
  at_tag k tag left bytes z same is back =
      let e : tag ≡ k = eqb-true tag k same in
      subst (λ t. Back (t ∷ bytes) z) (sym e) (back (subst (λ t. tagged numbers sub t left bytes ≡ Ok z) e is))

  no_tag : (tag left : ℕ) (bytes : List ℕ) (z : Seg × List ℕ) → tag == 1 ≡ false → tag == 2 ≡ false → tag == 3 ≡ false → tag == 4 ≡ false → tag == 5 ≡ false → tag == 6 ≡ false → tag == 7 ≡ false → tagged numbers sub tag left bytes ≡ Ok z → Back (tag ∷ bytes) z
  no_tag tag left bytes z a b c d e f g is = absurd (let none = rw (a, b, c, d, e, f, g) at is in cc)

  by_tag : (tag left : ℕ) (bytes : List ℕ) (z : Seg × List ℕ) → AreBytes bytes → tagged numbers sub tag left bytes ≡ Ok z → Back (tag ∷ bytes) z
  by_tag tag left bytes z are is = by (tag == 1) (tag == 2) (tag == 3) (tag == 4) (tag == 5) (tag == 6) (tag == 7) refl refl refl refl refl refl refl where
    by : (a b c d e f g : Bool) → tag == 1 ≡ a → tag == 2 ≡ b → tag == 3 ≡ c → tag == 4 ≡ d → tag == 5 ≡ e → tag == 6 ≡ f → tag == 7 ≡ g → Back (tag ∷ bytes) z
    by true b c d e f g p q r s t u v = at_tag 1 tag left bytes z p is (kind_back 1 numbers.lines (λ n. Line n) line_kind left bytes z are)
    by false true c d e f g p q r s t u v = at_tag 2 tag left bytes z q is (kind_back 2 fork_payload (λ x. Fork x.0 x.1) fork_kind left bytes z are)
    by false false true d e f g p q r s t u v = at_tag 3 tag left bytes z r is (kind_back 3 rep_payload (λ x. Rep x.0 x.1) rep_kind left bytes z are)
    by false false false true e f g p q r s t u v = at_tag 4 tag left bytes z s is (kind_back 4 u16 (λ n. Call n) call_kind left bytes z are)
    by false false false false true f g p q r s t u v = at_tag 5 tag left bytes z t is (kind_back 5 stay_payload (λ x. Stay x.0 x.1) stay_kind left bytes z are)
    by false false false false false true g p q r s t u v = at_tag 6 tag left bytes z u is (kind_back 6 nothing (λ x. Wait) wait_kind left bytes z are)
    by false false false false false false true p q r s t u v = at_tag 7 tag left bytes z v is (kind_back 7 nothing (λ x. Exit) exit_kind left bytes z are)
    by false false false false false false false p q r s t u v = no_tag tag left bytes z p q r s t u v is

  seg_back : (bytes : List ℕ) (z : Seg × List ℕ) → AreBytes bytes → seg_read numbers sub bytes ≡ Ok z → Back bytes z
  unfolding seg_read
  seg_back bytes z are is =
      let a = came (u8.read bytes) (λ t. tagged numbers sub t.0 (length bytes) t.1) z is in
      let tag = u8_sound.back bytes a.x are a.was in
      let rest : AreBytes a.x.1 = bytes_after (a.x.0 ∷ []) a.x.1 (subst AreBytes tag.0 are) in
      subst (λ (all : List ℕ). Back all z) (sym tag.0) (by_tag a.x.0 (length bytes) a.x.1 z rest a.then_is)

  one_sound : IsSound one
  one_sound = record { back = seg_back; again = seg_again; cut = seg_cut }

  -- ---- a row of segments, as a list

  abbrev tree_of : List Seg → Segs
  tree_of [] = Nil
  tree_of (s ∷ ss) = Cons s (tree_of ss)

  abbrev list_of : Segs → List Seg
  list_of Nil = []
  list_of (Cons s ss) = s ∷ list_of ss

  tree_of-list_of : (tree : Segs) → tree_of (list_of tree) ≡ tree
  tree_of-list_of Nil = refl
  tree_of-list_of (Cons s ss) = ap (λ more. Cons s more) (tree_of-list_of ss)

  list_of-tree_of : (ss : List Seg) → list_of (tree_of ss) ≡ ss
  list_of-tree_of [] = refl
  list_of-tree_of (s ∷ ss) = ap (λ (more : List Seg). s ∷ more) (list_of-tree_of ss)

  abbrev made : Read (List Seg) → Read Segs
  made r = r >>= λ x. Ok (tree_of x.0, x.1)

  one_more : (s : Seg) (r : Read (List Seg)) (t : Read Segs) → made r ≡ t → made (r >>= λ xs. Ok (s ∷ xs.0, xs.1)) ≡ (t >>= λ rest. Ok (Cons s rest.0, rest.1))
  one_more s (Ok x) t same = ap (λ r. r >>= λ rest. Ok (Cons s rest.0, rest.1)) same
  one_more s (Err e) t same = ap (λ r. r >>= λ rest. Ok (Cons s rest.0, rest.1)) same

  first : (r : Read Seg) (f : Seg × List ℕ → Read (List Seg)) (h : Seg × List ℕ → Read Segs) → ((x : Seg × List ℕ) → made (f x) ≡ h x) → made (r >>= λ x. f x >>= λ xs. Ok (x.0 ∷ xs.0, xs.1)) ≡ (r >>= λ x. h x >>= λ rest. Ok (Cons x.0 rest.0, rest.1))
  first (Ok x) f h same = one_more x.0 (f x) (h x) (same x)
  first (Err e) f h same = refl

  as_list : (earlier : List Seg) (count : ℕ) (bytes : List ℕ) → made (each_read (λ e. one) earlier count bytes) ≡ segs_read (seg_format numbers sub) count bytes
  unfolding each_read segs_read
  as_list earlier zero bytes = refl
  as_list earlier (suc n) bytes =
      first (seg_read numbers sub bytes) (λ x. each_read (λ e. one) (earlier ++ x.0 ∷ []) n x.1) (λ x. segs_read (seg_format numbers sub) n x.1) (λ x. as_list (earlier ++ x.0 ∷ []) n x.1)

  -- so many segments after their count
  abbrev listed : Format Segs
  listed = via (λ (x : ℕ × List Seg). tree_of x.1) (λ tree. (row tree, list_of tree)) (both u32 (λ count. each (λ e. one) [] count))

  row_long : (earlier : List Seg) (count : ℕ) (ss : List Seg) → each_is (λ e. one) earlier count ss ≡ true → row (tree_of ss) ≡ count
  row_long earlier zero [] h = refl
  row_long earlier zero (s ∷ ss) h = cc
  row_long earlier (suc n) [] h = cc
  row_long earlier (suc n) (s ∷ ss) h = let more = row_long (earlier ++ s ∷ []) n ss (and_parts (seg_is numbers sub s) (each_is (λ e. one) (earlier ++ s ∷ []) n ss) h).1 in omega (arith, more)

  listed_sound : IsSound listed
  listed_sound =
      via_sound (λ (x : ℕ × List Seg). tree_of x.1) (λ tree. (row tree, list_of tree)) (both u32 (λ count. each (λ e. one) [] count))
      (λ x h. let p = and_parts (nat_lt x.0 (2 ^ 32)) (each_is (λ e. one) [] x.0 x.1) h in
      ap (λ n. (n, list_of (tree_of x.1))) (row_long [] x.0 x.1 p.1) ∙ ap (λ (ss : List Seg). (x.0, ss)) (list_of-tree_of x.1))
      (λ y h. tree_of-list_of y) (both_sound u32 (λ count. each (λ e. one) [] count) u32_sound (λ count. each_sound (λ e. one) (λ e. one_sound) [] count))

  module _ (write_is : (tree : Segs) → sub.write tree ≡ tree_bytes tree) where
    seg_write_is : (s : Seg) → seg_write numbers sub s ≡ seg_bytes s
    seg_write_is (Line n) = ap (λ (more : List ℕ). 1 ∷ more) (are_sound.as_lines n)
    seg_write_is (Fork a b) = rw (write_is a, write_is b) refl
    seg_write_is (Rep n a) = rw (are_sound.as_turns n, write_is a) refl
    seg_write_is (Call n) = refl
    seg_write_is (Stay m a) = rw (are_sound.as_monitors m, write_is a) refl
    seg_write_is Wait = refl
    seg_write_is Exit = refl

    each_write_is : (earlier : List Seg) (tree : Segs) → each_write (λ e. one) earlier (list_of tree) ≡ segs_bytes tree
    each_write_is earlier Nil = refl
    each_write_is earlier (Cons s ss) = rw (seg_write_is s, each_write_is (earlier ++ s ∷ []) ss) refl

    each_is_is : (earlier : List Seg) (tree : Segs) → each_is (λ e. one) earlier (row tree) (list_of tree) ≡ segs_is (seg_format numbers sub) tree
    each_is_is earlier Nil = refl
    each_is_is earlier (Cons s ss) =
        ap (λ n. each_is (λ e. one) earlier n (s ∷ list_of ss)) (let e : 1 + row ss ≡ suc (row ss) = omega arith in e)
        ∙ ap (λ b. seg_is numbers sub s && b) (each_is_is (earlier ++ s ∷ []) ss)

    abbrev counted : ℕ → Read (List Seg) → Read (ℕ × List Seg)
    counted n r = r >>= λ y. Ok ((n, y.0), y.1)

    abbrev dropped : Read (ℕ × List Seg) → Read Segs
    dropped r = r >>= λ x. Ok (tree_of x.0.1, x.1)

    dropped_is : (n : ℕ) (r : Read (List Seg)) → dropped (counted n r) ≡ made r
    dropped_is n (Ok x) = refl
    dropped_is n (Err e) = refl

    abbrev all_read : Read ℕ → Read (ℕ × List Seg)
    all_read r = r >>= λ count. counted count.0 (each_read (λ e. one) [] count.0 count.1)

    abbrev rows_read : Read ℕ → Read Segs
    rows_read r = r >>= λ count. segs_read (seg_format numbers sub) count.0 count.1

    read_is : (r : Read ℕ) → dropped (all_read r) ≡ rows_read r
    read_is (Err e) = refl
    read_is (Ok count) = dropped_is count.0 (each_read (λ e. one) [] count.0 count.1) ∙ as_list [] count.0 count.1

    row_sound : IsSound (row_format (seg_format numbers sub))
    row_sound =
        alike listed (row_format (seg_format numbers sub)) (λ tree. ap (λ (more : List ℕ). written.u32 (row tree) ++ more) (each_write_is [] tree)) (λ tree. ap (λ b. nat_lt (row tree) (2 ^ 32) && b) (each_is_is [] tree))
        (λ bytes. read_is (u32.read bytes)) listed_sound

-- the bytes of a tree that nests too deep are read as none
never_read : (count : Read ℕ) (left : ℕ) (z : Segs × List ℕ) → (count >>= λ n. no_tree left) ≡ Ok z → ⊥
never_read (Ok count) left z h = cc
never_read (Err e) left z h = cc

too_deep_sound : IsSound too_deep
too_deep_sound = record { back = λ bytes z are h. absurd (never_read (u32.read bytes) (length bytes) z h); again = λ x rest h. cc; cut = λ x n h low. cc }

pub tree_write_is : (numbers : SegNumbers) (depth : ℕ) (tree : Segs) → (tree_format numbers depth).write tree ≡ tree_bytes tree
unfolding tree_format
tree_write_is numbers zero tree = refl
tree_write_is numbers (suc depth) tree = refl

-- a tree is read as it is written where its numbers are
pub tree_sound_of : (numbers : SegNumbers) → AreSoundNumbers numbers → (depth : ℕ) → IsSound (tree_format numbers depth)
unfolding tree_format
tree_sound_of numbers are_sound zero = too_deep_sound
tree_sound_of numbers are_sound (suc depth) = row_sound numbers are_sound (tree_format numbers depth) (tree_sound_of numbers are_sound depth) (tree_write_is numbers depth)

-- so are those within limits
limits_sound : (l : Limits) → AreSoundNumbers (within_limits l)
limits_sound l = record {
  lines = checked_sound u32 (within l.least_line l.most_line) u32_sound;
  turns = checked_sound u32 (within l.least_turns l.most_turns) u32_sound;
  monitors = checked_sound u16 (λ n. unless (nat_lt n l.monitors) 4) u16_sound;
  as_monitors = λ n. refl;
  as_turns = λ n. refl;
  as_lines = λ n. refl;
}

pub limited_tree_sound : (l : Limits) (depth : ℕ) → IsSound (tree_format (within_limits l) depth)
limited_tree_sound l depth = tree_sound_of (within_limits l) (limits_sound l) depth

pub tree_sound : (monitors depth : ℕ) → IsSound (tree_format (in_image monitors) depth)
tree_sound monitors depth = limited_tree_sound (image_limits monitors) depth
