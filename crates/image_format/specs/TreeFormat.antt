-- Segment trees: a count, and so many segments, each by its tag.
use Rattle.std.specs.Prelude.{◌^◌, ◌&&◌, ◌==◌, ℕ, zero, suc, Bool, true, false, List, length, Ok, Err, Option, nat_lt, nat_le, if◌then◌else◌}
use Rattle.machine_semantics.specs.Trees.{Seg, Line, Fork, Rep, Call, Stay, Wait, Exit, Segs, Nil, Cons}
use Rattle.image_format.specs.declared.limits.Limits.{Limits}
use Rattle.image_format.specs.TreeBytes.{row, seg_bytes, tree_bytes}
use Rattle.image_format.specs.Format.{Format, Read, fault, ◌>>=◌, u8, u16, u32, unless, checked, both}

-- I4 outside the range
abbrev pub within : (low high : ℕ) → ℕ → Option ℕ
within low high n = unless (nat_le low n && nat_le n high) 4

abbrev pub u32_within : (low high : ℕ) → Format ℕ
u32_within low high = checked u32 (within low high)

abbrev pub u16_within : (low high : ℕ) → Format ℕ
u16_within low high = checked u16 (within low high)

-- the number of one that is there
abbrev pub u16_below : (count : ℕ) → Format ℕ
u16_below count = checked u16 (λ n. unless (nat_lt n count) 4)

-- the formats of a segment's numbers: how many instructions a line has, how many turns a loop, and
-- which monitor is entered
pub record SegNumbers : Type 0 where
  pub lines : Format ℕ
  pub turns : Format ℕ
  pub monitors : Format ℕ

-- how many instructions a line has in an image, and how many turns a loop
abbrev pub line_count : Format ℕ
line_count = u32_within 1 65535

abbrev pub turns_count : Format ℕ
turns_count = u32_within 1 1000000

-- the numbers of an image with so many monitors
abbrev pub in_image : (monitors : ℕ) → SegNumbers
in_image monitors = record { lines = line_count; turns = turns_count; monitors = u16_below monitors }

-- the numbers within some limits
abbrev pub within_limits : Limits → SegNumbers
within_limits l = record { lines = u32_within l.least_line l.most_line; turns = u32_within l.least_turns l.most_turns; monitors = u16_below l.monitors }

-- the limits of an image with so many monitors, and those of all numbers that fit their bytes
abbrev pub image_limits : (monitors : ℕ) → Limits
image_limits monitors = record { least_line = 1; most_line = 65535; least_turns = 1; most_turns = 1000000; monitors = monitors }

abbrev pub widest : Limits
widest = record { least_line = 0; most_line = 4294967295; least_turns = 0; most_turns = 4294967295; monitors = 65536 }

-- a segment by its tag, where its inner trees are of the given format; I6 where the tag is none
abbrev pub tagged : SegNumbers → Format Segs → (tag : ℕ) → (left : ℕ) → List ℕ → Read Seg
tagged numbers sub tag left bytes =
    if tag == 1 then (numbers.lines.read bytes >>= λ n. Ok (Line n.0, n.1))
    else (if tag == 2 then ((both sub (λ first. sub)).read bytes >>= λ x. Ok (Fork x.0.0 x.0.1, x.1))
    else (if tag == 3 then ((both numbers.turns (λ turns. sub)).read bytes >>= λ x. Ok (Rep x.0.0 x.0.1, x.1))
    else (if tag == 4 then (u16.read bytes >>= λ n. Ok (Call n.0, n.1))
    else (if tag == 5 then ((both numbers.monitors (λ monitor. sub)).read bytes >>= λ x. Ok (Stay x.0.0 x.0.1, x.1))
    else (if tag == 6 then Ok (Wait, bytes)
    else (if tag == 7 then Ok (Exit, bytes)
    else Err (fault 6 left)))))))

unfoldable pub seg_read : SegNumbers → Format Segs → List ℕ → Read Seg
seg_read numbers sub bytes = u8.read bytes >>= λ tag. tagged numbers sub tag.0 (length bytes) tag.1

abbrev pub seg_is : SegNumbers → Format Segs → Seg → Bool
seg_is numbers sub (Line count) = numbers.lines.is count
seg_is numbers sub (Fork first second) = sub.is first && sub.is second
seg_is numbers sub (Rep turns body) = numbers.turns.is turns && sub.is body
seg_is numbers sub (Call routine) = u16.is routine
seg_is numbers sub (Stay monitor body) = numbers.monitors.is monitor && sub.is body
seg_is numbers sub Wait = true
seg_is numbers sub Exit = true

abbrev pub seg_format : SegNumbers → Format Segs → Format Seg
seg_format numbers sub = record { write = seg_bytes; is = seg_is numbers sub; read = seg_read numbers sub }

-- so many segments
unfoldable pub segs_read : Format Seg → (count : ℕ) → List ℕ → Read Segs
segs_read one zero bytes = Ok (Nil, bytes)
segs_read one (suc n) bytes = do
  head ← one.read bytes
  rest ← segs_read one n head.1
  Ok (Cons head.0 rest.0, rest.1)

abbrev pub segs_is : Format Seg → Segs → Bool
segs_is one Nil = true
segs_is one (Cons head rest) = one.is head && segs_is one rest

-- a count, and so many segments
abbrev pub row_format : Format Seg → Format Segs
row_format one = record {
  write = tree_bytes;
  is = λ tree. nat_lt (row tree) (2 ^ 32) && segs_is one tree;
  read = λ bytes. u32.read bytes >>= λ count. segs_read one count.0 count.1;
}

-- no tree: trees nest too deep; I4, at the count, where the bytes do not end inside it
abbrev pub no_tree : (left : ℕ) → Read Segs
no_tree left = Err (fault 4 left)

abbrev pub too_deep : Format Segs
too_deep = record { write = tree_bytes; is = λ tree. false; read = λ bytes. u32.read bytes >>= λ count. no_tree (length bytes) }

-- a tree that nests at most so deep
unfoldable pub tree_format : SegNumbers → (depth : ℕ) → Format Segs
tree_format numbers zero = too_deep
tree_format numbers (suc depth) = row_format (seg_format numbers (tree_format numbers depth))
