-- The faults that the bytes of an image file have, and where: told from how things are written and
-- in which ranges they are. Nothing here reads.
use Rattle.std.specs.Prelude.{◌≡◌, ◌≤◌, ◌<◌, ◌++◌, ◌&&◌, ◌-◌, ℕ, ℤ, suc, Bool, true, false, List, [], ◌∷◌, length, Option, Some, nat_le}
use Rattle.machine_isa.specs.declared.instr.Instr.{Instr}
use Rattle.machine_semantics.specs.Image.{Monitor, Routine, Process}
use Rattle.machine_semantics.specs.Trees.{Seg, Segs}
use Rattle.image.specs.declared.names.ConditionName.{ConditionName}
use Rattle.image.specs.declared.names.DeviceName.{DeviceName}
use Rattle.image.specs.Bytes.{Version}
use Rattle.image_reader.specs.declared.counts.Counts.{Counts}
use Rattle.image_format.specs.Format.{Format, u8, u16, u32, bytes_as_are, given, unless, checked, both, via, each}
use Rattle.image_format.specs.TreeFormat.{in_image as numbers_of, line_count, turns_count, u16_below, seg_format, row_format, too_deep, tree_format}
use Rattle.image_reader.specs.Grammar.{word, flag_format, some_format}
use Rattle.image_reader.specs.File.{Parts, code_format, unused_fault, image_format, longest}

-- ---- things

-- The sorts of things that have bytes in an image: names of their types, so that one relation can
-- speak of the formats of all of them.
pub data Sort : Type 0 where
  natural : Sort
  integer : Sort
  truth : Sort
  version : Sort
  counts : Sort
  device : Sort
  monitor : Sort
  condition : Sort
  segment : Sort
  tree : Sort
  routine : Sort
  process : Sort
  instruction : Sort
  parts : Sort
  optional : Sort → Sort
  pair : Sort → Sort → Sort
  list : Sort → Sort

abbrev pub Thing : Sort → Type 0
Thing natural = ℕ
Thing integer = ℤ
Thing truth = Bool
Thing version = Version
Thing counts = Counts
Thing device = DeviceName
Thing monitor = Monitor
Thing condition = ConditionName
Thing segment = Seg
Thing tree = Segs
Thing routine = Routine
Thing process = Process
Thing instruction = Instr
Thing parts = Parts
Thing (optional a) = Option (Thing a)
Thing (pair a b) = Thing a × Thing b
Thing (list a) = List (Thing a)

abbrev pub Form : Sort → Type 0
Form a = Format (Thing a)

-- ---- formats that are put together of fields

-- a field of so many bytes
pub data IsField : (a : Sort) → Form a → (size : ℕ) → Type 0 where
  of_one : IsField natural u8 1
  of_two : IsField natural u16 2
  of_four : IsField natural u32 4
  of_word : IsField integer word 4
  of_bytes : (size : ℕ) → IsField (list natural) (bytes_as_are size) size

-- by the test a thing is the same as itself, and as no other
pub record IsTest {A : Type 0} (same : A → A → Bool) (x : A) : Type 0 where
  pub itself : same x x ≡ true
  pub no_other : (y : A) → same x y ≡ true → x ≡ y

-- things in the range of a format, and what they are seen as, are one to one
pub record IsView {A B : Type 0} (f : Format A) (to : A → B) (from : B → A) : Type 0 where
  pub back : (x : A) → f.is x ≡ true → from (to x) ≡ x
  pub there : (y : B) → f.is (from y) ≡ true → to (from y) ≡ y

-- The format is put together of fields. A format as such is any three functions, and its bytes need
-- not tell its things apart; those of these formats do.
pub data IsMade : (a : Sort) → Form a → Type 0 where
  a_field : {a : Sort} {f : Form a} {size : ℕ} → IsField a f size → IsMade a f
  a_given : {a : Sort} (same : Thing a → Thing a → Bool) (x : Thing a)
      → IsTest same x → IsMade a (given same x)
  a_rule : {a : Sort} {f : Form a} (wrong : Thing a → Option ℕ) → IsMade a f → IsMade a (checked f wrong)
  a_pair : {a b : Sort} {f : Form a} {g : Thing a → Form b}
      → IsMade a f → ((x : Thing a) → IsMade b (g x)) → IsMade (pair a b) (both f g)
  a_view : {a b : Sort} {f : Form a} {to : Thing a → Thing b} {from : Thing b → Thing a}
      → IsView f to from → IsMade a f → IsMade b (via to from f)
  a_list : {a : Sort} {f : List (Thing a) → Form a} → ((earlier : List (Thing a)) → IsMade a (f earlier))
      → (earlier : List (Thing a)) (count : ℕ) → IsMade (list a) (each f earlier count)
  a_flag : (told : ℕ) → IsMade truth (flag_format told)
  an_option : {a : Sort} {f : Form a} → IsMade a f → IsMade (optional a) (some_format f)
  a_segment : (monitors depth : ℕ) → IsMade segment (seg_format (numbers_of monitors) (tree_format (numbers_of monitors) depth))
  a_tree : (monitors depth : ℕ) → IsMade tree (tree_format (numbers_of monitors) depth)
  no_code : (count : ℕ) → IsMade (list instruction) (code_format false count)

-- the bytes begin with those of a thing that is in the range of the format, and these are left
pub record Begins (a : Sort) (f : Form a) (bytes : List ℕ) (x : Thing a) (rest : List ℕ) : Type 0 where
  pub is_made : IsMade a f
  pub are : bytes ≡ f.write x ++ rest
  pub in_range : f.is x ≡ true

-- ---- faults

-- the tag of a segment
abbrev pub tag_format : Format ℕ
tag_format = checked u8 (λ tag. unless (nat_le 1 tag && nat_le tag 7) 6)

-- what stands after a tag, where something does
pub data Follows (monitors : ℕ) (sub : Format Segs) : (tag : ℕ) (a : Sort) → Form a → Type 0 where
  a_line : Follows monitors sub 1 natural line_count
  a_fork : Follows monitors sub 2 (pair tree tree) (both sub (λ first. sub))
  a_loop : Follows monitors sub 3 (pair natural tree) (both turns_count (λ turns. sub))
  a_call : Follows monitors sub 4 natural u16
  a_stay : Follows monitors sub 5 (pair natural tree) (both (u16_below monitors) (λ monitor. sub))

-- The bytes have a fault by a format, of this number, with so many bytes left from its place on.
pub data IsFault : (a : Sort) → Form a → List ℕ → (number left : ℕ) → Type 0 where
  -- they end inside a field
  ends : {a : Sort} {f : Form a} {size : ℕ} {bytes : List ℕ}
      → IsField a f size → length bytes < size → IsFault a f bytes 2 0
  -- of two things: in the first
  in_first : {a b : Sort} {f : Form a} (g : Thing a → Form b) {bytes : List ℕ} {number left : ℕ}
      → IsFault a f bytes number left → IsFault (pair a b) (both f g) bytes number left
  -- in the second, behind the first
  in_second : {a b : Sort} {f : Form a} (g : Thing a → Form b)
      {bytes rest : List ℕ} {x : Thing a} {number left : ℕ}
      → Begins a f bytes x rest → IsFault b (g x) rest number left
      → IsFault (pair a b) (both f g) bytes number left
  -- of a thing with a rule: in the thing
  in_thing : {a : Sort} {f : Form a} (wrong : Thing a → Option ℕ) {bytes : List ℕ} {number left : ℕ}
      → IsFault a f bytes number left → IsFault a (checked f wrong) bytes number left
  -- it is wrong: where it begins
  is_wrong : {a : Sort} {f : Form a} (wrong : Thing a → Option ℕ)
      {bytes rest : List ℕ} {x : Thing a} {number : ℕ}
      → Begins a f bytes x rest → wrong x ≡ Some number
      → IsFault a (checked f wrong) bytes number (length bytes)
  -- of a thing that is seen as another: in the thing
  in_view : {a b : Sort} {f : Form a} (to : Thing a → Thing b) (from : Thing b → Thing a)
      {bytes : List ℕ} {number left : ℕ}
      → IsFault a f bytes number left → IsFault b (via to from f) bytes number left
  -- of a list: in its next thing
  in_next : {a : Sort} (f : List (Thing a) → Form a) (earlier : List (Thing a)) (count : ℕ)
      {bytes : List ℕ} {number left : ℕ}
      → IsFault a (f earlier) bytes number left
      → IsFault (list a) (each f earlier (suc count)) bytes number left
  -- in what is left of the list, behind the next thing
  in_later : {a : Sort} (f : List (Thing a) → Form a) (earlier : List (Thing a)) (count : ℕ)
      {bytes rest : List ℕ} {x : Thing a} {number left : ℕ}
      → Begins a (f earlier) bytes x rest
      → IsFault (list a) (each f (earlier ++ x ∷ []) count) rest number left
      → IsFault (list a) (each f earlier (suc count)) bytes number left
  -- of a flag: in a byte that is 0 or 1
  in_flag : (told : ℕ) {bytes : List ℕ} {number left : ℕ}
      → IsFault natural (checked u8 (λ n. unless (nat_le n 1) told)) bytes number left
      → IsFault truth (flag_format told) bytes number left
  -- of a thing that there is: in the thing
  in_some : {a : Sort} {f : Form a} {bytes : List ℕ} {number left : ℕ}
      → IsFault a f bytes number left → IsFault (optional a) (some_format f) bytes number left
  -- of a segment: in its tag
  in_tag : (monitors : ℕ) (sub : Format Segs) {bytes : List ℕ} {number left : ℕ}
      → IsFault natural tag_format bytes number left
      → IsFault segment (seg_format (numbers_of monitors) sub) bytes number left
  -- in what follows the tag
  in_segment : {monitors : ℕ} {sub : Format Segs} {tag : ℕ} {a : Sort} {f : Form a}
      {bytes : List ℕ} {number left : ℕ}
      → Follows monitors sub tag a f → IsFault a f bytes number left
      → IsFault segment (seg_format (numbers_of monitors) sub) (tag ∷ bytes) number left
  -- of a tree: in the count or in so many segments
  in_row : (one : Format Seg) {bytes : List ℕ} {number left : ℕ}
      → IsFault (pair natural (list segment)) (both u32 (λ count. each (λ earlier. one) [] count)) bytes number left
      → IsFault tree (row_format one) bytes number left
  -- of a tree that nests too deep: in the count
  in_count : {bytes : List ℕ} {number left : ℕ}
      → IsFault natural u32 bytes number left → IsFault tree too_deep bytes number left
  -- it nests too deep: at the count, where that is whole
  is_deep : {bytes rest : List ℕ} {count : ℕ}
      → Begins natural u32 bytes count rest → IsFault tree too_deep bytes 4 (length bytes)
  -- of an image: an event is of no process; where the code begins
  no_process : (count : ℕ) (bytes : List ℕ)
      → IsFault (list instruction) (code_format false count) bytes (unused_fault count bytes) (length bytes)

-- The bytes of a file have a fault of this number, at this offset.
pub data IsFileFault (bytes : List ℕ) : (number offset : ℕ) → Type 0 where
  -- there are more than an image may have
  is_long : longest < length bytes → IsFileFault bytes 9 longest
  -- they have one by the format of images
  in_image : {number left : ℕ} → length bytes ≤ longest
      → IsFault (pair version parts) image_format bytes number left
      → IsFileFault bytes number (length bytes - left)
  -- there are more behind those of an image
  is_behind : {image : Version × Parts} {b : ℕ} {more : List ℕ} → length bytes ≤ longest
      → Begins (pair version parts) image_format bytes image (b ∷ more)
      → IsFileFault bytes 3 (length (image_format.write image))
