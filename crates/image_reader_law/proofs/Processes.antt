-- The processes of an image are put together of fields.
use Rattle.std.proofs.Common.{◌≡◌, ◌||◌, ◌==◌, ◌&&◌, ℕ, zero, suc, true, List, [], length, Option, None, refl, ap, arith}
use Rattle.std.specs.Prelude.{not, nat_lt, nat_eq}
use Rattle.std.specs.List.{list_any}
use Rattle.std.proofs.lemmas.Bool.{eqb-true, eq-eqb, and_parts}
use Rattle.machine_semantics.specs.Trees.{Segs}
use Rattle.image.specs.Bytes.{Version, First, Second}
use Rattle.image_reader.specs.declared.counts.Counts.{Counts}
use Rattle.image_format.specs.Format.{Format, u16, u32, checked, both}
use Rattle.image_format.specs.TreeFormat.{in_image, u32_within, tree_format}
use Rattle.image_reader.specs.Grammar as g
use Rattle.image_reader_law.proofs.ImageSoundFields.{each_long, none_is, time_from_block, time_from_waits, time_from_susp, room_from_locals, room_from_stack, Numbers, Room, Time, Fields, process_with, fields_in}
use Rattle.image_reader_law.specs.Faults.{Sort, natural, process, tree, optional, pair, list}
use Rattle.image_reader_law.proofs.Known as k
use Rattle.image_reader_law.proofs.Known.{Known, Tells, unless_tells}
use Rattle.image_reader_law.proofs.TreeNumbers.{a_tree}
use Rattle.image_reader_law.proofs.Grammar.{cost, kind_format, a_kind, a_name, numbers_of}

-- ---- when it is released

a_deadline : (version : Version) (frame : ℕ) → Known natural (g.deadline_format version frame)
a_deadline First frame = k.a_given natural nat_eq frame (record { itself = eq-eqb frame frame refl; no_other = λ y h. eqb-true frame y h })
a_deadline Second frame = k.u32_range 10 frame

event_tells : (events : ℕ) (used : List ℕ) (kind : ℕ) → Tells (g.wrong_event events used kind)
event_tells events used zero x told is = unless_tells (x == 0) 7 told (omega arith) (omega arith) is
event_tells events used (suc kind) x told is = unless_tells (nat_lt x events && not (list_any (λ e. nat_eq e x) used)) 4 told (omega arith) (omega arith) is

module _ (version : Version) (events : ℕ) (used : List ℕ) where
  abbrev from_event : ℕ → Format (ℕ × ℕ)
  from_event kind = both (checked u16 (g.wrong_event events used kind)) (λ event. u16)

  abbrev from_first : ℕ → Format (ℕ × (ℕ × ℕ))
  from_first kind = both (checked (u32_within 0 1000000000) (g.wrong_first kind)) (λ first. from_event kind)

  abbrev from_deadline : ℕ → ℕ → Format (ℕ × (ℕ × (ℕ × ℕ)))
  from_deadline kind frame = both (g.deadline_format version frame) (λ deadline. from_first kind)

  abbrev from_frame : ℕ → Format (ℕ × (ℕ × (ℕ × (ℕ × ℕ))))
  from_frame kind = both (u32_within 10 1000000000) (from_deadline kind)

  a_release : Known (numbers_of 5) (g.release_format version events used)
  a_release =
      k.a_pair natural (numbers_of 4) (kind_format 1) from_frame (a_kind 1) (λ kind. k.a_pair natural (numbers_of 3) (u32_within 10 1000000000) (from_deadline kind) (k.u32_range 10 1000000000) (λ frame.
      k.two natural (numbers_of 2) (g.deadline_format version frame) (from_first kind) (a_deadline version frame)
      (k.two natural (numbers_of 1) (checked (u32_within 0 1000000000) (g.wrong_first kind)) (from_event kind)
      (k.a_test natural (u32_within 0 1000000000) (λ first. kind == 0 || first == 0) 7 (omega arith) (omega arith) (k.u32_range 0 1000000000))
      (k.two natural natural (checked u16 (g.wrong_event events used kind)) u16 (k.a_rule natural u16 (g.wrong_event events used kind) (event_tells events used kind) k.half) k.half))))

-- ---- times, room and handlers

some_time : Known (numbers_of 4) g.time_format
some_time =
    k.two natural (numbers_of 3) g.cost time_from_susp cost (k.two natural (numbers_of 2) g.cost time_from_waits cost (k.two natural (numbers_of 1) g.cost time_from_block cost
    (k.two natural natural g.cost (u32_within 1 1000000000) cost (k.u32_range 1 1000000000))))

some_room : Known (numbers_of 3) g.room_format
some_room =
    k.two natural (numbers_of 2) u32 room_from_stack k.whole (k.two natural (numbers_of 1) (u32_within 0 4096) room_from_locals (k.u32_range 0 4096) (k.two natural natural (u32_within 0 4096) u32 (k.u32_range 0 4096) k.whole))

a_handler : Known (pair natural natural) g.handler_format
a_handler = k.a_test (pair natural natural) (both u32 (λ handler. u16)) (λ (x : ℕ × ℕ). nat_lt 0 x.1 || x.0 == 0) 7 (omega arith) (omega arith) (k.two natural natural u32 u16 k.whole k.half)

some_numbers : (count : ℕ) → Known (list natural) (g.numbers_format count)
some_numbers count = k.a_list natural (λ earlier. checked u16 (g.wrong_number earlier)) (λ earlier. k.a_test natural u16 (λ n. g.is_above earlier n && g.is_taken n) 8 (omega arith) (omega arith) k.half) [] count

a_handler_tree : (monitors count : ℕ) → Known (optional tree) (g.handler_tree_format monitors count)
a_handler_tree monitors zero = k.a_given (optional tree) (λ x y. g.is_none y) None (record { itself = refl; no_other = none_is })
a_handler_tree monitors (suc count) = k.an_option tree (tree_format (in_image monitors) g.deepest) (a_tree monitors g.deepest)

-- ---- a process

abbrev trees_sort : Sort
trees_sort = pair tree (optional tree)

abbrev numbers_sort : Sort
numbers_sort = pair (pair natural natural) (pair (list natural) trees_sort)

abbrev room_sort : Sort
room_sort = pair (numbers_of 3) numbers_sort

abbrev time_sort : Sort
time_sort = pair (numbers_of 4) room_sort

module _ (version : Version) (counts : Counts) (used : List ℕ) where
  abbrev trees : (count : ℕ) → Format (Segs × Option Segs)
  trees count = both (tree_format (in_image counts.monitors) g.deepest) (λ body. g.handler_tree_format counts.monitors count)

  abbrev after_handler : ℕ × ℕ → Format (List ℕ × (Segs × Option Segs))
  after_handler handler = both (g.numbers_format handler.1) (λ numbers. trees handler.1)

  abbrev numbers : Format Numbers
  numbers = both g.handler_format after_handler

  abbrev room : Format Room
  room = both g.room_format (λ room. numbers)

  abbrev time : Format Time
  time = both g.time_format (λ time. room)

  abbrev all : Format Fields
  all = both (g.release_format version counts.events used) (λ release. time)

  all_fields : Known (pair (numbers_of 5) time_sort) all
  all_fields =
      k.two (numbers_of 5) time_sort (g.release_format version counts.events used) time (a_release version counts.events used) (k.two (numbers_of 4) room_sort g.time_format room some_time
      (k.two (numbers_of 3) numbers_sort g.room_format numbers some_room
      (k.a_pair (pair natural natural) (pair (list natural) trees_sort) g.handler_format after_handler a_handler (λ handler. k.two (list natural) trees_sort (g.numbers_format handler.1) (trees handler.1) (some_numbers handler.1)
      (k.two tree (optional tree) (tree_format (in_image counts.monitors) g.deepest) (g.handler_tree_format counts.monitors handler.1) (a_tree counts.monitors g.deepest) (a_handler_tree counts.monitors handler.1))))))

  long : (x : Fields) → all.is x ≡ true → length x.1.1.1.1.0 ≡ x.1.1.1.0.1
  long x h =
      let a = and_parts ((g.release_format version counts.events used).is x.0) (time.is x.1) h in
      let b = and_parts (g.time_format.is x.1.0) (room.is x.1.1) a.1 in
      let c = and_parts (g.room_format.is x.1.1.0) (numbers.is x.1.1.1) b.1 in
      let d = and_parts (g.handler_format.is x.1.1.1.0) ((after_handler x.1.1.1.0).is x.1.1.1.1) c.1 in
      let e = and_parts ((g.numbers_format x.1.1.1.0.1).is x.1.1.1.1.0) ((trees x.1.1.1.0.1).is x.1.1.1.1.1) d.1 in
      each_long (λ earlier. checked u16 (g.wrong_number earlier)) [] x.1.1.1.0.1 x.1.1.1.1.0 e.0

  a_process : Known process (g.process_format version counts used)
  a_process =
      k.a_view (pair (numbers_of 5) time_sort) process all process_with fields_in
      (record { back = λ x h. ap (λ n. (x.0, (x.1.0, (x.1.1.0, ((x.1.1.1.0.0, n), x.1.1.1.1))))) (long x h); there = λ y h. refl }) all_fields

  pub a_named_process : (taken : List (List ℕ)) → Known (pair (list natural) process) (g.named_process_format version counts taken used)
  a_named_process taken = k.two (list natural) process (g.name_format taken) (g.process_format version counts used) (a_name taken) a_process
