-- The layout of an image tells what reading by the format of images tells: processes, code, and the
-- whole.
use Rattle.std.proofs.Common.{◌≡◌, ◌+◌, ◌++◌, ℕ, zero, suc, List, [], ◌∷◌, length, map, Ok, Err, Option, Some, arith, refl, ap, sym, ◌∙◌, true, false, Bool}
use Rattle.std.specs.Prelude.{ℤ, pos, ◌&&◌, ◌||◌, ◌==◌, flat_map, nat_le, nat_lt}
use Rattle.std.specs.Int.{w16, w32, cast_signed, from_be_bytes}
use Rattle.std.specs.Prelude.{slice_index}
use Rattle.std.specs.Ordering.{int_eq}
use Rattle.machine_isa.specs.Bytes.{arity}
use Rattle.machine_semantics.specs.Image.{Process}
use Rattle.machine_semantics.specs.Trees.{Segs}
use Rattle.image.specs.Bytes.{Version, First, Second}
use Rattle.image_reader.specs.declared.counts.Counts.{Counts}
use Rattle.image_format.specs.declared.fault.ByteFault.{ByteFault}
use Rattle.image_format.specs.Format.{Format, Read, ◌>>=◌, checked, both, u8, u16, u32, unless}
use Rattle.image_format.specs.TreeFormat.{u32_within, tree_format, in_image}
use Rattle.image_reader.specs.Grammar as g
use Rattle.image_reader.specs.File as f
use Rattle.image_reader_law.specs.Fields.{any, ranged, kind, tag, none, event, handled, no_operand, number, handler}
use Rattle.image_reader_law.specs.Layout as l
use Rattle.image_reader_law.specs.Layout.{Layout, field, rule, repeated, many}
use Rattle.image_reader_law.proofs.Walks.{walk}
use Rattle.image_reader_law.proofs.Reading.{follow, Reads, Skips, leaf, skip, both_reads, both_first, both_second, both_skip, skip_both, same_after, both_as, rule_reads, takes_field, repeat_skips, many_reads}
use Rattle.image_reader_law.proofs.Formats.{four, skip_four, any_two, any_four, skip_any_two, skip_any_four, a_kind, up_to, both_read, a_name, a_tree, a_routine}

-- ---- releases

a_deadline : (v : Version) (frame : ℕ) → Skips (g.deadline_format v frame) (l.deadline v frame)
a_deadline First frame k bytes = refl
a_deadline Second frame k bytes = skip_four 10 frame k bytes

a_first : (k : ℕ) → Skips (checked (u32_within 0 1000000000) (g.wrong_first k)) (λ n. field (l.first (k == 0)) (λ v. n))
a_first k next bytes = by (k == 0) where
  by : (b : Bool) → walk (field (l.first b) (λ v. next)) bytes ≡ follow ((checked (u32_within 0 1000000000) (λ n. unless (b || n == 0) 7)).read bytes) (λ x rest. walk next rest)
  by true = up_to true 1000000000 next bytes
  by false = up_to false 1000000000 next bytes

an_event : (events : ℕ) (used : List ℕ) (k : ℕ) → Reads (checked u16 (g.wrong_event events used k)) (λ x. x) (λ n. field (l.release_event events used k) (λ v. n (number 2 v)))
an_event events used zero = leaf none (from_be_bytes w16) (g.wrong_event events used 0) (checked u16 (g.wrong_event events used 0)) (λ bytes. refl) (λ v. refl)
an_event events used (suc k) = leaf (event events used) (from_be_bytes w16) (g.wrong_event events used (suc k)) (checked u16 (g.wrong_event events used (suc k))) (λ bytes. refl) (λ v. refl)

module _ (v : Version) (events : ℕ) (used : List ℕ) where
  abbrev after_kind : ℕ → Format (ℕ × (ℕ × (ℕ × (ℕ × ℕ))))
  after_kind k = both (u32_within 10 1000000000) (λ frame. both (g.deadline_format v frame) (λ deadline. both (checked (u32_within 0 1000000000) (g.wrong_first k)) (λ first. both (checked u16 (g.wrong_event events used k)) (λ event. u16))))

  abbrev l_event : ℕ → (ℕ → Layout) → Layout
  l_event k n = field (l.release_event events used k) (λ e. field (any 2) (λ rank. n (number 2 e)))

  from_event : (k : ℕ) → Reads (both (checked u16 (g.wrong_event events used k)) (λ event. u16)) (λ z. z.0) (l_event k)
  from_event k = both_first (checked u16 (g.wrong_event events used k)) (λ event. u16) (λ x. x) (λ n. field (l.release_event events used k) (λ e. n (number 2 e))) (λ e n. field (any 2) (λ rank. n)) (an_event events used k) (λ e. skip_any_two)

  from_first : (k : ℕ) → Reads (both (checked (u32_within 0 1000000000) (g.wrong_first k)) (λ first. both (checked u16 (g.wrong_event events used k)) (λ event. u16))) (λ z. z.1.0) (λ n. field (l.first (k == 0)) (λ w. l_event k n))
  from_first k = both_second (checked (u32_within 0 1000000000) (g.wrong_first k)) (λ first. both (checked u16 (g.wrong_event events used k)) (λ event. u16)) (λ z. z.0) (λ n. field (l.first (k == 0)) (λ w. n)) (l_event k) (a_first k) (λ x. from_event k)

  from_deadline : (k frame : ℕ) → Reads (both (g.deadline_format v frame) (λ deadline. both (checked (u32_within 0 1000000000) (g.wrong_first k)) (λ first. both (checked u16 (g.wrong_event events used k)) (λ event. u16)))) (λ z. z.1.1.0) (λ n. l.deadline v frame (field (l.first (k == 0)) (λ w. l_event k n)))
  from_deadline k frame =
      both_second (g.deadline_format v frame) (λ deadline. both (checked (u32_within 0 1000000000) (g.wrong_first k)) (λ first. both (checked u16 (g.wrong_event events used k)) (λ event. u16))) (λ z. z.1.0)
      (l.deadline v frame) (λ n. field (l.first (k == 0)) (λ w. l_event k n)) (a_deadline v frame) (λ x. from_first k)

  from_frame : (k : ℕ) → Reads (after_kind k) (λ z. z.1.1.1.0) (λ n. field (ranged 4 10 1000000000) (λ frame. l.deadline v (number 4 frame) (field (l.first (k == 0)) (λ w. l_event k n))))
  from_frame k n bytes =
      both_reads (u32_within 10 1000000000) (λ frame. both (g.deadline_format v frame) (λ deadline. both (checked (u32_within 0 1000000000) (g.wrong_first k)) (λ first. both (checked u16 (g.wrong_event events used k)) (λ event. u16)))) (λ x. x) (λ z. z.1.1.0)
      (λ m. field (ranged 4 10 1000000000) (λ w. m (number 4 w))) (λ frame m. l.deadline v frame (field (l.first (k == 0)) (λ w. l_event k m))) (four 10 1000000000) (λ frame. from_deadline k frame) (λ z. n z.1) bytes

  a_release : Reads (g.release_format v events used) (λ z. l.has_event z.0 z.1.1.1.1.0) (l.release v events used)
  a_release n bytes =
      both_reads (checked u8 (λ kind. unless (nat_le kind 1) 6)) after_kind (λ x. x) (λ z. z.1.1.1.0) (λ m. field (kind 1) (λ w. m (number 1 w)))
      (λ k m. field (ranged 4 10 1000000000) (λ frame. l.deadline v (number 4 frame) (field (l.first (k == 0)) (λ w. l_event k m)))) (a_kind 1) from_frame (λ z. n (l.has_event z.0 z.1)) bytes

-- ---- times, room, handler

times : Skips g.time_format (λ n. field l.cost (λ run. field l.cost (λ susp. field l.cost (λ waits. field l.cost (λ block. field (ranged 4 1 1000000000) (λ bound. n))))))
times =
    skip_both g.cost (λ run. both g.cost (λ susp. both g.cost (λ waits. both g.cost (λ block. u32_within 1 1000000000)))) (λ n. field l.cost (λ v. n))
    (λ n. field l.cost (λ susp. field l.cost (λ waits. field l.cost (λ block. field (ranged 4 1 1000000000) (λ bound. n))))) (skip_four 0 1000000001)
    (λ run. skip_both g.cost (λ susp. both g.cost (λ waits. both g.cost (λ block. u32_within 1 1000000000))) (λ n. field l.cost (λ v. n))
    (λ n. field l.cost (λ waits. field l.cost (λ block. field (ranged 4 1 1000000000) (λ bound. n)))) (skip_four 0 1000000001)
    (λ susp. skip_both g.cost (λ waits. both g.cost (λ block. u32_within 1 1000000000)) (λ n. field l.cost (λ v. n)) (λ n. field l.cost (λ block. field (ranged 4 1 1000000000) (λ bound. n))) (skip_four 0 1000000001)
    (λ waits. skip_both g.cost (λ block. u32_within 1 1000000000) (λ n. field l.cost (λ v. n)) (λ n. field (ranged 4 1 1000000000) (λ bound. n)) (skip_four 0 1000000001) (λ block. skip_four 1 1000000000))))

rooms : Skips g.room_format (λ n. field (any 4) (λ words. field (ranged 4 0 4096) (λ stack. field (ranged 4 0 4096) (λ locals. field (any 4) (λ start. n)))))
rooms =
    skip_both u32 (λ words. both (u32_within 0 4096) (λ stack. both (u32_within 0 4096) (λ locals. u32))) (λ n. field (any 4) (λ v. n))
    (λ n. field (ranged 4 0 4096) (λ stack. field (ranged 4 0 4096) (λ locals. field (any 4) (λ start. n)))) skip_any_four
    (λ words. skip_both (u32_within 0 4096) (λ stack. both (u32_within 0 4096) (λ locals. u32)) (λ n. field (ranged 4 0 4096) (λ v. n)) (λ n. field (ranged 4 0 4096) (λ locals. field (any 4) (λ start. n))) (skip_four 0 4096)
    (λ stack. skip_both (u32_within 0 4096) (λ locals. u32) (λ n. field (ranged 4 0 4096) (λ v. n)) (λ n. field (any 4) (λ start. n)) (skip_four 0 4096) (λ locals. skip_any_four)))

handler_takes : (bytes : List ℕ) (z : (ℕ × ℕ) × List ℕ) → (both u32 (λ handler. u16)).read bytes ≡ Ok z → length bytes ≡ 6 + length z.1
handler_takes bytes z is =
    let b = both_read (u32.read bytes) (λ x. u16.read x.1) z is in
    let s = takes_field 4 (from_be_bytes w32) bytes b.x b.first in
    let n = takes_field 2 (from_be_bytes w16) b.x.1 b.y b.second in
    let rest : length b.y.1 ≡ length z.1 = ap (λ (w : (ℕ × ℕ) × List ℕ). length w.1) b.whole in
    omega (arith, s.2, n.2, rest)

a_handler : Reads g.handler_format (λ z. z.1) (λ n. field (any 4) (λ address. field (any 2) (λ numbers. rule (handler (number 4 address) (number 2 numbers)) 6 (n (number 2 numbers)))))
a_handler n bytes =
    rule_reads (both u32 (λ handler. u16)) (λ x. unless (nat_lt 0 x.1 || x.0 == 0) 7) (λ z. (z.0, z.1)) (λ m. field (any 4) (λ address. field (any 2) (λ numbers. m (number 4 address, number 2 numbers))))
    (λ z. handler z.0 z.1) (λ z. 6)
    (both_reads u32 (λ handler. u16) (λ x. x) (λ x. x) (λ m. field (any 4) (λ w. m (number 4 w))) (λ a m. field (any 2) (λ w. m (number 2 w))) any_four (λ a. any_two))
    handler_takes (λ x. refl) (λ z. n z.1) bytes

abbrev l_numbers : ℕ → Layout → Layout
l_numbers count n = many (λ earlier then_next. field (handled earlier) (λ x. then_next (number 2 x))) [] count (λ all. n)

handled_numbers : (count : ℕ) → Skips (g.numbers_format count) (l_numbers count)
handled_numbers count n bytes =
    many_reads (λ earlier. checked u16 (g.wrong_number earlier)) (λ x. x) (λ xs. xs) (λ earlier then_next. field (handled earlier) (λ x. then_next (number 2 x))) (λ xs x. refl)
    (λ earlier. leaf (handled earlier) (from_be_bytes w16) (g.wrong_number earlier) (checked u16 (g.wrong_number earlier)) (λ bytes. refl) (λ v. refl)) count refl (λ all. n) bytes

some_as : {A : Type 0} (r : Read A) (k : Layout) → follow r (λ x rest. walk k rest) ≡ follow (r >>= λ x. Ok (Some x.0, x.1)) (λ x rest. walk k rest)
some_as (Ok x) k = refl
some_as (Err e) k = refl

a_handler_tree : (monitors count : ℕ) → Skips (g.handler_tree_format monitors count) (l.handler_tree monitors count)
a_handler_tree monitors zero k bytes = refl
a_handler_tree monitors (suc n) k bytes = a_tree monitors g.deepest k bytes ∙ some_as ((tree_format (in_image monitors) g.deepest).read bytes) k

module _ (counts : Counts) where
  abbrev behind_numbers : ℕ → Format (Segs × Option Segs)
  behind_numbers count = both (tree_format (in_image counts.monitors) g.deepest) (λ body. g.handler_tree_format counts.monitors count)

  trees : (count : ℕ) → Skips (behind_numbers count) (λ n. l.tree counts.monitors g.deepest (l.handler_tree counts.monitors count n))
  trees count = skip_both (tree_format (in_image counts.monitors) g.deepest) (λ body. g.handler_tree_format counts.monitors count) (l.tree counts.monitors g.deepest) (l.handler_tree counts.monitors count) (a_tree counts.monitors g.deepest) (λ x. a_handler_tree counts.monitors count)

  abbrev behind_handler : ℕ × ℕ → Format (List ℕ × (Segs × Option Segs))
  behind_handler h = both (g.numbers_format h.1) (λ numbers. behind_numbers h.1)

  abbrev l_behind : ℕ → Layout → Layout
  l_behind count n = l_numbers count (l.tree counts.monitors g.deepest (l.handler_tree counts.monitors count n))

  from_numbers : (h : ℕ × ℕ) → Skips (behind_handler h) (l_behind h.1)
  from_numbers h = skip_both (g.numbers_format h.1) (λ numbers. behind_numbers h.1) (l_numbers h.1) (λ n. l.tree counts.monitors g.deepest (l.handler_tree counts.monitors h.1 n)) (handled_numbers h.1) (λ x. trees h.1)

  abbrev l_handler : Layout → Layout
  l_handler n = field (any 4) (λ address. field (any 2) (λ numbers. rule (handler (number 4 address) (number 2 numbers)) 6 (l_behind (number 2 numbers) n)))

  from_handler : Skips (both g.handler_format behind_handler) l_handler
  from_handler = both_skip g.handler_format behind_handler (λ z. z.1) (λ n. field (any 4) (λ address. field (any 2) (λ numbers. rule (handler (number 4 address) (number 2 numbers)) 6 (n (number 2 numbers))))) l_behind a_handler from_numbers

  abbrev l_rooms : Layout → Layout
  l_rooms n = field (any 4) (λ words. field (ranged 4 0 4096) (λ stack. field (ranged 4 0 4096) (λ locals. field (any 4) (λ start. n))))

  from_room : Skips (both g.room_format (λ room. both g.handler_format behind_handler)) (λ n. l_rooms (l_handler n))
  from_room = skip_both g.room_format (λ room. both g.handler_format behind_handler) l_rooms l_handler rooms (λ x. from_handler)

  abbrev from_time_format : Format ((ℕ × (ℕ × (ℕ × (ℕ × ℕ)))) × ((ℕ × (ℕ × (ℕ × ℕ))) × ((ℕ × ℕ) × (List ℕ × (Segs × Option Segs)))))
  from_time_format = both g.time_format (λ time. both g.room_format (λ room. both g.handler_format behind_handler))

  a_room : Skips from_time_format (l.room counts)
  a_room = skip_both g.time_format (λ time. both g.room_format (λ room. both g.handler_format behind_handler))
      (λ n. field l.cost (λ run. field l.cost (λ susp. field l.cost (λ waits. field l.cost (λ block. field (ranged 4 1 1000000000) (λ bound. n)))))) (λ n. l_rooms (l_handler n)) times (λ x. from_room)

  -- ---- a process

  seen_as : {A B : Type 0} (to : A → B) (r : Read A) (h : B → List ℕ → Option ByteFault) → follow r (λ x rest. h (to x) rest) ≡ follow (r >>= λ x. Ok (to x.0, x.1)) h
  seen_as to (Ok x) h = refl
  seen_as to (Err e) h = refl

  has_is : (p : Process) → l.has_event p.kind p.event ≡ g.event_of p
  has_is p = refl

  a_process : (v : Version) (used : List ℕ) → Reads (g.process_format v counts used) g.event_of (λ n. l.release v counts.events used (λ e. l.room counts (n e)))
  a_process v used n bytes =
      both_first (g.release_format v counts.events used) (λ release. from_time_format) (λ z. l.has_event z.0 z.1.1.1.1.0) (l.release v counts.events used) (λ e m. l.room counts m) (a_release v counts.events used) (λ x. a_room) n bytes
      ∙ seen_as _ ((both (g.release_format v counts.events used) (λ release. from_time_format)).read bytes) (λ p rest. walk (n (g.event_of p)) rest)

-- what is told of a process
abbrev told : List ℕ × Process → List ℕ × List ℕ
told p = (p.0, g.event_of p.1)

abbrev first_of : List ℕ × Process → List ℕ
first_of p = p.0

abbrev first_told : List ℕ × List ℕ → List ℕ
first_told p = p.0

abbrev second_told : List ℕ × List ℕ → List ℕ
second_told p = p.1

names_of : (xs : List (List ℕ × Process)) → map first_told (map told xs) ≡ map first_of xs
names_of [] = refl
names_of (x ∷ xs) = ap (λ (ys : List (List ℕ)). x.0 ∷ ys) (names_of xs)

used_are : (xs : List (List ℕ × Process)) → flat_map second_told (map told xs) ≡ f.used_by xs
used_are [] = refl
used_are (x ∷ xs) = ap (λ (ys : List ℕ). g.event_of x.1 ++ ys) (used_are xs)

pub grows : {A B : Type 0} (t : A → B) (xs : List A) (x : A) → map t (xs ++ x ∷ []) ≡ map t xs ++ t x ∷ []
grows t [] x = refl
grows t (y ∷ ys) x = ap (λ zs. t y ∷ zs) (grows t ys x)

module _ (v : Version) (counts : Counts) (taken : List (List ℕ)) where
  abbrev one_process : List (List ℕ × List ℕ) → (List ℕ × List ℕ → Layout) → Layout
  one_process earlier next = l.process v counts earlier taken next

  a_named : (names : List (List ℕ)) (used : List ℕ) → Reads {B = List ℕ × List ℕ} (g.named_process_format v counts names used) told (λ next. l.name names (λ x. l.release v counts.events used (λ e. l.room counts (next (x, e)))))
  a_named names used =
      both_reads (g.name_format names) (λ name. g.process_format v counts used) (λ x. x) g.event_of (l.name names) (λ x n. l.release v counts.events used (λ e. l.room counts (n e))) (a_name names) (λ x. a_process counts v used)

  named : (earlier : List (List ℕ × Process)) → Reads (g.named_process_format v counts (taken ++ map first_of earlier) (f.used_by earlier)) told (one_process (map told earlier))
  named earlier k bytes =
      ap (λ (ns : List (List ℕ)). walk (l.name (taken ++ ns) (λ x. l.release v counts.events (flat_map second_told (map told earlier)) (λ e. l.room counts (k (x, e))))) bytes) (names_of earlier)
      ∙ (ap (λ (us : List ℕ). walk (l.name (taken ++ map first_of earlier) (λ x. l.release v counts.events us (λ e. l.room counts (k (x, e))))) bytes) (used_are earlier)
      ∙ a_named (taken ++ map first_of earlier) (f.used_by earlier) k bytes)

  pub processes : Reads (f.processes_format v counts taken) (λ xs. map told xs) (λ k. many one_process [] counts.processes k)
  processes =
      many_reads (λ earlier. g.named_process_format v counts (taken ++ map first_of earlier) (f.used_by earlier)) told (λ xs. map told xs) one_process (grows told) named counts.processes refl

-- ---- code

an_operand : (b : Bool) → Skips (g.operand b) (λ k. field (l.operand b) (λ v. k))
an_operand true = skip (any 4) (λ bytes. cast_signed w32 (from_be_bytes w32 bytes)) (λ z. unless (true || int_eq z (pos 0)) 7) (g.operand true) (λ bytes. refl) (λ v. refl)
an_operand false = skip no_operand (λ bytes. cast_signed w32 (from_be_bytes w32 bytes)) (λ z. unless (false || int_eq z (pos 0)) 7) (g.operand false) (λ bytes. refl) (λ v. refl)

abbrev operands_behind : ℕ → Format (ℤ × (ℤ × ℤ))
operands_behind n = both (g.operand (nat_le 1 (arity n))) (λ a. both (g.operand (nat_le 2 (arity n))) (λ b. g.operand (nat_le 3 (arity n))))

abbrev l_operands : ℕ → Layout → Layout
l_operands n k = field (l.operand (nat_le 1 (arity n))) (λ a. field (l.operand (nat_le 2 (arity n))) (λ b. field (l.operand (nat_le 3 (arity n))) (λ c. k)))

operands : (n : ℕ) → Skips (operands_behind n) (l_operands n)
operands n =
    skip_both (g.operand (nat_le 1 (arity n))) (λ a. both (g.operand (nat_le 2 (arity n))) (λ b. g.operand (nat_le 3 (arity n)))) (λ k. field (l.operand (nat_le 1 (arity n))) (λ v. k))
    (λ k. field (l.operand (nat_le 2 (arity n))) (λ b. field (l.operand (nat_le 3 (arity n))) (λ c. k))) (an_operand (nat_le 1 (arity n)))
    (λ a. skip_both (g.operand (nat_le 2 (arity n))) (λ b. g.operand (nat_le 3 (arity n))) (λ k. field (l.operand (nat_le 2 (arity n))) (λ v. k)) (λ k. field (l.operand (nat_le 3 (arity n))) (λ v. k))
    (an_operand (nat_le 2 (arity n))) (λ b. an_operand (nat_le 3 (arity n))))

an_opcode : Reads (checked u8 (λ n. unless (nat_le 1 n && nat_le n 48) 6)) (λ x. x) (λ k. field (tag 48) (λ v. k (number 1 v)))
an_opcode = leaf (tag 48) (λ bytes. slice_index bytes 0) (λ n. unless (nat_le 1 n && nat_le n 48) 6) (checked u8 (λ n. unless (nat_le 1 n && nat_le n 48) 6)) (λ bytes. refl) (λ v. refl)

an_instruction : Skips g.instr_format l.instruction
an_instruction k bytes =
    both_skip (checked u8 (λ n. unless (nat_le 1 n && nat_le n 48) 6)) operands_behind (λ x. x) (λ m. field (tag 48) (λ v. m (number 1 v))) l_operands an_opcode operands k bytes
    ∙ viewed _ (g.fields_format.read bytes)
  where
    viewed : {A B : Type 0} (to : A → B) (r : Read A) → follow r (λ x rest. walk k rest) ≡ follow (r >>= λ x. Ok (to x.0, x.1)) (λ x rest. walk k rest)
    viewed to (Ok x) = refl
    viewed to (Err e) = refl

-- ---- up to the end

-- with nothing behind
abbrev pub Ends : {A : Type 0} → Format A → Layout → Type 0
Ends form layout = (bytes : List ℕ) → walk layout bytes ≡ follow (form.read bytes) (λ x rest. walk l.done rest)

pub reads_end : {A B C : Type 0} (f : Format A) (g : A → Format B) (t : A → C) (lf : (C → Layout) → Layout) (m : C → Layout) → Reads f t lf → ((x : A) → Ends (g x) (m (t x))) → Ends (both f g) (lf m)
reads_end f g t lf m first second bytes = first m bytes ∙ (same_after (f.read bytes) _ _ (λ x rest. second x rest) ∙ sym (both_as f g bytes (λ z more. walk l.done more)))

pub skips_end : {A B : Type 0} (f : Format A) (g : A → Format B) (lf : Layout → Layout) (m : Layout) → Skips f lf → ((x : A) → Ends (g x) m) → Ends (both f g) (lf m)
skips_end f g lf m first second bytes = first m bytes ∙ (same_after (f.read bytes) _ _ (λ x rest. second x rest) ∙ sym (both_as f g bytes (λ z more. walk l.done more)))

pub view_end : {A B : Type 0} (to : A → B) (r : Read A) → follow r (λ x rest. walk l.done rest) ≡ follow (r >>= λ x. Ok (to x.0, x.1)) (λ x rest. walk l.done rest)
view_end to (Ok x) = refl
view_end to (Err e) = refl

some_code : (b : Bool) (count : ℕ) → Ends (f.code_format b count) (l.code b count)
some_code true count bytes = repeat_skips (λ earlier. g.instr_format) l.instruction (λ earlier. an_instruction) count l.done bytes
some_code false count bytes = refl

module _ (v : Version) (counts : Counts) where
  pub work : (taken : List (List ℕ)) → Ends (f.work_format v counts taken) (l.work v counts taken)
  work taken =
      skips_end (f.routines_format counts) (λ routines. both (f.processes_format v counts taken) (λ ps. f.code_format (f.all_used (f.used_by ps) 0 counts.events) counts.code)) (repeated (l.routine counts) counts.routines)
      (many (one_process v counts taken) [] counts.processes behind) (repeat_skips (λ earlier. g.routine_format counts) (l.routine counts) (λ earlier. a_routine counts) counts.routines)
      (λ routines. reads_end (f.processes_format v counts taken) (λ ps. f.code_format (f.all_used (f.used_by ps) 0 counts.events) counts.code) (λ xs. map told xs) (λ k. many (one_process v counts taken) [] counts.processes k)
      behind (processes v counts taken) code_behind)
    where
      behind : List (List ℕ × List ℕ) → Layout
      behind all = l.code (f.all_used (flat_map second_told all) 0 counts.events) counts.code

      code_behind : (ps : List (List ℕ × Process)) → Ends (f.code_format (f.all_used (f.used_by ps) 0 counts.events) counts.code) (behind (map told ps))
      code_behind ps bytes =
          ap (λ (us : List ℕ). walk (l.code (f.all_used us 0 counts.events) counts.code) bytes) (used_are ps) ∙ some_code (f.all_used (f.used_by ps) 0 counts.events) counts.code bytes
