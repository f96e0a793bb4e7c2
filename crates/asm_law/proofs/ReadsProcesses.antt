-- The lines of processes.
use Rattle.std.proofs.Common.{◌≡◌, ◌≤◌, ◌<◌, ◌^◌, ◌&&◌, ◌||◌, ◌==◌, ◌++◌, ℕ, zero, suc, Bool, true, List, [], ◌∷◌, length, Ok, Option, None, Some, decimal, refl, ap, ◌∙◌, subst, arith, length-append}
use Rattle.std.specs.Prelude.{not, nat_lt, nat_le, nat_eq, codes}
use Rattle.std.specs.List.{list_any}
use Rattle.std.proofs.lemmas.Bool.{and_parts, lt-ltb, ltb-true, leb-true, eqb-true}
use Rattle.machine_semantics.specs.Image.{Process}
use Rattle.machine_semantics.specs.Trees.{Segs}
use Rattle.image.specs.Bytes.{Second}
use Rattle.image_reader.specs.declared.counts.Counts.{Counts}
use Rattle.image_format.specs.Format.{u8, u16, u32, unless, is_fine, checked, each_is}
use Rattle.image_format.specs.TreeFormat.{in_image, u32_within, tree_format}
use Rattle.image_reader.specs.Grammar.{cost, name_format, release_format, time_format, room_format, handler_format, numbers_format, handler_tree_format, process_format, named_process_format, wrong_first, wrong_event, wrong_number, is_above, is_taken}
use Rattle.asm_format.specs.Text.{release_text, time_text, room_text, numbers_text, handler_text, handler_line, process_lines}
use Rattle.asm_format.specs.TreeText.{tree_line}
use Rattle.text_fields.specs.Front.{line_start}
use Rattle.text_fields.specs.LineFields.{is_digit}
use Rattle.asm_lines.specs.Names.{is_in_word}
use Rattle.asm_lines.specs.Processes.{periodic_frame_read, is_free, release_read, time_read, room_read, taken_read, more_read, numbers_read, handler_read, handler_tree_read, fields_read, process_line_read, process_read}
use Rattle.asm_law.proofs.Pieces.{field_then, fields_3, fields_4, fields_6, pieces_8}
use Rattle.asm_law.proofs.ReadsNumbers.{place, Stops, begins_self, begins_not, ends, field_reads}
use Rattle.asm_law.proofs.ReadsNames.{IsName, in_u32, is_name, named_reads}
use Rattle.asm_law.proofs.ReadsTrees.{tree_line_reads}
use Rattle.image_reader_law.proofs.ImageFaultsFields.{fine_is}

-- ---- what the format says of a process

pub record IsReleased (events : ℕ) (used : List ℕ) (p : Process) : Type 0 where
  pub kind : p.kind ≤ 1
  pub frame : (10 ≤ p.frame) × (p.frame ≤ 1000000000)
  pub deadline : (10 ≤ p.deadline) × (p.deadline ≤ p.frame)
  pub first : p.first ≤ 1000000000
  pub no_first : is_fine (wrong_first p.kind p.first) ≡ true
  pub event : p.event < 2 ^ 16
  pub its_event : is_fine (wrong_event events used p.kind p.event) ≡ true
  pub rank : p.rank < 2 ^ 16

pub record IsTimed (p : Process) : Type 0 where
  pub run : p.run ≤ 1000000001
  pub susp : p.susp ≤ 1000000001
  pub waits : p.waits ≤ 1000000001
  pub block : p.block ≤ 1000000001
  pub bound : (1 ≤ p.bound) × (p.bound ≤ 1000000000)

pub record HasRoom (p : Process) : Type 0 where
  pub words : p.words < 2 ^ 32
  pub stack : p.stack ≤ 4096
  pub locals : p.locals ≤ 4096
  pub start : p.start < 2 ^ 32

pub record IsHandled (monitors : ℕ) (p : Process) : Type 0 where
  pub handler : p.handler < 2 ^ 32
  pub no_handler : is_fine (unless (nat_lt 0 (length p.numbers) || p.handler == 0) 7) ≡ true
  pub numbers : (numbers_format (length p.numbers)).is p.numbers ≡ true
  pub tree : (handler_tree_format monitors (length p.numbers)).is p.handler_tree ≡ true

pub record IsProcess (counts : Counts) (used : List ℕ) (p : Process) : Type 0 where
  pub release : IsReleased counts.events used p
  pub time : IsTimed p
  pub room : HasRoom p
  pub handler : IsHandled counts.monitors p
  pub body : (tree_format (in_image counts.monitors) 130).is p.body ≡ true

abbrev kind_is : ℕ → Bool
kind_is kind = (checked u8 (λ n. unless (nat_le n 1) 6)).is kind

abbrev first_is : ℕ → ℕ → Bool
first_is kind first = (checked (u32_within 0 1000000000) (wrong_first kind)).is first

abbrev event_is : ℕ → List ℕ → ℕ → ℕ → Bool
event_is events used kind event = (checked u16 (wrong_event events used kind)).is event

released : (events : ℕ) (used : List ℕ) (p : Process) → (release_format Second events used).is (p.kind, (p.frame, (p.deadline, (p.first, (p.event, p.rank))))) ≡ true → IsReleased events used p
released events used p h =
    let from_event = event_is events used p.kind p.event && u16.is p.rank in
    let from_first = first_is p.kind p.first && from_event in
    let from_deadline = (u32_within 10 p.frame).is p.deadline && from_first in
    let from_frame = (u32_within 10 1000000000).is p.frame && from_deadline in
    let kind = and_parts (kind_is p.kind) from_frame h in
    let frame = and_parts ((u32_within 10 1000000000).is p.frame) from_deadline kind.1 in
    let deadline = and_parts ((u32_within 10 p.frame).is p.deadline) from_first frame.1 in
    let first = and_parts (first_is p.kind p.first) from_event deadline.1 in
    let own_first = and_parts ((u32_within 0 1000000000).is p.first) (is_fine (wrong_first p.kind p.first)) first.0 in
    let event = and_parts (event_is events used p.kind p.event) (u16.is p.rank) first.1 in
    let own_event = and_parts (u16.is p.event) (is_fine (wrong_event events used p.kind p.event)) event.0 in
    record {
      kind = leb-true p.kind 1 (fine_is (nat_le p.kind 1) 6 (and_parts (nat_lt p.kind 256) (is_fine (unless (nat_le p.kind 1) 6)) kind.0).1);
      frame = in_u32 10 1000000000 p.frame frame.0;
      deadline = in_u32 10 p.frame p.deadline deadline.0;
      first = (in_u32 0 1000000000 p.first own_first.0).1;
      no_first = own_first.1;
      event = ltb-true p.event (2 ^ 16) own_event.0;
      its_event = own_event.1;
      rank = ltb-true p.rank (2 ^ 16) event.1;
    }

timed : (p : Process) → time_format.is (p.run, (p.susp, (p.waits, (p.block, p.bound)))) ≡ true → IsTimed p
timed p h =
    let bound_is = (u32_within 1 1000000000).is p.bound in
    let run = and_parts (cost.is p.run) (cost.is p.susp && (cost.is p.waits && (cost.is p.block && bound_is))) h in
    let susp = and_parts (cost.is p.susp) (cost.is p.waits && (cost.is p.block && bound_is)) run.1 in
    let waits = and_parts (cost.is p.waits) (cost.is p.block && bound_is) susp.1 in
    let block = and_parts (cost.is p.block) bound_is waits.1 in
    record {
      run = (in_u32 0 1000000001 p.run run.0).1;
      susp = (in_u32 0 1000000001 p.susp susp.0).1;
      waits = (in_u32 0 1000000001 p.waits waits.0).1;
      block = (in_u32 0 1000000001 p.block block.0).1;
      bound = in_u32 1 1000000000 p.bound block.1;
    }

has_room : (p : Process) → room_format.is (p.words, (p.stack, (p.locals, p.start))) ≡ true → HasRoom p
has_room p h =
    let stack_is = (u32_within 0 4096).is p.stack in
    let locals_is = (u32_within 0 4096).is p.locals in
    let words = and_parts (u32.is p.words) (stack_is && (locals_is && u32.is p.start)) h in
    let stack = and_parts stack_is (locals_is && u32.is p.start) words.1 in
    let locals = and_parts locals_is (u32.is p.start) stack.1 in
    record { words = ltb-true p.words (2 ^ 32) words.0; stack = (in_u32 0 4096 p.stack stack.0).1; locals = (in_u32 0 4096 p.locals locals.0).1; start = ltb-true p.start (2 ^ 32) locals.1 }

pub process_is : (counts : Counts) (used : List ℕ) (p : Process) → (process_format Second counts used).is p ≡ true → IsProcess counts used p
process_is counts used p h =
    let handler_is = handler_format.is (p.handler, length p.numbers) in
    let numbers_are = (numbers_format (length p.numbers)).is p.numbers in
    let body_is = (tree_format (in_image counts.monitors) 130).is p.body in
    let tree_is = (handler_tree_format counts.monitors (length p.numbers)).is p.handler_tree in
    let time_is = time_format.is (p.run, (p.susp, (p.waits, (p.block, p.bound)))) in
    let room_is = room_format.is (p.words, (p.stack, (p.locals, p.start))) in
    let from_handler = handler_is && (numbers_are && (body_is && tree_is)) in
    let release = and_parts ((release_format Second counts.events used).is (p.kind, (p.frame, (p.deadline, (p.first, (p.event, p.rank)))))) (time_is && (room_is && from_handler)) h in
    let time = and_parts time_is (room_is && from_handler) release.1 in
    let room = and_parts room_is from_handler time.1 in
    let handler = and_parts handler_is (numbers_are && (body_is && tree_is)) room.1 in
    let own = and_parts (u32.is p.handler && u16.is (length p.numbers)) (is_fine (unless (nat_lt 0 (length p.numbers) || p.handler == 0) 7)) handler.0 in
    let numbers = and_parts numbers_are (body_is && tree_is) handler.1 in
    let body = and_parts body_is tree_is numbers.1 in
    record {
      release = released counts.events used p release.0;
      time = timed p time.0;
      room = has_room p room.0;
      handler = record { handler = ltb-true p.handler (2 ^ 32) (and_parts (u32.is p.handler) (u16.is (length p.numbers)) own.0).0; no_handler = own.1; numbers = numbers.0; tree = body.1 };
      body = body.0;
    }

-- ---- release

abbrev release_of : Process → ℕ × (ℕ × (ℕ × (ℕ × ℕ)))
release_of p = (p.kind, (p.frame, (p.deadline, (p.first, p.event))))

release_reads : (events : ℕ) (used : List ℕ) (p : Process) (start : ℕ) (rest : List ℕ) → IsReleased events used p → Stops is_digit rest
    → release_read events used (place start (release_text p p.kind ++ rest)) ≡ Ok (release_of p, place start rest)
unfolding release_read periodic_frame_read
release_reads events used p start rest is stops = by p.kind is.kind is.no_first is.its_event where
  by : (kind : ℕ) → kind ≤ 1 → is_fine (wrong_first kind p.first) ≡ true → is_fine (wrong_event events used kind p.event) ≡ true
      → release_read events used (place start (release_text p kind ++ rest)) ≡ Ok ((kind, (p.frame, (p.deadline, (p.first, p.event)))), place start rest)
  by zero low no_first its_event =
      let none : p.event ≡ 0 = eqb-true p.event 0 (fine_is (p.event == 0) 7 its_event) in
      let at_first = codes " first " ++ (decimal p.first ++ rest) in
      let at_deadline = codes " deadline " ++ (decimal p.deadline ++ at_first) in
      let text = codes " periodic frame " ++ (decimal p.frame ++ at_deadline) in
      let same : release_text p 0 ++ rest ≡ text = fields_3 (codes " periodic frame ") (decimal p.frame) (codes " deadline ") (decimal p.deadline) (codes " first ") (decimal p.first) rest in
      ap (λ t. release_read events used (place start t)) same
      ∙ rw (
        begins_not (codes " event ") text refl,
        field_reads (codes " periodic frame ") 10 1000000000 p.frame start at_deadline is.frame.0 is.frame.1 (omega arith) refl,
        field_reads (codes " deadline ") 10 p.frame p.deadline start at_first is.deadline.0 is.deadline.1 (omega (arith, is.frame.1)) refl,
        field_reads (codes " first ") 0 1000000000 p.first start rest (omega arith) is.first (omega arith) stops,
        none,
      ) refl
  by (suc zero) low no_first its_event =
      let none : p.first ≡ 0 = eqb-true p.first 0 (fine_is (p.first == 0) 7 no_first) in
      let free : is_free events used p.event ≡ true = fine_is (nat_lt p.event events && not (list_any (λ e. nat_eq e p.event) used)) 4 its_event in
      let at_deadline = codes " deadline " ++ (decimal p.deadline ++ rest) in
      let at_frame = codes " frame " ++ (decimal p.frame ++ at_deadline) in
      let at_event = decimal p.event ++ at_frame in
      let text = codes " event " ++ at_event in
      let same : release_text p 1 ++ rest ≡ text = fields_3 (codes " event ") (decimal p.event) (codes " frame ") (decimal p.frame) (codes " deadline ") (decimal p.deadline) rest in
      ap (λ t. release_read events used (place start t)) same
      ∙ rw (
        begins_self (codes " event ") at_event,
        field_reads (codes " event ") 0 65535 p.event start at_frame (omega arith) (omega (arith, is.event)) (omega arith) refl,
        free,
        field_reads (codes " frame ") 10 1000000000 p.frame start at_deadline is.frame.0 is.frame.1 (omega arith) refl,
        field_reads (codes " deadline ") 10 p.frame p.deadline start rest is.deadline.0 is.deadline.1 (omega (arith, is.frame.1)) stops,
        none,
      ) refl
  by (suc (suc kind)) low no_first its_event = absurd (omega (arith, low))

release_stops : (p : Process) (kind : ℕ) (rest : List ℕ) → Stops is_in_word (release_text p kind ++ rest)
release_stops p zero rest = refl
release_stops p (suc kind) rest = refl

-- ---- time and room

abbrev time_of : Process → ℕ × (ℕ × (ℕ × (ℕ × (ℕ × ℕ))))
time_of p = (p.rank, (p.run, (p.susp, (p.waits, (p.block, p.bound)))))

time_reads : (p : Process) (start : ℕ) (rest : List ℕ) → p.rank < 2 ^ 16 → IsTimed p → Stops is_digit rest → time_read (place start (time_text p ++ rest)) ≡ Ok (time_of p, place start rest)
unfolding time_read
time_reads p start rest low is stops =
    let at_bound = codes " bound " ++ (decimal p.bound ++ rest) in
    let at_block = codes " block " ++ (decimal p.block ++ at_bound) in
    let at_waits = codes " waits " ++ (decimal p.waits ++ at_block) in
    let at_susp = codes " suspend " ++ (decimal p.susp ++ at_waits) in
    let at_run = codes " run " ++ (decimal p.run ++ at_susp) in
    let text = codes " rank " ++ (decimal p.rank ++ at_run) in
    let same : time_text p ++ rest ≡ text =
    fields_6 (codes " rank ") (decimal p.rank) (codes " run ") (decimal p.run) (codes " suspend ") (decimal p.susp) (codes " waits ") (decimal p.waits) (codes " block ") (decimal p.block) (codes " bound ") (decimal p.bound) rest in
    ap (λ t. time_read (place start t)) same
    ∙ rw (
      field_reads (codes " rank ") 0 65535 p.rank start at_run (omega arith) (omega (arith, low)) (omega arith) refl,
      field_reads (codes " run ") 0 1000000001 p.run start at_susp (omega arith) is.run (omega arith) refl,
      field_reads (codes " suspend ") 0 1000000001 p.susp start at_waits (omega arith) is.susp (omega arith) refl,
      field_reads (codes " waits ") 0 1000000001 p.waits start at_block (omega arith) is.waits (omega arith) refl,
      field_reads (codes " block ") 0 1000000001 p.block start at_bound (omega arith) is.block (omega arith) refl,
      field_reads (codes " bound ") 1 1000000000 p.bound start rest is.bound.0 is.bound.1 (omega arith) stops,
    ) refl

abbrev room_of : Process → ℕ × (ℕ × (ℕ × ℕ))
room_of p = (p.words, (p.stack, (p.locals, p.start)))

room_reads : (p : Process) (start : ℕ) (rest : List ℕ) → HasRoom p → Stops is_digit rest → room_read (place start (room_text p ++ rest)) ≡ Ok (room_of p, place start rest)
unfolding room_read
room_reads p start rest is stops =
    let at_start = codes " start " ++ (decimal p.start ++ rest) in
    let at_locals = codes " locals " ++ (decimal p.locals ++ at_start) in
    let at_stack = codes " stack " ++ (decimal p.stack ++ at_locals) in
    let text = codes " data " ++ (decimal p.words ++ at_stack) in
    let same : room_text p ++ rest ≡ text = fields_4 (codes " data ") (decimal p.words) (codes " stack ") (decimal p.stack) (codes " locals ") (decimal p.locals) (codes " start ") (decimal p.start) rest in
    ap (λ t. room_read (place start t)) same
    ∙ rw (
      field_reads (codes " data ") 0 4294967295 p.words start at_stack (omega arith) (omega (arith, is.words)) (omega arith) refl,
      field_reads (codes " stack ") 0 4096 p.stack start at_locals (omega arith) is.stack (omega arith) refl,
      field_reads (codes " locals ") 0 4096 p.locals start at_start (omega arith) is.locals (omega arith) refl,
      field_reads (codes " start ") 0 4294967295 p.start start rest (omega arith) (omega (arith, is.start)) (omega arith) stops,
    ) refl

-- ---- the handler

-- the last of the numbers before
abbrev last_of : List ℕ → ℕ
last_of [] = 0
last_of (n ∷ []) = n
last_of (n ∷ m ∷ ns) = last_of (m ∷ ns)

above_last : (earlier : List ℕ) (n : ℕ) → is_above earlier n ≡ true → is_taken n ≡ true → nat_lt (last_of earlier) n ≡ true
above_last [] n above taken = some n taken where
  some : (n : ℕ) → is_taken n ≡ true → nat_lt 0 n ≡ true
  some zero taken = absurd cc
  some (suc n) taken = lt-ltb 0 (suc n) (omega arith)
above_last (x ∷ []) n above taken = above
above_last (x ∷ y ∷ ys) n above taken = above_last (y ∷ ys) n above taken

last_pushed : (earlier : List ℕ) (n : ℕ) → last_of (earlier ++ n ∷ []) ≡ n
last_pushed [] n = refl
last_pushed (x ∷ []) n = refl
last_pushed (x ∷ y ∷ ys) n = last_pushed (y ∷ ys) n

numbers_stop : (numbers rest : List ℕ) → Stops is_digit (numbers_text numbers ++ rest)
numbers_stop [] rest = refl
numbers_stop (n ∷ ns) rest = refl

taken_reads : (last n start : ℕ) (rest : List ℕ) → n < 2 ^ 16 → nat_lt last n ≡ true → is_taken n ≡ true → Stops is_digit rest → taken_read last (place start (codes " " ++ (decimal n ++ rest))) ≡ Ok (n, place start rest)
unfolding taken_read
taken_reads last n start rest low above taken stops = rw (field_reads (codes " ") 0 65535 n start rest (omega arith) (omega (arith, low)) (omega arith) stops, above, taken) refl

more_reads : (earlier numbers : List ℕ) (count most start : ℕ) (rest : List ℕ) → each_is (λ earlier. checked u16 (wrong_number earlier)) earlier count numbers ≡ true → length numbers < most
    → more_read most (last_of earlier) (place start (numbers_text numbers ++ rest)) ≡ Ok (numbers, place start (codes "\n" ++ rest))
unfolding more_read
more_reads earlier numbers count zero start rest h few = absurd (omega (arith, few))
more_reads earlier [] count (suc most) start rest h few = rw (begins_self (codes "\n") rest) refl
more_reads earlier (n ∷ ns) zero (suc most) start rest h few = absurd cc
more_reads earlier (n ∷ ns) (suc count) (suc most) start rest h few =
    let p = and_parts ((checked u16 (wrong_number earlier)).is n) (each_is (λ earlier. checked u16 (wrong_number earlier)) (earlier ++ n ∷ []) count ns) h in
    let own = and_parts (nat_lt n (2 ^ 16)) (is_fine (wrong_number earlier n)) p.0 in
    let rules = and_parts (is_above earlier n) (is_taken n) (fine_is (is_above earlier n && is_taken n) 8 own.1) in
    let after = numbers_text ns ++ rest in
    let text = codes " " ++ (decimal n ++ after) in
    let same : numbers_text (n ∷ ns) ++ rest ≡ text = field_then (codes " ") (decimal n) (numbers_text ns) rest in
    let more : more_read most n (place start after) ≡ Ok (ns, place start (codes "\n" ++ rest)) =
    subst (λ (last : ℕ). more_read most last (place start after) ≡ Ok (ns, place start (codes "\n" ++ rest))) (last_pushed earlier n) (more_reads (earlier ++ n ∷ []) ns count most start rest p.1 (omega (arith, few))) in
    ap (λ t. more_read (suc most) (last_of earlier) (place start t)) same
    ∙ rw (begins_not (codes "\n") text refl, taken_reads (last_of earlier) n start after (ltb-true n (2 ^ 16) own.0) (above_last earlier n rules.0 rules.1) rules.1 (numbers_stop ns rest), more) refl

-- a number has bytes, so a line has no more of them than bytes
numbers_long : (numbers rest : List ℕ) → length numbers < length (numbers_text numbers ++ rest)
numbers_long [] rest = omega arith
numbers_long (n ∷ ns) rest =
    let more = numbers_long ns rest in
    omega (arith, more, length-append (decimal n ++ numbers_text ns) rest, length-append (decimal n) (numbers_text ns), length-append (numbers_text ns) rest)

handler_reads : (handler : ℕ) (numbers : List ℕ) (start : ℕ) (rest : List ℕ) → handler < 2 ^ 32 → is_fine (unless (nat_lt 0 (length numbers) || handler == 0) 7) ≡ true → (numbers_format (length numbers)).is numbers ≡ true
    → handler_read (place start (handler_text handler numbers ++ rest)) ≡ Ok ((handler, numbers), place start (codes "\n" ++ rest))
unfolding handler_read numbers_read
handler_reads handler [] start rest low no_handler numbers_are =
    let none : handler ≡ 0 = eqb-true handler 0 (fine_is (handler == 0) 7 no_handler) in
    rw (begins_self (codes "\n") rest, none) refl
handler_reads handler (n ∷ ns) start rest low no_handler numbers_are =
    let after = numbers_text (n ∷ ns) ++ rest in
    let text = codes " handler " ++ (decimal handler ++ after) in
    let same : handler_text handler (n ∷ ns) ++ rest ≡ text = field_then (codes " handler ") (decimal handler) (numbers_text (n ∷ ns)) rest in
    ap (λ t. handler_read (place start t)) same
    ∙ rw (
      begins_not (codes "\n") text refl,
      field_reads (codes " handler ") 0 4294967295 handler start after (omega arith) (omega (arith, low)) (omega arith) refl,
      begins_not (codes "\n") after refl,
      more_reads [] (n ∷ ns) (length (n ∷ ns)) (length after) start rest numbers_are (numbers_long (n ∷ ns) rest),
    ) refl

handler_stops : (handler : ℕ) (numbers rest : List ℕ) → Stops is_digit (handler_text handler numbers ++ rest)
handler_stops handler [] rest = refl
handler_stops handler (n ∷ ns) rest = refl

handler_tree_reads : (monitors : ℕ) (numbers : List ℕ) (tree : Option Segs) (rest : List ℕ) → (handler_tree_format monitors (length numbers)).is tree ≡ true
    → handler_tree_read monitors numbers (line_start (handler_line numbers tree ++ rest)) ≡ Ok (tree, line_start rest)
unfolding handler_tree_read
handler_tree_reads monitors [] None rest h = refl
handler_tree_reads monitors [] (Some tree) rest h = absurd cc
handler_tree_reads monitors (n ∷ ns) None rest h = absurd cc
handler_tree_reads monitors (n ∷ ns) (Some tree) rest h = rw (tree_line_reads monitors tree rest h) refl

-- ---- the line

abbrev told : Process → (ℕ × (ℕ × (ℕ × (ℕ × ℕ)))) × ((ℕ × (ℕ × (ℕ × (ℕ × (ℕ × ℕ))))) × ((ℕ × (ℕ × (ℕ × ℕ))) × (ℕ × List ℕ)))
told p = (release_of p, (time_of p, (room_of p, (p.handler, p.numbers))))

abbrev fields_text : Process → List ℕ → List ℕ
fields_text p rest = release_text p p.kind ++ (time_text p ++ (room_text p ++ (handler_text p.handler p.numbers ++ rest)))

fields_are_read : (counts : Counts) (used : List ℕ) (p : Process) (start : ℕ) (rest : List ℕ) → IsProcess counts used p → fields_read counts.events used (place start (fields_text p rest)) ≡ Ok (told p, line_start rest)
unfolding fields_read
fields_are_read counts used p start rest is =
    let at_handler = handler_text p.handler p.numbers ++ rest in
    let at_room = room_text p ++ at_handler in
    let at_time = time_text p ++ at_room in
    rw (
      release_reads counts.events used p start at_time is.release refl,
      time_reads p start at_room is.release.rank is.time refl,
      room_reads p start at_handler is.room (handler_stops p.handler p.numbers rest),
      handler_reads p.handler p.numbers start rest is.handler.handler is.handler.no_handler is.handler.numbers,
      ends start rest,
    ) refl

line_reads : (counts : Counts) (taken : List (List ℕ)) (used : List ℕ) (name : List ℕ) (p : Process) (rest : List ℕ) → IsName taken name → IsProcess counts used p
    → process_line_read counts.events taken used (line_start (codes "process " ++ (name ++ fields_text p rest))) ≡ Ok ((name, told p), line_start rest)
unfolding process_line_read
line_reads counts taken used name p rest named is =
    let after = fields_text p rest in
    let text = codes "process " ++ (name ++ after) in
    rw (named_reads (codes "process ") taken name (length text) after named (release_stops p p.kind (time_text p ++ (room_text p ++ (handler_text p.handler p.numbers ++ rest)))), fields_are_read counts used p (length text) rest is) refl

pub process_reads : (counts : Counts) (taken : List (List ℕ)) (used : List ℕ) (x : List ℕ × Process) (rest : List ℕ) → (named_process_format Second counts taken used).is x ≡ true
    → process_read counts.monitors counts.events taken used (line_start (process_lines x.0 x.1 ++ rest)) ≡ Ok (x, line_start rest)
unfolding process_read
process_reads counts taken used x rest h =
    let p = x.1 in
    let q = and_parts ((name_format taken).is x.0) ((process_format Second counts used).is p) h in
    let is = process_is counts used p q.1 in
    let at_handler = handler_line p.numbers p.handler_tree ++ rest in
    let at_tree = tree_line p.body ++ at_handler in
    let text = codes "process " ++ (x.0 ++ fields_text p at_tree) in
    let same : process_lines x.0 p ++ rest ≡ text =
    pieces_8 (codes "process ") x.0 (release_text p p.kind) (time_text p) (room_text p) (handler_text p.handler p.numbers) (tree_line p.body) (handler_line p.numbers p.handler_tree) rest in
    ap (λ t. process_read counts.monitors counts.events taken used (line_start t)) same
    ∙ rw (line_reads counts taken used x.0 p at_tree (is_name taken x.0 q.0) is, tree_line_reads counts.monitors p.body at_handler is.body, handler_tree_reads counts.monitors p.numbers p.handler_tree rest is.handler.tree) refl
