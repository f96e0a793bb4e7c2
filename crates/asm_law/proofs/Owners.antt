-- How many lines of a text begin with "process ".
use Rattle.std.proofs.Common.{◌≡◌, ◌≤◌, ◌<◌, ◌+◌, ◌^◌, ◌&&◌, ◌==◌, ◌++◌, ℕ, zero, suc, ℤ, pos, negsuc, Bool, true, false, List, [], ◌∷◌, length, Option, None, Some, decimal, refl, sym, ap, ◌∙◌, subst, arith, append_assoc}
use Rattle.std.specs.Prelude.{not, nat_lt, nat_le, nat_eq, codes, count_by, flat_map, if◌then◌else◌}
use Rattle.std.specs.Fmt.{signed_decimal}
use Rattle.std.proofs.lemmas.Bool.{and_parts, and_from, leb-true, ltb-true, ne_eqb}
use Rattle.std.proofs.lemmas.List.Sums.{sum_by-cons}
use Rattle.machine_isa.specs.declared.instr.Instr.{Instr}
use Rattle.machine_isa.specs.Bytes.{number}
use Rattle.machine_semantics.specs.Image.{Monitor, Routine, Process}
use Rattle.machine_semantics.specs.Trees.{Segs}
use Rattle.image.specs.Bytes.{Second}
use Rattle.image.specs.declared.names.ConditionName.{ConditionName}
use Rattle.image.specs.declared.names.DeviceName.{DeviceName}
use Rattle.image_reader.specs.declared.counts.Counts.{Counts}
use Rattle.image_format.specs.Format.{Format, u16, u32, is_fine, unless, checked, each_is}
use Rattle.image_format.specs.TreeFormat.{in_image, u16_below, tree_format}
use Rattle.image_reader.specs.Grammar.{is_again, name_format, device_format, monitor_format, named_monitor_format, condition_format, routine_format, process_format, named_process_format, numbers_format, handler_tree_format, wrong_number, instr_format}
use Rattle.asm_format.specs.Mnemonics.{mnemonic, named, operands_text, instr_line}
use Rattle.asm_format.specs.Text.{field, head_line, direction, device_line, event_line, ceiling_text, monitor_line, condition_line, owner_text, bit, stay_text, cost_text, place_text, routine_lines, release_text, time_text, room_text, numbers_text, handler_text, handler_line, process_lines}
use Rattle.asm_format.specs.TreeText.{segs_text, tree_line}
use Rattle.text_fields.specs.Front.{begins}
use Rattle.asm_lines.specs.Names.{is_in_word}
use Rattle.asm_lines.specs.TreeForm.{cuts}
use Rattle.asm_lines.proofs.Cutting.{cuts_at}
use Rattle.assembler.specs.Sections.{owners_in}
use Rattle.asm_law.proofs.Pieces.{ended_2, ended_3, ended_6, lines_2, lines_3}
use Rattle.asm_law.proofs.ReadsNumbers.{Stops, begins_self, begins_not}
use Rattle.asm_law.proofs.ReadsNames.{IsName, is_name, in_count}
use Rattle.asm_law.proofs.ReadsInstrs.{AreSmall, name_is, named_small, starts_upper}
use Rattle.asm_law.proofs.TreeForms.{in_line, is_line, decimal_line, line_append, lacks_byte, tree_fits, tree_words, tree_words_line}
use Rattle.asm_law.proofs.ReadsRoutines.{IsRoutine, routine_is, routine_line}
use Rattle.asm_law.proofs.ReadsProcesses.{IsProcess, process_is}
use Rattle.syntax.proofs.ReadLemmas.{weaker}

-- ---- one line

abbrev process_word : List ℕ
process_word = codes "process "

line_counts : (owns : Bool) (line rest : List ℕ) → is_line line ≡ true → begins process_word line ≡ owns → owners_in (line ++ (codes "\n" ++ rest)) ≡ (if owns then 1 else 0) + owners_in rest
line_counts owns line rest whole is =
    ap (count_by (begins process_word)) (cuts_at 10 line rest (lacks_byte 10 line whole)) ∙ sum_by-cons (λ (l : List ℕ). if begins process_word l then 1 else 0) line (cuts 10 rest) ∙ ap (λ b. (if b then 1 else 0) + owners_in rest) is

other_line : (line rest : List ℕ) → is_line line ≡ true → begins process_word line ≡ false → owners_in (line ++ (codes "\n" ++ rest)) ≡ owners_in rest
other_line line rest whole is = line_counts false line rest whole is ∙ (let e : 0 + owners_in rest ≡ owners_in rest = omega arith in e)

-- a text that begins with another byte does not begin with the word
pub not_first : (c : ℕ) (word bytes : List ℕ) → Stops (λ b. nat_eq b c) bytes → begins (c ∷ word) bytes ≡ false
not_first c word [] h = begins_not (c ∷ word) [] refl
not_first c word (b ∷ bs) h = begins_not (c ∷ word) (b ∷ bs) (rw h refl)

-- ---- bytes of a line

word_in_line : (b : ℕ) → is_in_word b ≡ true → in_line b ≡ true
word_in_line b h = (and_parts (not (b == 32)) (not (b == 10)) h).1

name_line : (taken : List (List ℕ)) (name : List ℕ) → IsName taken name → is_line name ≡ true
name_line taken name is = weaker is_in_word in_line word_in_line name is.bytes

-- pieces without the end of a line
whole_2 : (a b : List ℕ) → is_line a ≡ true → is_line b ≡ true → is_line (a ++ b) ≡ true
whole_2 a b p q = line_append a b ∙ and_from (is_line a) (is_line b) p q

whole_3 : (a b c : List ℕ) → is_line a ≡ true → is_line b ≡ true → is_line c ≡ true → is_line (a ++ (b ++ c)) ≡ true
whole_3 a b c p q r = whole_2 a (b ++ c) p (whole_2 b c q r)

whole_4 : (a b c d : List ℕ) → is_line a ≡ true → is_line b ≡ true → is_line c ≡ true → is_line d ≡ true → is_line (a ++ (b ++ (c ++ d))) ≡ true
whole_4 a b c d p q r s = whole_2 a (b ++ (c ++ d)) p (whole_3 b c d q r s)

whole_6 : (a b c d e f : List ℕ) → is_line a ≡ true → is_line b ≡ true → is_line c ≡ true → is_line d ≡ true → is_line e ≡ true → is_line f ≡ true → is_line (a ++ (b ++ (c ++ (d ++ (e ++ f))))) ≡ true
whole_6 a b c d e f p q r s t u = whole_2 a (b ++ (c ++ (d ++ (e ++ f)))) p (whole_2 b (c ++ (d ++ (e ++ f))) q (whole_4 c d e f r s t u))

-- ---- the head, names and monitors

pub head_owners : (program : List ℕ) (over : ℕ) (rest : List ℕ) → IsName [] program → over ≤ 1000 → owners_in (head_line program over ++ rest) ≡ owners_in rest
head_owners program over rest is low =
    let line = codes "image " ++ (program ++ (codes " overhead " ++ decimal over)) in
    let same : head_line program over ++ rest ≡ line ++ (codes "\n" ++ rest) = ended_3 (codes "image ") program (codes " overhead " ++ decimal over) (codes "\n") rest in
    let whole : is_line line ≡ true = whole_2 program (codes " overhead " ++ decimal over) (name_line [] program is) (decimal_line over (omega arith)) in
    ap owners_in same ∙ other_line line rest whole (not_first 112 (codes "rocess ") line refl)

abbrev direction_word : Bool → List ℕ
direction_word true = codes " out"
direction_word false = codes " in"

direction_is : (out : Bool) → direction out ≡ direction_word out ++ codes "\n"
direction_is true = refl
direction_is false = refl

direction_line : (out : Bool) → is_line (direction_word out) ≡ true
direction_line true = refl
direction_line false = refl

pub device_owners : (taken : List (List ℕ)) (d : DeviceName) (rest : List ℕ) → (device_format taken).is d ≡ true → owners_in (device_line d ++ rest) ≡ owners_in rest
device_owners taken d rest h =
    let is = is_name taken d.name (and_parts ((name_format taken).is d.name) true h).0 in
    let line = codes "device " ++ (d.name ++ direction_word d.out) in
    let same : device_line d ++ rest ≡ line ++ (codes "\n" ++ rest) =
    ap (λ (out : List ℕ). (codes "device " ++ (d.name ++ out)) ++ rest) (direction_is d.out) ∙ ended_3 (codes "device ") d.name (direction_word d.out) (codes "\n") rest in
    let whole : is_line line ≡ true = whole_2 d.name (direction_word d.out) (name_line taken d.name is) (direction_line d.out) in
    ap owners_in same ∙ other_line line rest whole (not_first 112 (codes "rocess ") line refl)

pub event_owners : (taken : List (List ℕ)) (name rest : List ℕ) → (name_format taken).is name ≡ true → owners_in (event_line name ++ rest) ≡ owners_in rest
event_owners taken name rest h =
    let line = codes "event " ++ name in
    let same : event_line name ++ rest ≡ line ++ (codes "\n" ++ rest) = ended_2 (codes "event ") name (codes "\n") rest in
    ap owners_in same ∙ other_line line rest (name_line taken name (is_name taken name h)) (not_first 112 (codes "rocess ") line refl)

ceiling_line : (c : ℕ) → c < 2 ^ 16 → is_line (ceiling_text c) ≡ true
ceiling_line c low = by (c == 65535) where
  by : (b : Bool) → is_line (if b then codes "none" else decimal c) ≡ true
  by true = refl
  by false = decimal_line c (omega arith)

pub monitor_owners : (taken : List (List ℕ)) (m : List ℕ × Monitor) (rest : List ℕ) → (named_monitor_format taken).is m ≡ true → owners_in (monitor_line m.0 m.1 ++ rest) ≡ owners_in rest
monitor_owners taken m rest h =
    let p = and_parts ((name_format taken).is m.0) (monitor_format.is m.1) h in
    let q = and_parts (u32.is m.1.base) (u32.is m.1.words && u16.is m.1.ceiling) p.1 in
    let r = and_parts (u32.is m.1.words) (u16.is m.1.ceiling) q.1 in
    let name = name_line taken m.0 (is_name taken m.0 p.0) in
    let base = decimal_line m.1.base (ltb-true m.1.base (2 ^ 32) q.0) in
    let words = decimal_line m.1.words (ltb-true m.1.words (2 ^ 32) r.0) in
    let ceiling = ceiling_line m.1.ceiling (ltb-true m.1.ceiling (2 ^ 16) r.1) in
    let base_text = codes " base " ++ decimal m.1.base in
    let words_text = codes " words " ++ decimal m.1.words in
    let line = codes "monitor " ++ (m.0 ++ (base_text ++ (words_text ++ (codes " ceiling " ++ ceiling_text m.1.ceiling)))) in
    let same : monitor_line m.0 m.1 ++ rest ≡ line ++ (codes "\n" ++ rest) = ended_6 (codes "monitor ") m.0 base_text words_text (codes " ceiling ") (ceiling_text m.1.ceiling) (codes "\n") rest in
    let whole : is_line line ≡ true = whole_4 m.0 base_text words_text (codes " ceiling " ++ ceiling_text m.1.ceiling) name base words ceiling in
    ap owners_in same ∙ other_line line rest whole (not_first 112 (codes "rocess ") line refl)

pub condition_owners : (taken : List (List ℕ)) (monitors : ℕ) (earlier : List ConditionName) (c : ConditionName) (rest : List ℕ) → (condition_format taken monitors earlier).is c ≡ true → owners_in (condition_line c ++ rest) ≡ owners_in rest
condition_owners taken monitors earlier c rest h =
    let p = and_parts ((name_format taken).is c.name && (u16_below monitors).is c.mon) (is_fine (unless (not (is_again earlier c)) 5)) h in
    let q = and_parts ((name_format taken).is c.name) ((u16_below monitors).is c.mon) p.0 in
    let mon = in_count monitors c.mon q.1 in
    let line = codes "condition " ++ (c.name ++ (codes " " ++ decimal c.mon)) in
    let same : condition_line c ++ rest ≡ line ++ (codes "\n" ++ rest) = ended_3 (codes "condition ") c.name (codes " " ++ decimal c.mon) (codes "\n") rest in
    let whole : is_line line ≡ true = whole_2 c.name (codes " " ++ decimal c.mon) (name_line taken c.name (is_name taken c.name q.0)) (decimal_line c.mon (omega (arith, mon.0))) in
    ap owners_in same ∙ other_line line rest whole (not_first 112 (codes "rocess ") line refl)

-- ---- trees and routines

tree_owners : (monitors : ℕ) (tree : Segs) (rest : List ℕ) → (tree_format (in_image monitors) 130).is tree ≡ true → owners_in (tree_line tree ++ rest) ≡ owners_in rest
tree_owners monitors tree rest h =
    let line = tree_words tree in
    let same : tree_line tree ++ rest ≡ line ++ (codes "\n" ++ rest) = ended_2 (codes "tree") (segs_text tree) (codes "\n") rest in
    ap owners_in same ∙ other_line line rest (tree_words_line tree (tree_fits monitors 130 tree h)) (not_first 112 (codes "rocess ") line refl)

owner_line : (kind owner : ℕ) → owner < 2 ^ 16 → is_line (owner_text kind owner) ≡ true
owner_line zero owner low = refl
owner_line (suc zero) owner low = decimal_line owner (omega arith)
owner_line (suc (suc kind)) owner low = decimal_line owner (omega arith)

bit_line : (b : Bool) → is_line (decimal (bit b)) ≡ true
bit_line true = decimal_line 1 (omega arith)
bit_line false = decimal_line 0 (omega arith)

stay_line : (kind stay : ℕ) → stay ≤ 1000000001 → is_line (stay_text kind stay) ≡ true
stay_line zero stay low = refl
stay_line (suc zero) stay low = refl
stay_line (suc (suc kind)) stay low = decimal_line stay (omega arith)

routine_place : (counts : Counts) (r : Routine) → IsRoutine counts r → is_line (place_text r) ≡ true
routine_place counts r is =
    whole_4 (field (codes " params ") r.params) (field (codes " locals ") r.locals) (field (codes " result ") (bit r.gives)) (field (codes " start ") r.start)
    (decimal_line r.params (omega (arith, is.params))) (decimal_line r.locals (omega (arith, is.locals))) (bit_line r.gives) (decimal_line r.start is.start)

routine_cost : (counts : Counts) (r : Routine) → IsRoutine counts r → is_line (cost_text r) ≡ true
routine_cost counts r is =
    whole_4 (field (codes " run ") r.run) (field (codes " suspend ") r.susp) (field (codes " waits ") r.waits) (stay_text r.kind r.stay) (decimal_line r.run (omega (arith, is.run)))
    (decimal_line r.susp (omega (arith, is.susp))) (decimal_line r.waits (omega (arith, is.waits))) (stay_line r.kind r.stay is.stay)

routine_whole : (counts : Counts) (r : Routine) → IsRoutine counts r → is_line (routine_line r) ≡ true
routine_whole counts r is = whole_3 (owner_text r.kind r.owner) (place_text r) (cost_text r) (owner_line r.kind r.owner is.owner) (routine_place counts r is) (routine_cost counts r is)

pub routine_owners : (counts : Counts) (r : Routine) (rest : List ℕ) → (routine_format counts).is r ≡ true → owners_in (routine_lines r ++ rest) ≡ owners_in rest
routine_owners counts r rest h =
    let is = routine_is counts r h in
    let at_tree = tree_line r.tree ++ rest in
    let same : routine_lines r ++ rest ≡ routine_line r ++ (codes "\n" ++ at_tree) = lines_2 (codes "routine ") (owner_text r.kind r.owner) (place_text r) (cost_text r) (codes "\n") (tree_line r.tree) rest in
    ap owners_in same ∙ other_line (routine_line r) at_tree (routine_whole counts r is) (not_first 112 (codes "rocess ") (routine_line r) refl) ∙ tree_owners counts.monitors r.tree rest is.tree

-- ---- processes

release_line : (counts : Counts) (used : List ℕ) (p : Process) (kind : ℕ) → IsProcess counts used p → is_line (release_text p kind) ≡ true
release_line counts used p kind is = by kind where
  frame : is_line (decimal p.frame) ≡ true
  frame = decimal_line p.frame (omega (arith, is.release.frame.1))

  deadline : is_line (decimal p.deadline) ≡ true
  deadline = decimal_line p.deadline (omega (arith, is.release.frame.1, is.release.deadline.1))

  first : is_line (decimal p.first) ≡ true
  first = decimal_line p.first (omega (arith, is.release.first))

  event : is_line (decimal p.event) ≡ true
  event = decimal_line p.event (omega (arith, is.release.event))

  by : (kind : ℕ) → is_line (release_text p kind) ≡ true
  by zero = whole_3 (field (codes " periodic frame ") p.frame) (field (codes " deadline ") p.deadline) (field (codes " first ") p.first) frame deadline first
  by (suc kind) = whole_3 (field (codes " event ") p.event) (field (codes " frame ") p.frame) (field (codes " deadline ") p.deadline) event frame deadline

time_line : (counts : Counts) (used : List ℕ) (p : Process) → IsProcess counts used p → is_line (time_text p) ≡ true
time_line counts used p is =
    whole_6 (field (codes " rank ") p.rank) (field (codes " run ") p.run) (field (codes " suspend ") p.susp) (field (codes " waits ") p.waits) (field (codes " block ") p.block) (field (codes " bound ") p.bound)
    (decimal_line p.rank (omega (arith, is.release.rank))) (decimal_line p.run (omega (arith, is.time.run))) (decimal_line p.susp (omega (arith, is.time.susp))) (decimal_line p.waits (omega (arith, is.time.waits)))
    (decimal_line p.block (omega (arith, is.time.block))) (decimal_line p.bound (omega (arith, is.time.bound.1)))

room_line : (counts : Counts) (used : List ℕ) (p : Process) → IsProcess counts used p → is_line (room_text p) ≡ true
room_line counts used p is =
    whole_4 (field (codes " data ") p.words) (field (codes " stack ") p.stack) (field (codes " locals ") p.locals) (field (codes " start ") p.start) (decimal_line p.words is.room.words)
    (decimal_line p.stack (omega (arith, is.room.stack))) (decimal_line p.locals (omega (arith, is.room.locals))) (decimal_line p.start is.room.start)

-- the numbers of a handler, without the end of the line
abbrev numbers_words : List ℕ → List ℕ
numbers_words [] = []
numbers_words (n ∷ ns) = codes " " ++ (decimal n ++ numbers_words ns)

numbers_end : (numbers : List ℕ) → numbers_text numbers ≡ numbers_words numbers ++ codes "\n"
numbers_end [] = refl
numbers_end (n ∷ ns) = ap (λ (more : List ℕ). codes " " ++ (decimal n ++ more)) (numbers_end ns) ∙ sym (append_assoc (codes " " ++ decimal n) (numbers_words ns) (codes "\n"))

numbers_line : (earlier : List ℕ) (count : ℕ) (numbers : List ℕ) → each_is (λ earlier. checked u16 (wrong_number earlier)) earlier count numbers ≡ true → is_line (numbers_words numbers) ≡ true
numbers_line earlier count [] h = refl
numbers_line earlier zero (n ∷ ns) h = absurd cc
numbers_line earlier (suc count) (n ∷ ns) h =
    let p = and_parts ((checked u16 (wrong_number earlier)).is n) (each_is (λ earlier. checked u16 (wrong_number earlier)) (earlier ++ n ∷ []) count ns) h in
    let low : n < 2 ^ 16 = ltb-true n (2 ^ 16) (and_parts (nat_lt n (2 ^ 16)) (is_fine (wrong_number earlier n)) p.0).0 in
    whole_2 (decimal n) (numbers_words ns) (decimal_line n (omega arith)) (numbers_line (earlier ++ n ∷ []) count ns p.1)

abbrev handler_words : (handler : ℕ) → (numbers : List ℕ) → List ℕ
handler_words handler [] = []
handler_words handler (n ∷ ns) = codes " handler " ++ (decimal handler ++ numbers_words (n ∷ ns))

handler_end : (handler : ℕ) (numbers : List ℕ) → handler_text handler numbers ≡ handler_words handler numbers ++ codes "\n"
handler_end handler [] = refl
handler_end handler (n ∷ ns) =
    ap (λ (more : List ℕ). codes " handler " ++ (decimal handler ++ more)) (numbers_end (n ∷ ns)) ∙ sym (append_assoc (codes " handler " ++ decimal handler) (numbers_words (n ∷ ns)) (codes "\n"))

handler_words_line : (handler : ℕ) (numbers : List ℕ) → handler < 2 ^ 32 → (numbers_format (length numbers)).is numbers ≡ true → is_line (handler_words handler numbers) ≡ true
handler_words_line handler [] low h = refl
handler_words_line handler (n ∷ ns) low h =
    whole_2 (decimal handler) (numbers_words (n ∷ ns)) (decimal_line handler low) (numbers_line [] (length (n ∷ ns)) (n ∷ ns) h)

abbrev process_line : (name : List ℕ) → Process → List ℕ
process_line name p = codes "process " ++ (name ++ (release_text p p.kind ++ (time_text p ++ (room_text p ++ handler_words p.handler p.numbers))))

handler_owners : (monitors : ℕ) (numbers : List ℕ) (tree : Option Segs) (rest : List ℕ) → (handler_tree_format monitors (length numbers)).is tree ≡ true → owners_in (handler_line numbers tree ++ rest) ≡ owners_in rest
handler_owners monitors [] None rest h = refl
handler_owners monitors [] (Some tree) rest h = absurd cc
handler_owners monitors (n ∷ ns) None rest h = absurd cc
handler_owners monitors (n ∷ ns) (Some tree) rest h = tree_owners monitors tree rest h

pub process_owners : (counts : Counts) (taken : List (List ℕ)) (used : List ℕ) (x : List ℕ × Process) (rest : List ℕ) → (named_process_format Second counts taken used).is x ≡ true
    → owners_in (process_lines x.0 x.1 ++ rest) ≡ 1 + owners_in rest
process_owners counts taken used x rest h =
    let p = x.1 in
    let q = and_parts ((name_format taken).is x.0) ((process_format Second counts used).is p) h in
    let is = process_is counts used p q.1 in
    let name = name_line taken x.0 (is_name taken x.0 q.0) in
    let release = release_line counts used p p.kind is in
    let time = time_line counts used p is in
    let room = room_line counts used p is in
    let handler = handler_words_line p.handler p.numbers is.handler.handler is.handler.numbers in
    let line = process_line x.0 p in
    let words = handler_words p.handler p.numbers in
    let after = x.0 ++ (release_text p p.kind ++ (time_text p ++ (room_text p ++ words))) in
    let at_handler = handler_line p.numbers p.handler_tree ++ rest in
    let at_tree = tree_line p.body ++ at_handler in
    let same : process_lines x.0 p ++ rest ≡ line ++ (codes "\n" ++ at_tree) =
    ap (λ (end : List ℕ). (codes "process " ++ (x.0 ++ (release_text p p.kind ++ (time_text p ++ (room_text p ++ (end ++ (tree_line p.body ++ handler_line p.numbers p.handler_tree))))))) ++ rest) (handler_end p.handler p.numbers)
    ∙ lines_3 (codes "process ") x.0 (release_text p p.kind) (time_text p) (room_text p) words (codes "\n") (tree_line p.body) (handler_line p.numbers p.handler_tree) rest in
    let whole : is_line line ≡ true =
    whole_2 x.0 (release_text p p.kind ++ (time_text p ++ (room_text p ++ words))) name (whole_4 (release_text p p.kind) (time_text p) (room_text p) words release time room handler) in
    ap owners_in same ∙ line_counts true line at_tree whole (begins_self process_word after)
    ∙ ap (λ k. 1 + k) (tree_owners counts.monitors p.body at_handler is.body ∙ handler_owners counts.monitors p.numbers p.handler_tree rest is.handler.tree)

-- ---- instructions

-- the first byte of an instruction's line is a capital
pub instr_stops : (c : ℕ) → 90 < c → (instr : Instr) (rest : List ℕ) → Stops (λ b. nat_eq b c) (instr_line instr ++ rest)
instr_stops c above instr rest =
    subst (Stops (λ b. nat_eq b c)) (sym (append_assoc (mnemonic (number instr)) (operands_text (named instr)) rest))
    (upper (mnemonic (number instr)) (operands_text (named instr) ++ rest) (name_is instr).upper)
  where
    upper : (word after : List ℕ) → starts_upper word ≡ true → Stops (λ b. nat_eq b c) (word ++ after)
    upper [] after h = absurd cc
    upper (b ∷ bs) after h =
        let high : b ≤ 90 = leb-true b 90 (and_parts (nat_le 65 b) (nat_le b 90) h).1 in
        ne_eqb b c (λ (same : b ≡ c). omega (arith, high, above, same))

-- operands without the end of the line
abbrev operands_words : List ℤ → List ℕ
operands_words [] = []
operands_words (z ∷ zs) = codes " " ++ (signed_decimal z ++ operands_words zs)

operands_end : (zs : List ℤ) → operands_text zs ≡ operands_words zs ++ codes "\n"
operands_end [] = refl
operands_end (z ∷ zs) = ap (λ (more : List ℕ). codes " " ++ (signed_decimal z ++ more)) (operands_end zs) ∙ sym (append_assoc (codes " " ++ signed_decimal z) (operands_words zs) (codes "\n"))

signed_line : (z : ℤ) → AreSmall (z ∷ []) → is_line (signed_decimal z) ≡ true
signed_line (pos n) h = let low : n < 2 ^ 31 = h.0 in decimal_line n (omega arith)
signed_line (negsuc n) h = let low : n < 2 ^ 31 = h.0 in decimal_line (suc n) (omega arith)

operands_line : (zs : List ℤ) → AreSmall zs → is_line (operands_words zs) ≡ true
operands_line [] h = refl
operands_line (z ∷ zs) h = whole_2 (signed_decimal z) (operands_words zs) (signed_line z (h.0, tt)) (operands_line zs h.1)

pub instr_owners : (instr : Instr) (rest : List ℕ) → instr_format.is instr ≡ true → owners_in (instr_line instr ++ rest) ≡ owners_in rest
instr_owners instr rest h =
    let word = mnemonic (number instr) in
    let is = name_is instr in
    let line = word ++ operands_words (named instr) in
    let same : instr_line instr ++ rest ≡ line ++ (codes "\n" ++ rest) =
    ap (λ (more : List ℕ). (word ++ more) ++ rest) (operands_end (named instr)) ∙ ended_2 word (operands_words (named instr)) (codes "\n") rest in
    let whole : is_line line ≡ true = whole_2 word (operands_words (named instr)) (weaker is_in_word in_line word_in_line word is.bytes) (operands_line (named instr) (named_small instr h)) in
    ap owners_in same ∙ other_line line rest whole (first word (operands_words (named instr)) is.upper)
  where
    first : (word more : List ℕ) → starts_upper word ≡ true → begins process_word (word ++ more) ≡ false
    first [] more h = absurd cc
    first (b ∷ bs) more h =
        let high : b ≤ 90 = leb-true b 90 (and_parts (nat_le 65 b) (nat_le b 90) h).1 in
        not_first 112 (codes "rocess ") (b ∷ bs ++ more) (ne_eqb b 112 (λ (same : b ≡ 112). omega (arith, high, same)))

-- ---- rows of lines

module _ {A : Type 0} (f : List A → Format A) (write : A → List ℕ) (rest : List ℕ) where
  pub row_owners : ((earlier : List A) (x : A) (r : List ℕ) → (f earlier).is x ≡ true → owners_in (write x ++ r) ≡ owners_in r)
      → (earlier : List A) (count : ℕ) (xs : List A) → each_is f earlier count xs ≡ true → owners_in (flat_map write xs ++ rest) ≡ owners_in rest
  row_owners one earlier zero [] h = refl
  row_owners one earlier zero (x ∷ xs) h = absurd cc
  row_owners one earlier (suc n) [] h = absurd cc
  row_owners one earlier (suc n) (x ∷ xs) h =
      let p = and_parts ((f earlier).is x) (each_is f (earlier ++ x ∷ []) n xs) h in
      ap owners_in (append_assoc (write x) (flat_map write xs) rest) ∙ one earlier x (flat_map write xs ++ rest) p.0 ∙ row_owners one (earlier ++ x ∷ []) n xs p.1

  pub row_counts : ((earlier : List A) (x : A) (r : List ℕ) → (f earlier).is x ≡ true → owners_in (write x ++ r) ≡ 1 + owners_in r)
      → (earlier : List A) (count : ℕ) (xs : List A) → each_is f earlier count xs ≡ true → owners_in (flat_map write xs ++ rest) ≡ length xs + owners_in rest
  row_counts one earlier zero [] h = let e : owners_in rest ≡ 0 + owners_in rest = omega arith in e
  row_counts one earlier zero (x ∷ xs) h = absurd cc
  row_counts one earlier (suc n) [] h = absurd cc
  row_counts one earlier (suc n) (x ∷ xs) h =
      let p = and_parts ((f earlier).is x) (each_is f (earlier ++ x ∷ []) n xs) h in
      let more = row_counts one (earlier ++ x ∷ []) n xs p.1 in
      ap owners_in (append_assoc (write x) (flat_map write xs) rest) ∙ one earlier x (flat_map write xs ++ rest) p.0 ∙ (let e : 1 + owners_in (flat_map write xs ++ rest) ≡ suc (length xs) + owners_in rest = omega (arith, more) in e)
