-- Names, and the lines of the head, devices, events, monitors and conditions.
use Rattle.std.proofs.Common.{◌≡◌, ◌≤◌, ◌<◌, ◌^◌, ◌&&◌, ◌==◌, ◌++◌, ℕ, Bool, true, false, List, [], ◌∷◌, length, Ok, decimal, refl, sym, ap, ◌∙◌, arith, append_assoc}
use Rattle.std.specs.Prelude.{not, nat_lt, nat_le, codes, if◌then◌else◌}
use Rattle.std.specs.List.{list_all}
use Rattle.std.proofs.Math.Seq.{take-append_seam, drop-append_seam}
use Rattle.std.proofs.lemmas.Bool.{and_parts, and_from, false≢true, lt-ltb, le-leb, ltb-true, leb-true, eqb-true, eqb-false, ne_eqb}
use Rattle.std.proofs.lemmas.Fmt.{decimal_nonempty}
use Rattle.syntax.specs.Spellings.{is_identifier, is_letter, is_word, keywords}
use Rattle.machine_semantics.specs.Image.{Monitor}
use Rattle.image.specs.declared.names.ConditionName.{ConditionName}
use Rattle.image.specs.declared.names.DeviceName.{DeviceName}
use Rattle.image_format.specs.Format.{u16, u32, unless, is_fine}
use Rattle.image_format.specs.TreeFormat.{within, u32_within, u16_within, u16_below}
use Rattle.image_reader.specs.Grammar.{has, is_again, wrong_name, name_format, device_format, monitor_format, named_monitor_format, condition_format}
use Rattle.asm_format.specs.Text.{head_line, direction, device_line, event_line, ceiling_text, monitor_line, condition_line}
use Rattle.text_fields.specs.Front.{line_start}
use Rattle.text_fields.specs.LineFields.{is_digit}
use Rattle.asm_lines.specs.Names.{is_in_word, may_be_name, name_read, named_read, head_read, direction_read, device_read, event_read, ceiling_read, monitor_read, condition_read}
use Rattle.asm_law.proofs.Pieces.{named_2}
use Rattle.asm_law.proofs.ReadsNumbers.{place, Stops, begins_self, begins_not, skips, ends, prefix_is, numeral, digit_first, numeral_reads, field_reads}
use Rattle.syntax.proofs.ReadLemmas.{weaker}
use Rattle.image_reader_law.proofs.ImageFaultsFields.{fine_is}
use Rattle.image_reader_law.proofs.Grammar.{size_format}

-- ---- ranges

pub within_is : (low high n : ℕ) → is_fine (within low high n) ≡ true → (low ≤ n) × (n ≤ high)
within_is low high n h =
    let ends = and_parts (nat_le low n) (nat_le n high) (fine_is (nat_le low n && nat_le n high) 4 h) in
    (leb-true low n ends.0, leb-true n high ends.1)

pub in_u32 : (low high n : ℕ) → (u32_within low high).is n ≡ true → (low ≤ n) × (n ≤ high)
in_u32 low high n h = within_is low high n (and_parts (nat_lt n (2 ^ 32)) (is_fine (within low high n)) h).1

pub in_u16 : (low high n : ℕ) → (u16_within low high).is n ≡ true → (low ≤ n) × (n ≤ high)
in_u16 low high n h = within_is low high n (and_parts (nat_lt n (2 ^ 16)) (is_fine (within low high n)) h).1

-- the number of one of so many
pub in_count : (count n : ℕ) → (u16_below count).is n ≡ true → (n < 2 ^ 16) × (nat_lt n count ≡ true)
in_count count n h =
    let p = and_parts (nat_lt n (2 ^ 16)) (is_fine (unless (nat_lt n count) 4)) h in
    (ltb-true n (2 ^ 16) p.0, fine_is (nat_lt n count) 4 p.1)

-- ---- names

letter_byte : (b : ℕ) → is_letter b ≡ true → is_in_word b ≡ true
letter_byte b h =
    rw (ne_eqb b 32 (λ (same : b ≡ 32). false≢true (sym (ap is_letter same) ∙ h)), ne_eqb b 10 (λ (same : b ≡ 10). false≢true (sym (ap is_letter same) ∙ h))) refl

word_byte : (b : ℕ) → is_word b ≡ true → is_in_word b ≡ true
word_byte b h =
    rw (ne_eqb b 32 (λ (same : b ≡ 32). false≢true (sym (ap is_word same) ∙ h)), ne_eqb b 10 (λ (same : b ≡ 10). false≢true (sym (ap is_word same) ∙ h))) refl

identifier_bytes : (name : List ℕ) → is_identifier name ≡ true → list_all is_in_word name ≡ true
identifier_bytes [] h = cc
identifier_bytes (b ∷ bs) h =
    let p = and_parts (is_letter b) (list_all is_word bs) h in
    and_from (is_in_word b) (list_all is_in_word bs) (letter_byte b p.0) (weaker is_word is_in_word word_byte bs p.1)

identifier_some : (name : List ℕ) → is_identifier name ≡ true → 0 < length name
identifier_some [] h = cc
identifier_some (b ∷ bs) h = omega arith

pub record IsName (taken : List (List ℕ)) (name : List ℕ) : Type 0 where
  pub some : 0 < length name
  pub bytes : list_all is_in_word name ≡ true
  pub may : may_be_name taken name ≡ true

pub is_name : (taken : List (List ℕ)) (name : List ℕ) → (name_format taken).is name ≡ true → IsName taken name
is_name taken name h =
    let p = and_parts (size_format.is (length name) && (length name == length name)) (is_fine (wrong_name taken name)) h in
    let size = and_parts (size_format.is (length name)) (length name == length name) p.0 in
    let few = within_is 0 63 (length name) (and_parts (nat_lt (length name) 256) (is_fine (within 0 63 (length name))) size.0).1 in
    let rules = fine_is (is_identifier name && not (has keywords name) && not (has taken name)) 5 p.1 in
    let own = and_parts (is_identifier name && not (has keywords name)) (not (has taken name)) rules in
    let spelled = (and_parts (is_identifier name) (not (has keywords name)) own.0).0 in
    record {
      some = identifier_some name spelled;
      bytes = identifier_bytes name spelled;
      may = and_from (nat_le (length name) 63) (is_identifier name && not (has keywords name) && not (has taken name)) (le-leb (length name) 63 few.1) rules;
    }

pub name_reads : (taken : List (List ℕ)) (name : List ℕ) (start : ℕ) (rest : List ℕ) → IsName taken name → Stops is_in_word rest → name_read taken (place start (name ++ rest)) ≡ Ok (name, place start rest)
unfolding name_read
name_reads taken name start rest is stops =
    rw (prefix_is is_in_word name rest is.bytes stops, lt-ltb 0 (length name) is.some, take-append_seam name rest, drop-append_seam name rest, is.may) refl

pub named_reads : (label : List ℕ) (taken : List (List ℕ)) (name : List ℕ) (start : ℕ) (rest : List ℕ) → IsName taken name → Stops is_in_word rest → named_read label taken (place start (label ++ (name ++ rest))) ≡ Ok (name, place start rest)
unfolding named_read
named_reads label taken name start rest is stops = rw (skips label start (name ++ rest), name_reads taken name start rest is stops) refl

-- ---- the head

pub head_reads : (program : List ℕ) (over : ℕ) (rest : List ℕ) → IsName [] program → over ≤ 1000 → head_read (line_start (head_line program over ++ rest)) ≡ Ok ((program, over), line_start rest)
unfolding head_read
head_reads program over rest is below =
    let after = codes " overhead " ++ (decimal over ++ (codes "\n" ++ rest)) in
    let text = codes "image " ++ (program ++ after) in
    let same : head_line program over ++ rest ≡ text = simp append_assoc in
    ap (λ t. head_read (line_start t)) same
    ∙ rw (named_reads (codes "image ") [] program (length text) after is refl, field_reads (codes " overhead ") 0 1000 over (length text) (codes "\n" ++ rest) (omega arith) below (omega arith) refl, ends (length text) rest) refl

-- ---- devices and events

direction_reads : (out : Bool) (start : ℕ) (rest : List ℕ) → direction_read (place start (direction out ++ rest)) ≡ Ok (out, place start (codes "\n" ++ rest))
direction_reads true start rest = rw (begins_self (codes " out") (codes "\n" ++ rest), skips (codes " out") start (codes "\n" ++ rest)) refl
direction_reads false start rest = rw (begins_not (codes " out") (codes " in\n" ++ rest) refl, skips (codes " in") start (codes "\n" ++ rest)) refl

direction_stops : (out : Bool) (rest : List ℕ) → Stops is_in_word (direction out ++ rest)
direction_stops true rest = refl
direction_stops false rest = refl

pub device_reads : (taken : List (List ℕ)) (d : DeviceName) (rest : List ℕ) → (device_format taken).is d ≡ true → device_read taken (line_start (device_line d ++ rest)) ≡ Ok (d, line_start rest)
unfolding device_read
device_reads taken d rest h =
    let is = is_name taken d.name (and_parts ((name_format taken).is d.name) true h).0 in
    let after = direction d.out ++ rest in
    let text = codes "device " ++ (d.name ++ after) in
    let same : device_line d ++ rest ≡ text = simp append_assoc in
    ap (λ t. device_read taken (line_start t)) same
    ∙ rw (named_reads (codes "device ") taken d.name (length text) after is (direction_stops d.out rest), direction_reads d.out (length text) rest, ends (length text) rest) refl

pub event_reads : (taken : List (List ℕ)) (name rest : List ℕ) → (name_format taken).is name ≡ true → event_read taken (line_start (event_line name ++ rest)) ≡ Ok (name, line_start rest)
unfolding event_read
event_reads taken name rest h =
    let after = codes "\n" ++ rest in
    let text = codes "event " ++ (name ++ after) in
    let same : event_line name ++ rest ≡ text = simp append_assoc in
    ap (λ t. event_read taken (line_start t)) same ∙ rw (named_reads (codes "event ") taken name (length text) after (is_name taken name h) refl, ends (length text) rest) refl

-- ---- monitors

ceiling_reads : (c start : ℕ) (rest : List ℕ) → c < 2 ^ 16 → Stops is_digit rest → ceiling_read (place start (codes " ceiling " ++ (ceiling_text c ++ rest))) ≡ Ok (c, place start rest)
unfolding ceiling_read
ceiling_reads c start rest low stops = by (c == 65535) refl where
  ceiling_below : (n : ℕ) → n < 2 ^ 16 → (n ≡ 65535 → ⊥) → n < 65535
  ceiling_below n few not_last = omega arith

  by : (b : Bool) → (c == 65535) ≡ b → ceiling_read (place start (codes " ceiling " ++ ((if b then codes "none" else decimal c) ++ rest))) ≡ Ok (c, place start rest)
  by true same =
      let none : c ≡ 65535 = eqb-true c 65535 same in
      rw (begins_self (codes " ceiling none") rest, skips (codes " ceiling none") start rest, none) refl
  by false other =
      let below : c < 65535 = ceiling_below c low (eqb-false c 65535 other) in
      let number = numeral c (omega arith) in
      rw (
        begins_not (codes " ceiling none") (codes " ceiling " ++ (decimal c ++ rest)) (digit_first 3 110 (codes "one") (decimal c) rest refl (decimal_nonempty c (omega arith)) number.are_digits),
        skips (codes " ceiling ") start (decimal c ++ rest),
        numeral_reads c start rest (omega arith) stops,
        lt-ltb c 65535 below,
      ) refl

pub monitor_reads : (taken : List (List ℕ)) (m : List ℕ × Monitor) (rest : List ℕ) → (named_monitor_format taken).is m ≡ true → monitor_read taken (line_start (monitor_line m.0 m.1 ++ rest)) ≡ Ok (m, line_start rest)
unfolding monitor_read
monitor_reads taken m rest h =
    let p = and_parts ((name_format taken).is m.0) (monitor_format.is m.1) h in
    let q = and_parts (u32.is m.1.base) (u32.is m.1.words && u16.is m.1.ceiling) p.1 in
    let r = and_parts (u32.is m.1.words) (u16.is m.1.ceiling) q.1 in
    let base : m.1.base < 2 ^ 32 = ltb-true m.1.base (2 ^ 32) q.0 in
    let words : m.1.words < 2 ^ 32 = ltb-true m.1.words (2 ^ 32) r.0 in
    let ceiling : m.1.ceiling < 2 ^ 16 = ltb-true m.1.ceiling (2 ^ 16) r.1 in
    let at_end = codes "\n" ++ rest in
    let at_ceiling = codes " ceiling " ++ (ceiling_text m.1.ceiling ++ at_end) in
    let at_words = codes " words " ++ (decimal m.1.words ++ at_ceiling) in
    let at_base = codes " base " ++ (decimal m.1.base ++ at_words) in
    let text = codes "monitor " ++ (m.0 ++ at_base) in
    let same : monitor_line m.0 m.1 ++ rest ≡ text =
    named_2 (codes "monitor ") m.0 (codes " base ") (decimal m.1.base) (codes " words ") (decimal m.1.words) (codes " ceiling ") (ceiling_text m.1.ceiling) (codes "\n") rest in
    ap (λ t. monitor_read taken (line_start t)) same
    ∙ rw (
      named_reads (codes "monitor ") taken m.0 (length text) at_base (is_name taken m.0 p.0) refl,
      field_reads (codes " base ") 0 4294967295 m.1.base (length text) at_words (omega arith) (omega arith) (omega arith) refl,
      field_reads (codes " words ") 0 4294967295 m.1.words (length text) at_ceiling (omega arith) (omega arith) (omega arith) refl,
      ceiling_reads m.1.ceiling (length text) at_end ceiling refl,
      ends (length text) rest,
    ) refl

-- ---- conditions

pub condition_reads : (taken : List (List ℕ)) (monitors : ℕ) (earlier : List ConditionName) (c : ConditionName) (rest : List ℕ) → (condition_format taken monitors earlier).is c ≡ true
    → condition_read taken monitors earlier (line_start (condition_line c ++ rest)) ≡ Ok (c, line_start rest)
unfolding condition_read
condition_reads taken monitors earlier c rest h =
    let p = and_parts ((name_format taken).is c.name && (u16_below monitors).is c.mon) (is_fine (unless (not (is_again earlier c)) 5)) h in
    let q = and_parts ((name_format taken).is c.name) ((u16_below monitors).is c.mon) p.0 in
    let mon = in_count monitors c.mon q.1 in
    let first = fine_is (not (is_again earlier c)) 5 p.1 in
    let at_end = codes "\n" ++ rest in
    let at_monitor = codes " " ++ (decimal c.mon ++ at_end) in
    let text = codes "condition " ++ (c.name ++ at_monitor) in
    let same : condition_line c ++ rest ≡ text = simp append_assoc in
    ap (λ t. condition_read taken monitors earlier (line_start t)) same
    ∙ rw (
      named_reads (codes "condition ") taken c.name (length text) at_monitor (is_name taken c.name q.0) refl,
      field_reads (codes " ") 0 65535 c.mon (length text) at_end (omega arith) (omega (arith, mon.0)) (omega arith) refl,
      mon.1,
      first,
      ends (length text) rest,
    ) refl
