-- Names in a line, and the lines of the head, devices, events, monitors and conditions.
use Rattle.std.specs.Prelude.{◌&&◌, ◌==◌, not, ℕ, Bool, true, false, List, [], length, take, drop, Ok, Err, Result, Option, None, Some, codes, nat_lt, nat_le, if◌then◌else◌}
use Rattle.std.specs.List.{prefix_len}
use Rattle.syntax.specs.Spellings.{is_identifier, keywords}
use Rattle.machine_semantics.specs.Image.{Monitor}
use Rattle.image.specs.declared.names.ConditionName.{ConditionName}
use Rattle.image.specs.declared.names.DeviceName.{DeviceName}
use Rattle.image_reader.specs.Grammar.{has, is_again}
use Rattle.text_fields.specs.declared.fault.FieldFault.{FieldFault}
use Rattle.text_fields.specs.Front.{Front, Read, ◌>>=◌, no_form, moved, noted, begins, skip, end_read}
use Rattle.text_fields.specs.LineFields.{field_read, numeral_read}

-- ---- names

-- a word goes up to the next space or the end of its line
abbrev pub is_in_word : ℕ → Bool
is_in_word b = not (b == 32) && not (b == 10)

abbrev pub word_len : List ℕ → ℕ
word_len bytes = prefix_len is_in_word bytes

-- a name has at most 63 bytes, is an identifier, no keyword and not taken
abbrev pub may_be_name : (taken : List (List ℕ)) → List ℕ → Bool
may_be_name taken name = nat_le (length name) 63 && (is_identifier name && not (has keywords name) && not (has taken name))

-- a word, which is to be a name that is not taken
unfoldable pub name_read : (taken : List (List ℕ)) → Front → Read (List ℕ)
name_read taken s =
    if nat_lt 0 (word_len s.rest) then Ok (take (word_len s.rest) s.rest, noted (moved s (drop (word_len s.rest) s.rest)) (may_be_name taken (take (word_len s.rest) s.rest)))
    else Err (no_form s)

-- a name behind these bytes
unfoldable pub named_read : (label : List ℕ) → (taken : List (List ℕ)) → Front → Read (List ℕ)
named_read label taken s = skip label s >>= name_read taken

-- ---- lines

-- the program's name, and the overhead
unfoldable pub head_read : Front → Read (List ℕ × ℕ)
head_read s = named_read (codes "image ") [] s >>= λ name. field_read (codes " overhead ") 0 1000 name.1 >>= λ over. end_read over.1 >>= λ t. Ok ((name.0, over.0), t)

abbrev pub direction_read : Front → Read Bool
direction_read s = if begins (codes " out") s.rest then (skip (codes " out") s >>= λ t. Ok (true, t)) else (skip (codes " in") s >>= λ t. Ok (false, t))

unfoldable pub device_read : (taken : List (List ℕ)) → Front → Read DeviceName
device_read taken s = named_read (codes "device ") taken s >>= λ name. direction_read name.1 >>= λ out. end_read out.1 >>= λ t. Ok (record { name = name.0; out = out.0 }, t)

unfoldable pub event_read : (taken : List (List ℕ)) → Front → Read (List ℕ)
event_read taken s = named_read (codes "event ") taken s >>= λ name. end_read name.1 >>= λ t. Ok (name.0, t)

-- a ceiling below 65535, or none; greater numbers are no form of one
abbrev pub below_none : Option ℕ → Front → Read ℕ
below_none None s = Err (no_form s)
below_none (Some ceiling) s = if nat_lt ceiling 65535 then Ok (ceiling, s) else Err (no_form s)

unfoldable pub ceiling_read : Front → Read ℕ
ceiling_read s =
    if begins (codes " ceiling none") s.rest then (skip (codes " ceiling none") s >>= λ t. Ok (65535, t))
    else (skip (codes " ceiling ") s >>= numeral_read >>= λ x. below_none x.0 x.1)

unfoldable pub monitor_read : (taken : List (List ℕ)) → Front → Read (List ℕ × Monitor)
monitor_read taken s =
    named_read (codes "monitor ") taken s >>= λ name. field_read (codes " base ") 0 4294967295 name.1 >>= λ base. field_read (codes " words ") 0 4294967295 base.1 >>= λ words.
    ceiling_read words.1 >>= λ ceiling. end_read ceiling.1 >>= λ t. Ok ((name.0, record { base = base.0; words = words.0; ceiling = ceiling.0 }), t)

-- a condition of one of so many monitors; no earlier one of the same monitor has its name
abbrev pub placed : (monitors : ℕ) → (earlier : List ConditionName) → List ℕ → ℕ × Front → Read ConditionName
placed monitors earlier name (mon, s) =
    end_read (noted (noted s (nat_lt mon monitors)) (not (is_again earlier (record { name = name; mon = mon })))) >>= λ t. Ok (record { name = name; mon = mon }, t)

unfoldable pub condition_read : (taken : List (List ℕ)) → (monitors : ℕ) → (earlier : List ConditionName) → Front → Read ConditionName
condition_read taken monitors earlier s = named_read (codes "condition ") taken s >>= λ name. field_read (codes " ") 0 65535 name.1 >>= placed monitors earlier name.0
