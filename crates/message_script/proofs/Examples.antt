-- Messages for texts that are no scripts.
use Rattle.std.proofs.Common.{refl}
use Rattle.std.specs.Fmt.{digits}
use Rattle.std.specs.Prelude.{◌≡◌, false, true, [], ◌∷◌, codes}
use Rattle.image.specs.declared.names.ImageNames.{ImageNames}
use Rattle.message_text.specs.Nearest.{distance, one_more}
use Rattle.message_text.specs.Shown.{show}
use Rattle.script.specs.declared.fault.ScriptFault.TheVariants.{Bad}
use Rattle.message_script.specs.Earlier.{counted, early, early_sentence, early_tick, falls_by, frame_of, has_tick, last_before, last_such, occurs, soon, soon_event, soon_sentence, tick_word}
use Rattle.message_script.specs.Forms.{are_blanks, behind_blanks, behind_set, behind_tick, blanks_flaw, bytes_flaw, carriage_return, ends_in_blank, line_flaw, no_beginning, number, timed_flaw, words_flaw}
use Rattle.message_script.specs.Message.{fault_message, script_message, spelled, told}
use Rattle.message_script.specs.Numbers.{digits_flaw, flaw_sentence, has_leading_zero, is_digits, is_negative, is_outside, is_tick, most, number_flaw, range, sort_name, unsigned}
use Rattle.message_script.specs.Told.{at_byte, at_word, remark, with_line}
use Rattle.message_script.specs.Unknown.{in_devices, is_out, no_device, no_such, unknown, unknown_sentence}
use Rattle.message_script.specs.Words.{begins, first_word, is_end, word_at}

-- the names of a program with an event at most once in 15 ticks, an in and an out device
abbrev names : ImageNames
names = record {
  processes = [];
  monitors = [];
  conditions = [];
  devices = record { name = codes "depth"; out = false } ∷ record { name = codes "valve"; out = true } ∷ [];
  events = record { name = codes "e"; frame = 15 } ∷ [];
}

pub too_soon : script_message (codes "S") (codes "0 event e\n1 set s 2\n14 event e\nend 30\n") names (Bad 4 3 0 14) ≡ codes "S:3:1: S4: `e` comes 14 ticks after line 1; its frame is 15 ticks\n      3 | 14 event e\n        | ^^\n      1 | 0 event e\n        = an event keeps the frame of its process\n"
unfolding digits counted frame_of has_tick last_before last_such occurs soon soon_event soon_sentence fault_message script_message spelled told is_digits at_word remark with_line first_word word_at show
too_soon = refl

pub end_too_low : script_message (codes "S") (codes "0 event e\n20 event e\nend 20\n") names (Bad 3 3 0 0) ≡ codes "S:3:5: S3: tick 20 is not above tick 20 of line 2\n      3 | end 20\n        |     ^^\n      2 | 20 event e\n        = ticks do not fall, and the end is above them all\n"
unfolding digits counted early early_sentence early_tick falls_by has_tick last_before last_such tick_word fault_message script_message spelled told is_digits at_word remark with_line first_word is_end word_at show
end_too_low = refl

pub no_device_of_name : script_message (codes "S") (codes "5 set dept 1\n") names (Bad 2 1 0 0) ≡ codes "S:1:7: S2: `dept` is no `in` device; the nearest is `depth`\n      1 | 5 set dept 1\n        |       ^^^^\n"
unfolding digits distance one_more in_devices is_out no_device no_such unknown unknown_sentence fault_message script_message spelled told at_word first_word word_at show
no_device_of_name = refl

pub two_blanks : script_message (codes "S") (codes "5  event e\nend 30\n") names (Bad 1 1 0 0) ≡ codes "S:1:3: S1: two blanks\n      1 | 5  event e\n        |   ^\n        = one blank stands between words\n"
unfolding digits are_blanks behind_blanks blanks_flaw bytes_flaw carriage_return line_flaw fault_message script_message spelled told at_byte remark begins show
two_blanks = refl

pub too_great : script_message (codes "S") (codes "5 set depth -2147483649\nend 30\n") names (Bad 1 1 0 0) ≡ codes "S:1:13: S1: the value `-2147483649` is not in -2147483648 .. 2147483647\n      1 | 5 set depth -2147483649\n        |             ^^^^^^^^^^^\n"
unfolding digits are_blanks behind_blanks behind_set behind_tick blanks_flaw bytes_flaw carriage_return ends_in_blank line_flaw no_beginning number timed_flaw words_flaw fault_message script_message spelled told digits_flaw flaw_sentence has_leading_zero is_digits is_negative is_outside is_tick most number_flaw range sort_name unsigned at_word begins first_word is_end word_at show
too_great = refl
