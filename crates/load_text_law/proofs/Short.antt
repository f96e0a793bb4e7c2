-- The length of the text.
use Rattle.std.proofs.Common.{◌<◌, ◌≤◌, ◌+◌, ◌-◌, ◌*◌, ◌^◌, ℕ, zero, suc, Bool, true, false, List, ◌++◌, codes, decimal, length, ap, length-append, arith}
use Rattle.std.proofs.lemmas.Fmt.{length-decimal-le}
use Rattle.syntax.specs.Tokens.{longest_text}
use Rattle.load.specs.declared.program.DrawnProcess.{DrawnProcess}
use Rattle.load.specs.Program.{frame, drawn, is_even, pause_text, process_text, program_text}
use Rattle.load.proofs.Pieces.{pieces, process-pieces, rest, rest-more, opening-is}
use Rattle.load_text_law.proofs.Spelled.{IsDrawn, is_drawn, frame_low}

joined : (a b c d e f g h : List ℕ) → length a ≤ 11 → length b ≤ 24 → length c ≤ 44 → length d ≤ 22 → length e ≤ 23 → length f ≤ 14 → length g ≤ 42 → length h ≤ 1
    → length (a ++ (b ++ (c ++ (d ++ (e ++ (f ++ (g ++ h))))))) ≤ 181
joined a b c d e f g h la lb lc ld le lf lg lh =
    omega (
      arith,
      la,
      lb,
      lc,
      ld,
      le,
      lf,
      lg,
      lh,
      length-append a (b ++ (c ++ (d ++ (e ++ (f ++ (g ++ h)))))),
      length-append b (c ++ (d ++ (e ++ (f ++ (g ++ h))))),
      length-append c (d ++ (e ++ (f ++ (g ++ h)))),
      length-append d (e ++ (f ++ (g ++ h))),
      length-append e (f ++ (g ++ h)),
      length-append f (g ++ h),
      length-append g h,
    )

pause_short : (even : Bool) → length (pause_text even) ≤ 14
unfolding pause_text
pause_short true = omega arith
pause_short false = omega arith

with_number : (a : List ℕ) (n k : ℕ) → 0 < k → n < 10 ^ k → n < 2 ^ 64 → length (a ++ decimal n) ≤ length a + k
with_number a n k some low word = omega (arith, length-append a (decimal n), length-decimal-le k n some low word)

process_short : (count number : ℕ) (d : DrawnProcess) → count ≤ 64 → number ≤ 64 → IsDrawn d → length (process_text count number d) ≤ 181
process_short count number d few within low =
    let ticks = frame_low count d few low.frames in
    let turns : 1 + d.turns < 10 ^ 2 = omega (arith, low.turns) in
    let addend : d.addend < 10 ^ 2 = omega (arith, low.addend) in
    let is = process-pieces count number d in
    let short : length (pieces (is_even number) count number d) ≤ 181 = joined
    (codes "process p" ++ decimal number) (codes " : periodic frame " ++ decimal (frame count d)) (codes "\nvar x : int\nbegin\nget src x\nfor i : 1 .. " ++ decimal (1 + d.turns))
    (codes " do\nx := x mod 97 + " ++ decimal d.addend) (codes "\nend for\nm . add ( x )\n") (pause_text (is_even number))
    (codes "put dst x\nhandler ( 10 )\nput dst 0\nend p" ++ decimal number) (codes "\n")
    (with_number (codes "process p") number 2 (omega arith) (omega arith) (omega arith))
    (with_number (codes " : periodic frame ") (frame count d) 6 (omega arith) (omega (arith, ticks)) (omega (arith, ticks)))
    (with_number (codes "\nvar x : int\nbegin\nget src x\nfor i : 1 .. ") (1 + d.turns) 2 (omega arith) turns (omega (arith, turns)))
    (with_number (codes " do\nx := x mod 97 + ") d.addend 2 (omega arith) addend (omega (arith, addend)))
    (omega arith) (pause_short (is_even number))
    (with_number (codes "put dst x\nhandler ( 10 )\nput dst 0\nend p") number 2 (omega arith) (omega arith) (omega arith)) (omega arith) in
    omega (arith, ap (λ (t : List ℕ). length t) is, short)

rest_short : (key count before left : ℕ) → count ≤ 64 → before + left ≤ 64 → length (rest key count before left) ≤ 181 * left + 9
unfolding rest
rest_short key count before zero few within = omega arith
rest_short key count before (suc left) few within =
    let one = process_short count (suc before) (drawn key before) few (omega arith) (is_drawn key before) in
    let more = rest_short key count (suc before) left few (omega arith) in
    omega (arith, one, more, ap (λ (t : List ℕ). length t) (rest-more key count before left), length-append (process_text count (suc before) (drawn key before)) (rest key count (suc before) left))

pub short_text : (key count : ℕ) → count ≤ 64 → length (program_text key count) ≤ longest_text
short_text key count few =
    let after = rest_short key count 0 (count - 0) few (omega arith) in
    omega (arith, after, ap (λ (t : List ℕ). length t) (opening-is key count), length-append (codes "program load\ndevice src : in\ndevice dst : out\nmonitor m\nvar n : int\ncondition c\nentry procedure add ( v : int )\nbegin\nn := v\nsignal c\nend add\nentry procedure pause ( )\nbegin\nwait c noLongerThan 50 : 10\nend pause\nend m\n") (rest key count 0 (count - 0)))
