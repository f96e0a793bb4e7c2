-- The texts of the parts of the program, in pieces.
use Rattle.std.proofs.Common.{◌≡◌, ◌≢◌, ℕ, suc, ◌+◌, ◌-◌, ◌%◌, ◌<◌, ◌≤◌, ◌==◌, arith, Bool, true, false, List, [], ◌∷◌, ◌++◌, codes, decimal, refl, ap, sym, ◌∙◌, append_assoc, append-nil, Some, None}
use Rattle.std.proofs.lemmas.Bool.{ne_eqb}
use Rattle.std.specs.Fmt.{digits}
use Rattle.syntax_tree.specs.Placed.{stmts, no_stmts, put, get, Process, device, monitor, Prog, periodic, exprs, no_exprs}
use Rattle.syntax.specs.Words as w
use Rattle.syntax_printer.specs.Canonical.{Line, line_text, text_of, stmts_lines, process_lines, decl_lines, lines_of, canonical, end_line, process_words, var_lines, handler_lines}
use Rattle.load.specs.declared.program.DrawnProcess.{DrawnProcess}
use Rattle.load.specs.Program.{Nowhere, of_number, of_name, to_name, int_variable, enter, drawn, frame, turns_of, pause_if, is_even, load_handler, load_monitor, process_name, load_process, processes_from, load_program, pause_text, process_text, program_text}

pub text_of-append : (lines more : List Line) → text_of (lines ++ more) ≡ text_of lines ++ text_of more
text_of-append [] more = refl
text_of-append (line ∷ lines) more = ap (λ (t : List ℕ). line_text line ++ t) (text_of-append lines more) ∙ sym (append_assoc (line_text line) (text_of lines) (text_of more))

-- ---- one process

abbrev with_pause : Bool → (count number : ℕ) → DrawnProcess → Process Nowhere
with_pause even count number d = record {
  name = process_name number;
  place = tt;
  activation = periodic (of_number (frame count d)) None None;
  vars = int_variable (codes "x") ∷ [];
  routines = [];
  body = stmts (get tt (codes "src") tt (to_name (codes "x"))) (stmts (turns_of d) (stmts (enter (codes "add") (exprs (of_name (codes "x")) no_exprs))
      (pause_if even (stmts (put tt (codes "dst") tt (of_name (codes "x"))) no_stmts))));
  handler = Some load_handler;
  close = process_name number;
  close_place = tt;
}

abbrev pub pieces : Bool → (count number : ℕ) → DrawnProcess → List ℕ
pieces even count number d =
    (codes "process p" ++ decimal number) ++ ((codes " : periodic frame " ++ decimal (frame count d))
    ++ ((codes "\nvar x : int\nbegin\nget src x\nfor i : 1 .. " ++ decimal (1 + d.turns)) ++ ((codes " do\nx := x mod 97 + " ++ decimal d.addend)
    ++ (codes "\nend for\nm . add ( x )\n" ++ (pause_text even ++ ((codes "put dst x\nhandler ( 10 )\nput dst 0\nend p" ++ decimal number) ++ codes "\n"))))))

-- its lines in three parts, with or without the pause between the last two
opening_lines : (count number : ℕ) → DrawnProcess → List Line
opening_lines count number d = process_words (load_process count number d) ∷ (var_lines (int_variable (codes "x")) ++ (w.BEGIN ∷ []) ∷ [])

loop_lines : DrawnProcess → List Line
loop_lines d = stmts_lines (stmts (get tt (codes "src") tt (to_name (codes "x"))) (stmts (turns_of d) (stmts (enter (codes "add") (exprs (of_name (codes "x")) no_exprs)) no_stmts)))

closing_lines : (number : ℕ) → List Line
closing_lines number = stmts_lines (stmts (put tt (codes "dst") tt (of_name (codes "x"))) no_stmts) ++ (handler_lines (Some load_handler) ++ end_line (process_name number) ∷ [])

lines_split : (even : Bool) (count number : ℕ) (d : DrawnProcess)
    → process_lines (with_pause even count number d) ≡ opening_lines count number d ++ (loop_lines d ++ (stmts_lines (pause_if even no_stmts) ++ closing_lines number))
unfolding opening_lines loop_lines closing_lines
lines_split true count number d = refl
lines_split false count number d = refl

-- the digits of the numbers that stand in it
one_digits : decimal 1 ≡ codes "1"
unfolding digits
one_digits = refl

ninety_seven_digits : decimal 97 ≡ codes "97"
unfolding digits
ninety_seven_digits = refl

ten_digits : decimal 10 ≡ codes "10"
unfolding digits
ten_digits = refl

zero_digits : decimal 0 ≡ codes "0"
unfolding digits
zero_digits = refl

one_line : (a n b f z v : List ℕ) → (a ++ (n ++ (b ++ (f ++ z)))) ++ v ≡ a ++ (n ++ (b ++ (f ++ (z ++ v))))
one_line a n b f z v = simp append_assoc refl

opening_text : (count number : ℕ) (d : DrawnProcess)
    → text_of (opening_lines count number d) ≡ codes "process p" ++ (decimal number ++ (codes " : periodic frame " ++ (decimal (frame count d) ++ codes "\nvar x : int\nbegin\n")))
unfolding opening_lines
opening_text count number d = one_line (codes "process p") (decimal number) (codes " : periodic frame ") (decimal (frame count d)) (codes "\n") (codes "var x : int\nbegin\n")

two_lines : (a b t c d n e f : List ℕ) → a ++ ((b ++ (t ++ c)) ++ ((d ++ (n ++ e)) ++ f)) ≡ a ++ (b ++ (t ++ (c ++ (d ++ (n ++ (e ++ f))))))
two_lines a b t c d n e f = simp append_assoc refl

spelled_out : (d : DrawnProcess)
    → text_of (loop_lines d) ≡ codes "get src x\n" ++ ((codes "for i : 1 .. " ++ (decimal (1 + d.turns) ++ codes " do\n")) ++ ((codes "x := x mod 97 + " ++ (decimal d.addend ++ codes "\n")) ++ codes "end for\nm . add ( x )\n"))
unfolding loop_lines
spelled_out d = λ i. codes "get src x\n" ++ ((codes "for i : " ++ (one_digits i ++ (codes " .. " ++ (decimal (1 + d.turns) ++ codes " do\n"))))
    ++ ((codes "x := x mod " ++ (ninety_seven_digits i ++ (codes " + " ++ (decimal d.addend ++ codes "\n")))) ++ codes "end for\nm . add ( x )\n"))

loop_text : (d : DrawnProcess)
    → text_of (loop_lines d) ≡ codes "get src x\nfor i : 1 .. " ++ (decimal (1 + d.turns) ++ (codes " do\nx := x mod 97 + " ++ (decimal d.addend ++ codes "\nend for\nm . add ( x )\n")))
loop_text d =
    spelled_out d ∙ two_lines (codes "get src x\n") (codes "for i : 1 .. ") (decimal (1 + d.turns)) (codes " do\n") (codes "x := x mod 97 + ") (decimal d.addend) (codes "\n") (codes "end for\nm . add ( x )\n")

closing_text : (number : ℕ) → text_of (closing_lines number) ≡ codes "put dst x\nhandler ( 10 )\nput dst 0\nend p" ++ (decimal number ++ codes "\n")
unfolding closing_lines
closing_text number =
    (λ i. codes "put dst x\n" ++ ((codes "handler ( " ++ (ten_digits i ++ codes " )\n")) ++ ((codes "put dst " ++ (zero_digits i ++ codes "\n")) ++ ((codes "end p" ++ (decimal number ++ codes "\n")) ++ []))))
    ∙ ap (λ (t : List ℕ). codes "put dst x\nhandler ( 10 )\nput dst 0\nend p" ++ t) (append-nil (decimal number ++ codes "\n"))

regroup : (a n b f c_1 c_2 x d y e p g h : List ℕ)
    → (a ++ (n ++ (b ++ (f ++ c_1)))) ++ ((c_2 ++ (x ++ (d ++ (y ++ e)))) ++ (p ++ (g ++ (n ++ h))))
    ≡ (a ++ n) ++ ((b ++ f) ++ (((c_1 ++ c_2) ++ x) ++ ((d ++ y) ++ (e ++ (p ++ ((g ++ n) ++ h))))))
regroup a n b f c_1 c_2 x d y e p g h = simp append_assoc refl

pieces-are : (even : Bool) (count number : ℕ) (d : DrawnProcess) → text_of (process_lines (with_pause even count number d)) ≡ pieces even count number d
unfolding pause_text
pieces-are even count number d =
    let one = opening_lines count number d in
    let two = loop_lines d in
    let pause = stmts_lines (pause_if even no_stmts) in
    let three = closing_lines number in
    let ones = opening_text count number d in
    let twos = loop_text d in
    let threes = closing_text number in
    ap text_of (lines_split even count number d) ∙ text_of-append one (two ++ (pause ++ three))
    ∙ ap (λ (t : List ℕ). text_of one ++ t) (text_of-append two (pause ++ three) ∙ ap (λ (t : List ℕ). text_of two ++ t) (text_of-append pause three))
    ∙ (λ i. ones i ++ (twos i ++ (text_of pause ++ threes i)))
    ∙ regroup (codes "process p") (decimal number) (codes " : periodic frame ") (decimal (frame count d)) (codes "\nvar x : int\nbegin\n") (codes "get src x\nfor i : 1 .. ")
    (decimal (1 + d.turns)) (codes " do\nx := x mod 97 + ") (decimal d.addend) (codes "\nend for\nm . add ( x )\n") (text_of pause)
    (codes "put dst x\nhandler ( 10 )\nput dst 0\nend p") (codes "\n")

pub pause_of_even : (number : ℕ) → number % 2 ≡ 0 → codes "m . pause ( )\n" ≡ pause_text (is_even number)
unfolding pause_text
pause_of_even number even = ap (λ n. pause_text (n == 0)) (sym even)

pub pause_of_odd : (number : ℕ) (t : List ℕ) → number % 2 ≢ 0 → t ≡ t ++ pause_text (is_even number)
unfolding pause_text
pause_of_odd number t odd =
    let no : (number % 2 == 0) ≡ false = ne_eqb (number % 2) 0 odd in
    sym (append-nil t) ∙ ap (λ b. t ++ pause_text b) (sym no)

pub process-pieces : (count number : ℕ) (d : DrawnProcess) → process_text count number d ≡ pieces (is_even number) count number d
unfolding process_text
process-pieces count number d = pieces-are (is_even number) count number d

-- eight pieces, put one by one
put_one_by_one : (t a b c d e f g h : List ℕ) → (((((((t ++ a) ++ b) ++ c) ++ d) ++ e) ++ f) ++ g) ++ h ≡ t ++ (a ++ (b ++ (c ++ (d ++ (e ++ (f ++ (g ++ h)))))))
put_one_by_one t a b c d e f g h =
    append_assoc ((((((t ++ a) ++ b) ++ c) ++ d) ++ e) ++ f) g h ∙ append_assoc (((((t ++ a) ++ b) ++ c) ++ d) ++ e) f (g ++ h)
    ∙ append_assoc ((((t ++ a) ++ b) ++ c) ++ d) e (f ++ (g ++ h)) ∙ append_assoc (((t ++ a) ++ b) ++ c) d (e ++ (f ++ (g ++ h)))
    ∙ append_assoc ((t ++ a) ++ b) c (d ++ (e ++ (f ++ (g ++ h)))) ∙ append_assoc (t ++ a) b (c ++ (d ++ (e ++ (f ++ (g ++ h)))))
    ∙ append_assoc t a (b ++ (c ++ (d ++ (e ++ (f ++ (g ++ h))))))

pub eight_pieces : (t s_1 s_2 s_3 s_4 s_5 s_6 s_7 s_8 a b c d e f g h : List ℕ)
    → s_1 ≡ t ++ a → s_2 ≡ s_1 ++ b → s_3 ≡ s_2 ++ c → s_4 ≡ s_3 ++ d → s_5 ≡ s_4 ++ e → s_6 ≡ s_5 ++ f → s_7 ≡ s_6 ++ g → s_8 ≡ s_7 ++ h
    → s_8 ≡ t ++ (a ++ (b ++ (c ++ (d ++ (e ++ (f ++ (g ++ h)))))))
eight_pieces t s_1 s_2 s_3 s_4 s_5 s_6 s_7 s_8 a b c d e f g h e_1 e_2 e_3 e_4 e_5 e_6 e_7 e_8 =
    e_8 ∙ ap (λ (s : List ℕ). s ++ h) (e_7 ∙ ap (λ (s : List ℕ). s ++ g) (e_6 ∙ ap (λ (s : List ℕ). s ++ f) (e_5 ∙ ap (λ (s : List ℕ). s ++ e) (e_4
    ∙ ap (λ (s : List ℕ). s ++ d) (e_3 ∙ ap (λ (s : List ℕ). s ++ c) (e_2 ∙ ap (λ (s : List ℕ). s ++ b) e_1)))))) ∙ put_one_by_one t a b c d e f g h

-- ---- the program

-- the text from the process after so many on, so many being left
unfoldable pub rest : (key count before left : ℕ) → List ℕ
rest key count before left = text_of (lines_of decl_lines (processes_from key count before left) ++ end_line (codes "load") ∷ [])

pub rest-more : (key count before left : ℕ) → rest key count before (suc left) ≡ process_text count (suc before) (drawn key before) ++ rest key count (suc before) left
unfolding rest process_text
rest-more key count before left =
    let p = process_lines (load_process count (suc before) (drawn key before)) in
    let ps = lines_of decl_lines (processes_from key count (suc before) left) in
    ap text_of (append_assoc p ps (end_line (codes "load") ∷ [])) ∙ text_of-append p (ps ++ end_line (codes "load") ∷ [])

rest_step : (key count before : ℕ) → before < count
    → rest key count before (count - before) ≡ process_text count (before + 1) (drawn key before) ++ rest key count (before + 1) (count - (before + 1))
rest_step key count before below =
    let left : count - before ≡ suc (count - (before + 1)) = omega arith in
    let next : suc before ≡ before + 1 = omega arith in
    ap (rest key count before) left ∙ rest-more key count before (count - (before + 1))
    ∙ ap (λ n. process_text count n (drawn key before) ++ rest key count n (count - (before + 1))) next

-- one more process is put
pub one_more : (key count before : ℕ) (t s : List ℕ) → before < count → t ++ rest key count before (count - before) ≡ program_text key count
    → s ≡ t ++ process_text count (before + 1) (drawn key before) → s ++ rest key count (before + 1) (count - (before + 1)) ≡ program_text key count
one_more key count before t s below so_far is =
    ap (λ (u : List ℕ). u ++ rest key count (before + 1) (count - (before + 1))) is
    ∙ append_assoc t (process_text count (before + 1) (drawn key before)) (rest key count (before + 1) (count - (before + 1)))
    ∙ ap (λ (u : List ℕ). t ++ u) (sym (rest_step key count before below)) ∙ so_far

-- the program with so many processes left of it
abbrev pub with_left : (key count left : ℕ) → Prog Nowhere
with_left key count left = record (load_program key count) {
  decls = device (codes "src") tt false ∷ device (codes "dst") tt true ∷ monitor load_monitor ∷ processes_from key count 0 left;
}

pub opening-left : (key count left : ℕ) → codes "program load\ndevice src : in\ndevice dst : out\nmonitor m\nvar n : int\ncondition c\nentry procedure add ( v : int )\nbegin\nn := v\nsignal c\nend add\nentry procedure pause ( )\nbegin\nwait c noLongerThan 50 : 10\nend pause\nend m\n" ++ rest key count 0 left
    ≡ canonical (with_left key count left)
unfolding rest digits
opening-left key count left = refl

pub opening-is : (key count : ℕ) → codes "program load\ndevice src : in\ndevice dst : out\nmonitor m\nvar n : int\ncondition c\nentry procedure add ( v : int )\nbegin\nn := v\nsignal c\nend add\nentry procedure pause ( )\nbegin\nwait c noLongerThan 50 : 10\nend pause\nend m\n" ++ rest key count 0 (count - 0) ≡ program_text key count
unfolding program_text
opening-is key count =
    let all : count - 0 ≡ count = omega arith in
    opening-left key count (count - 0) ∙ ap (λ n. canonical (with_left key count n)) all

-- the last line
pub ending-is : (key count before : ℕ) (t s : List ℕ) → count ≤ before → t ++ rest key count before (count - before) ≡ program_text key count
    → s ≡ t ++ codes "end load\n" → s ≡ program_text key count
unfolding rest
ending-is key count before t s all so_far is =
    let none : count - before ≡ 0 = omega arith in
    is ∙ sym (ap (λ n. t ++ rest key count before n) none) ∙ so_far
