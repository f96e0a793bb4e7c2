-- The texts of calls, entries, monitors, processes and programs, in the pieces that are put.
use Rattle.std.proofs.Common.{◌≡◌, ◌-◌, ℕ, List, [], ◌∷◌, ◌++◌, Option, Some, None, map, codes, decimal, refl, ap, sym, ◌∙◌, append_assoc, append-nil}
use Rattle.std.specs.Prelude.{flat_map, option_map}
use Rattle.syntax_tree.specs.Plain.{Name}
use Rattle.syntax_tree.specs.Placed.{Decl, monitor, process}
use Rattle.syntax.specs.Words as w
use Rattle.syntax.specs.Words.{named, number}
use Rattle.syntax_printer.specs.Canonical.{Line, line_text, text_of, stmt_lines, stmts_lines, header, entry_lines, lines_of, decl_lines, end_line, process_words, deadline_words, first_words, canonical}
use Rattle.table_format.specs.declared.table.TaskStay.{TaskStay}
use Rattle.table_format.specs.declared.table.TaskLine.{TaskLine}
use Rattle.table_format.specs.declared.table.TaskTable.{TaskTable}
use Rattle.table_format.specs.Rules.{stays, monitors, least_cost}
use Rattle.table_format.specs.Spending.{of_number, of_x, in_turn, spend}
use Rattle.table_format.specs.Program.{activation_of, stay_entry, stay_call, table_monitor, table_process, event_of, made_tail, program_with, program_of, table_text}
use Rattle.table_format.specs.Parts.{statements_text, declarations_text, entries_text, ticks_in, monitors_of, monitor_with, option_text, activation_with, activation_text}
use Rattle.table_format.proofs.Texts.{text_of-append, statements_none, statements_first, statements_both, statements_is, declarations_none, declarations_both}

-- one piece behind others
pub join : (old middle new a b : List ℕ) → middle ≡ old ++ a → new ≡ middle ++ b → new ≡ old ++ (a ++ b)
join old middle new a b first second = second ∙ ap (λ (t : List ℕ). t ++ b) first ∙ append_assoc old a b

-- the pieces are a text
pub is_put : (old new pieces text : List ℕ) → new ≡ old ++ pieces → pieces ≡ text → new ≡ old ++ text
is_put old new pieces text put is = put ∙ ap (λ (t : List ℕ). old ++ t) is

var_line : (tail : Name) → Line
var_line tail = w.VAR ∷ named (of_x tail) ∷ w.COLON ∷ w.INT ∷ []

-- ---- calls

call_text : (tail : Name) (s : TaskStay) → s.monitor ++ (codes " . stay" ++ (decimal s.ticks ++ (tail ++ codes " ( )\n"))) ≡ text_of (stmt_lines (stay_call tail s))
call_text tail s =
    sym (append-nil (s.monitor ++ (codes " . stay" ++ ((decimal s.ticks ++ tail) ++ codes " ( )\n"))) ∙ ap (λ (t : List ℕ). s.monitor ++ (codes " . stay" ++ t)) (append_assoc (decimal s.ticks) tail (codes " ( )\n")))

pub call_put : (tail : Name) (s : TaskStay) (m d old new : List ℕ) → m ≡ s.monitor → d ≡ decimal s.ticks → new ≡ old ++ (m ++ (codes " . stay" ++ (d ++ (tail ++ codes " ( )\n"))))
    → new ≡ old ++ statements_text (stay_call tail s ∷ [])
call_put tail s m d old new m_is d_is put =
    is_put old new _ (statements_text (stay_call tail s ∷ [])) put
    ((λ i. m_is i ++ (codes " . stay" ++ (d_is i ++ (tail ++ codes " ( )\n")))) ∙ call_text tail s ∙ sym (append-nil (text_of (stmt_lines (stay_call tail s)))) ∙ ap (λ (t : List ℕ). text_of (stmt_lines (stay_call tail s)) ++ t) (sym statements_none)
    ∙ sym (statements_first (stay_call tail s) []))

-- ---- entries

pub entries_none : (tail : Name) → entries_text tail [] ≡ []
unfolding entries_text
entries_none tail = refl

pub entries_first : (tail : Name) (ticks : ℕ) (more : List ℕ) → entries_text tail (ticks ∷ more) ≡ entries_text tail (ticks ∷ []) ++ entries_text tail more
unfolding entries_text
entries_first tail ticks more =
    let lines = entry_lines (stay_entry tail ticks) in
    text_of-append lines (lines_of entry_lines (map (stay_entry tail) more))
    ∙ ap (λ (t : List Line). text_of t ++ text_of (lines_of entry_lines (map (stay_entry tail) more))) (sym (append-nil lines))

four : (a b c d : List ℕ) → ((a ++ b) ++ c) ++ d ≡ a ++ (b ++ (c ++ d))
four a b c d = append_assoc (a ++ b) c d ∙ append_assoc a b (c ++ d)

-- var x : int, begin
opening : (tail : Name) → codes "var x" ++ (tail ++ codes " : int\nbegin\n") ≡ line_text (var_line tail) ++ line_text (w.BEGIN ∷ [])
unfolding var_line
opening tail = ap (λ (t : List ℕ). codes "var x" ++ t) (sym (append_assoc tail (codes " : int\n") (codes "begin\n")))

ending : (name : Name) → codes "end " ++ (name ++ codes "\n") ≡ text_of (end_line name ∷ [])
ending name = sym (append-nil (codes "end " ++ (name ++ codes "\n")))

pub entry_text : (tail : Name) (ticks : ℕ)
    → (((codes "entry procedure stay" ++ (decimal ticks ++ (tail ++ codes " ( )\n"))) ++ (codes "var x" ++ (tail ++ codes " : int\nbegin\n"))) ++ statements_text (spend tail (ticks - 3)))
    ++ (codes "end stay" ++ (decimal ticks ++ (tail ++ codes "\n")))
    ≡ entries_text tail (ticks ∷ [])
unfolding entries_text var_line
entry_text tail ticks =
    let r = stay_entry tail ticks in
    let body = stmts_lines (in_turn (spend tail (ticks - 3))) in
    let last = end_line r.close ∷ [] in
    let head : codes "entry procedure stay" ++ (decimal ticks ++ (tail ++ codes " ( )\n")) ≡ line_text (w.ENTRY ∷ header r) =
    ap (λ (t : List ℕ). codes "entry procedure stay" ++ t) (sym (append_assoc (decimal ticks) tail (codes " ( )\n"))) in
    let end : codes "end stay" ++ (decimal ticks ++ (tail ++ codes "\n")) ≡ text_of last =
    ap (λ (t : List ℕ). codes "end stay" ++ t) (sym (append_assoc (decimal ticks) tail (codes "\n"))) ∙ sym (append-nil (codes "end stay" ++ ((decimal ticks ++ tail) ++ codes "\n"))) in
    four (codes "entry procedure stay" ++ (decimal ticks ++ (tail ++ codes " ( )\n"))) (codes "var x" ++ (tail ++ codes " : int\nbegin\n")) (statements_text (spend tail (ticks - 3)))
    (codes "end stay" ++ (decimal ticks ++ (tail ++ codes "\n")))
    ∙ (λ i. head i ++ (opening tail i ++ (statements_is (spend tail (ticks - 3)) i ++ end i)))
    ∙ ap (λ (t : List ℕ). line_text (w.ENTRY ∷ header r) ++ t) (append_assoc (line_text (var_line tail)) (line_text (w.BEGIN ∷ [])) (text_of body ++ text_of last))
    ∙ ap (λ (t : List ℕ). line_text (w.ENTRY ∷ header r) ++ (line_text (var_line tail) ++ (line_text (w.BEGIN ∷ []) ++ t))) (sym (text_of-append body last))
    ∙ ap text_of (sym (append-nil (entry_lines r)))

-- ---- monitors

pub monitor_text : (tail : Name) (all : List TaskStay) (name : Name)
    → ((codes "monitor " ++ (name ++ codes "\n")) ++ entries_text tail (ticks_in name all)) ++ (codes "end " ++ (name ++ codes "\n"))
    ≡ declarations_text (monitor (monitor_with tail all name) ∷ [])
unfolding entries_text declarations_text
monitor_text tail all name =
    let entries = lines_of entry_lines (map (stay_entry tail) (ticks_in name all)) in
    let last = end_line name ∷ [] in
    append_assoc (codes "monitor " ++ (name ++ codes "\n")) (text_of entries) (codes "end " ++ (name ++ codes "\n"))
    ∙ ap (λ (t : List ℕ). line_text (w.MONITOR ∷ named name ∷ []) ++ t) (ap (λ (t : List ℕ). text_of entries ++ t) (ending name) ∙ sym (text_of-append entries last))
    ∙ ap text_of (sym (append-nil (decl_lines (monitor (monitor_with tail all name)))))

-- ---- processes

-- the line of a process, by what releases it
process_head : (p : TaskLine) (e : Option Name) → Line
process_head p None = w.PROCESS ∷ named p.name ∷ w.COLON ∷ w.PERIODIC ∷ w.FRAME ∷ number p.frame ∷ (deadline_words (option_map of_number p.deadline) ++ first_words (option_map of_number p.first))
process_head p (Some e) = w.PROCESS ∷ named p.name ∷ w.COLON ∷ w.AT_EVENT ∷ named e ∷ w.FRAME ∷ number p.frame ∷ deadline_words (option_map of_number p.deadline)

-- the numbers in the line of a periodic process
numbers_text : (n : ℕ) (d f : Option ℕ) → (decimal n ++ (option_text (codes " deadline ") d ++ option_text (codes " first activation atTime ") f)) ++ codes "\n"
    ≡ line_text (number n ∷ (deadline_words (option_map of_number d) ++ first_words (option_map of_number f)))
numbers_text n None None = ap (λ (t : List ℕ). t ++ codes "\n") (append-nil (decimal n))
numbers_text n None (Some f) = append_assoc (decimal n) (codes " first activation atTime " ++ decimal f) (codes "\n")
numbers_text n (Some d) None =
    append_assoc (decimal n) ((codes " deadline " ++ decimal d) ++ []) (codes "\n") ∙ ap (λ (t : List ℕ). decimal n ++ (codes " deadline " ++ (t ++ codes "\n"))) (append-nil (decimal d))
numbers_text n (Some d) (Some f) =
    append_assoc (decimal n) ((codes " deadline " ++ decimal d) ++ (codes " first activation atTime " ++ decimal f)) (codes "\n")
    ∙ ap (λ (t : List ℕ). decimal n ++ (codes " deadline " ++ t)) (append_assoc (decimal d) (codes " first activation atTime " ++ decimal f) (codes "\n"))

-- the numbers in the line of a process that an event releases
event_numbers_text : (n : ℕ) (d : Option ℕ) → (decimal n ++ option_text (codes " deadline ") d) ++ codes "\n" ≡ line_text (number n ∷ deadline_words (option_map of_number d))
event_numbers_text n None = ap (λ (t : List ℕ). t ++ codes "\n") (append-nil (decimal n))
event_numbers_text n (Some d) = append_assoc (decimal n) (codes " deadline " ++ decimal d) (codes "\n")

head_text : (p : TaskLine) (e : Option Name) → (codes "process " ++ (p.name ++ [])) ++ (activation_with p e ++ codes "\n") ≡ line_text (process_head p e)
unfolding process_head
head_text p None =
    ap (λ (t : List ℕ). (codes "process " ++ t) ++ (activation_with p None ++ codes "\n")) (append-nil p.name)
    ∙ ap (λ (t : List ℕ). codes "process " ++ (p.name ++ (codes " : periodic frame " ++ t))) (numbers_text p.frame p.deadline p.first)
head_text p (Some e) =
    ap (λ (t : List ℕ). (codes "process " ++ t) ++ (activation_with p (Some e) ++ codes "\n")) (append-nil p.name)
    ∙ ap (λ (t : List ℕ). codes "process " ++ (p.name ++ (codes " : atEvent " ++ t))) (append_assoc e (codes " frame " ++ (decimal p.frame ++ option_text (codes " deadline ") p.deadline)) (codes "\n")
    ∙ ap (λ (t : List ℕ). e ++ (codes " frame " ++ t)) (event_numbers_text p.frame p.deadline))

head_of : (tail : Name) (p : TaskLine) (e : Option Name) → line_text (process_words (record (table_process tail p) { activation = activation_of p e })) ≡ line_text (process_head p e)
unfolding process_head
head_of tail p None = refl
head_of tail p (Some e) = refl

head_is : (tail : Name) (p : TaskLine) → line_text (process_words (table_process tail p)) ≡ line_text (process_head p p.event)
head_is tail p = head_of tail p p.event

body_is : (tail : Name) (p : TaskLine) → statements_text (map (stay_call tail) p.stays) ++ statements_text (spend tail (p.cost - least_cost p)) ≡ text_of (stmts_lines (table_process tail p).body)
body_is tail p = sym (statements_both (map (stay_call tail) p.stays) (spend tail (p.cost - least_cost p))) ∙ statements_is (map (stay_call tail) p.stays ++ spend tail (p.cost - least_cost p))

regroup : (h b c d e : List ℕ) → (((h ++ b) ++ c) ++ d) ++ e ≡ h ++ (b ++ ((c ++ d) ++ e))
regroup h b c d e = append_assoc ((h ++ b) ++ c) d e ∙ four h b c (d ++ e) ∙ ap (λ (t : List ℕ). h ++ (b ++ t)) (sym (append_assoc c d e))

pub process_text : (tail : Name) (p : TaskLine)
    → (((((codes "process " ++ (p.name ++ [])) ++ activation_text p) ++ (codes "\nvar x" ++ (tail ++ codes " : int\nbegin\n"))) ++ statements_text (map (stay_call tail) p.stays))
    ++ statements_text (spend tail (p.cost - least_cost p))) ++ (codes "end " ++ (p.name ++ codes "\n"))
    ≡ declarations_text (process (table_process tail p) ∷ [])
unfolding declarations_text var_line
process_text tail p =
    let body = stmts_lines (table_process tail p).body in
    let last = end_line p.name ∷ [] in
    let calls = statements_text (map (stay_call tail) p.stays) in
    let spent = statements_text (spend tail (p.cost - least_cost p)) in
    let front = codes "process " ++ (p.name ++ []) in
    let open_lines = codes "var x" ++ (tail ++ codes " : int\nbegin\n") in
    let end = codes "end " ++ (p.name ++ codes "\n") in
    let line = line_text (process_words (table_process tail p)) in
    let head : front ++ (activation_text p ++ codes "\n") ≡ line = head_text p p.event ∙ sym (head_is tail p) in
    ap (λ (t : List ℕ). ((t ++ calls) ++ spent) ++ end) (sym (append_assoc (front ++ activation_text p) (codes "\n") open_lines) ∙ ap (λ (t : List ℕ). t ++ open_lines) (append_assoc front (activation_text p) (codes "\n")))
    ∙ regroup (front ++ (activation_text p ++ codes "\n")) open_lines calls spent end
    ∙ (λ i. head i ++ (opening tail i ++ (body_is tail p i ++ ending p.name i)))
    ∙ ap (λ (t : List ℕ). line ++ t) (append_assoc (line_text (var_line tail)) (line_text (w.BEGIN ∷ [])) (text_of body ++ text_of last))
    ∙ ap (λ (t : List ℕ). line ++ (line_text (var_line tail) ++ (line_text (w.BEGIN ∷ []) ++ t))) (sym (text_of-append body last))
    ∙ ap text_of (sym (append-nil (decl_lines (process (table_process tail p)))))

-- ---- events and the program

pub event_text : (e : Name) → codes "event " ++ (e ++ codes "\n") ≡ declarations_text (event_of (Some e))
unfolding declarations_text
event_text e = sym (append-nil (codes "event " ++ (e ++ codes "\n")))

whole : (decls : List (Decl (Unit {0}))) (last : List Line) → declarations_text decls ++ text_of last ≡ text_of (lines_of decl_lines decls ++ last)
unfolding declarations_text
whole decls last = sym (text_of-append (lines_of decl_lines decls) last)

pub program_text : (tail : Name) (t : TaskTable)
    → ((((codes "program " ++ (t.name ++ codes "\n")) ++ declarations_text (flat_map (λ p. event_of p.event) t.tasks))
    ++ declarations_text (map (λ name. monitor (monitor_with tail (stays t) name)) (monitors t))) ++ declarations_text (map (λ p. process (table_process tail p)) t.tasks))
    ++ (codes "end " ++ (t.name ++ codes "\n"))
    ≡ canonical (program_with tail t)
program_text tail t =
    let events = flat_map (λ p. event_of p.event) t.tasks in
    let all = map (λ name. monitor (table_monitor tail t name)) (monitors t) in
    let work = map (λ p. process (table_process tail p)) t.tasks in
    let last = end_line t.name ∷ [] in
    let ev = declarations_text events in
    let mo = declarations_text all in
    let wo = declarations_text work in
    let end = codes "end " ++ (t.name ++ codes "\n") in
    let front = codes "program " ++ (t.name ++ codes "\n") in
    append_assoc ((front ++ ev) ++ mo) wo end ∙ four front ev mo (wo ++ end)
    ∙ ap (λ (s : List ℕ). front ++ s) (ap (λ (s : List ℕ). ev ++ s) (sym (append_assoc mo wo end)) ∙ sym (append_assoc ev (mo ++ wo) end)
    ∙ ap (λ (s : List ℕ). (ev ++ s) ++ end) (sym (declarations_both all work)) ∙ ap (λ (s : List ℕ). (ev ++ declarations_text (all ++ work)) ++ s) (ending t.name))
    ∙ ap (λ (s : List ℕ). front ++ (s ++ text_of last)) (sym (declarations_both events (all ++ work)))
    ∙ ap (λ (s : List ℕ). line_text (w.PROGRAM ∷ named t.name ∷ []) ++ s) (whole (events ++ (all ++ work)) last)

-- ---- what was put, piece by piece

pub entry_put : (tail : Name) (ticks : ℕ) (d : List ℕ) (less : ℕ) (old t_1 t_2 t_3 t_4 : List ℕ) → d ≡ decimal ticks → less ≡ ticks - 3
    → t_1 ≡ old ++ (codes "entry procedure stay" ++ (d ++ (tail ++ codes " ( )\n"))) → t_2 ≡ t_1 ++ (codes "var x" ++ (tail ++ codes " : int\nbegin\n"))
    → t_3 ≡ t_2 ++ statements_text (spend tail less) → t_4 ≡ t_3 ++ (codes "end stay" ++ (d ++ (tail ++ codes "\n")))
    → t_4 ≡ old ++ entries_text tail (ticks ∷ [])
entry_put tail ticks d less old t_1 t_2 t_3 t_4 is so e_1 e_2 e_3 e_4 =
    is_put old t_4 _ _ (join old t_3 t_4 _ _ (join old t_2 t_3 _ _ (join old t_1 t_2 _ _ (e_1 ∙ ap (λ (s : List ℕ). old ++ (codes "entry procedure stay" ++ (s ++ (tail ++ codes " ( )\n")))) is) e_2)
    (e_3 ∙ ap (λ n. t_2 ++ statements_text (spend tail n)) so)) (e_4 ∙ ap (λ (s : List ℕ). t_3 ++ (codes "end stay" ++ (s ++ (tail ++ codes "\n")))) is)) (entry_text tail ticks)

pub periodic_put : (p : TaskLine) (d old t_1 t_2 t_3 : List ℕ) → d ≡ decimal p.frame → p.event ≡ None
    → t_1 ≡ old ++ (codes " : periodic frame " ++ (d ++ [])) → t_2 ≡ t_1 ++ option_text (codes " deadline ") p.deadline → t_3 ≡ t_2 ++ option_text (codes " first activation atTime ") p.first
    → t_3 ≡ old ++ activation_text p
periodic_put p d old t_1 t_2 t_3 is none e_1 e_2 e_3 =
    let deadline = option_text (codes " deadline ") p.deadline in
    let first = option_text (codes " first activation atTime ") p.first in
    is_put old t_3 _ (activation_text p) (join old t_2 t_3 _ _ (join old t_1 t_2 _ _ e_1 e_2) e_3)
    (append_assoc (codes " : periodic frame " ++ (d ++ [])) deadline first ∙ ap (λ (s : List ℕ). codes " : periodic frame " ++ (s ++ (deadline ++ first))) (append-nil d ∙ is) ∙ ap (activation_with p) (sym none))

pub at_event_put : (p : TaskLine) (e name d old t_1 t_2 : List ℕ) → d ≡ decimal p.frame → e ≡ name → p.event ≡ Some name
    → t_1 ≡ old ++ (codes " : atEvent " ++ (e ++ (codes " frame " ++ (d ++ [])))) → t_2 ≡ t_1 ++ option_text (codes " deadline ") p.deadline
    → t_2 ≡ old ++ activation_text p
at_event_put p e name d old t_1 t_2 is named_so event_is e_1 e_2 =
    let deadline = option_text (codes " deadline ") p.deadline in
    is_put old t_2 _ (activation_text p) (join old t_1 t_2 _ _ e_1 e_2)
    (ap (λ (s : List ℕ). codes " : atEvent " ++ s) (append_assoc e (codes " frame " ++ (d ++ [])) deadline)
    ∙ (λ i. codes " : atEvent " ++ (named_so i ++ (codes " frame " ++ ((append-nil d ∙ is) i ++ deadline)))) ∙ ap (activation_with p) (sym event_is))

pub option_put : (before : List ℕ) (o : Option ℕ) (n : ℕ) (d old new : List ℕ) → d ≡ decimal n → o ≡ Some n → new ≡ old ++ (before ++ (d ++ [])) → new ≡ old ++ option_text before o
option_put before o n d old new is some put =
    put ∙ ap (λ (s : List ℕ). old ++ (before ++ s)) (append-nil d ∙ is) ∙ ap (λ (x : Option ℕ). old ++ option_text before x) (sym some)

pub option_none : (before : List ℕ) (o : Option ℕ) (old : List ℕ) → o ≡ None → old ≡ old ++ option_text before o
option_none before o old none = sym (append-nil old) ∙ ap (λ (x : Option ℕ). old ++ option_text before x) (sym none)

pub event_none : (e : Option Name) (old : List ℕ) → e ≡ None → old ≡ old ++ declarations_text (event_of e)
event_none e old none = sym (append-nil old) ∙ ap (λ (s : List ℕ). old ++ s) (sym declarations_none) ∙ ap (λ (x : Option Name). old ++ declarations_text (event_of x)) (sym none)

pub event_put : (o : Option Name) (e name old new : List ℕ) → e ≡ name → o ≡ Some name → new ≡ old ++ (codes "event " ++ (e ++ codes "\n")) → new ≡ old ++ declarations_text (event_of o)
event_put o e name old new so some put =
    put ∙ ap (λ (s : List ℕ). old ++ (codes "event " ++ (s ++ codes "\n"))) so ∙ ap (λ (s : List ℕ). old ++ s) (event_text name) ∙ ap (λ (x : Option Name). old ++ declarations_text (event_of x)) (sym some)

pub monitor_put : (tail : Name) (all : List TaskStay) (name : Name) (ticks : List ℕ) (old t_1 t_2 t_3 : List ℕ) → ticks ≡ ticks_in name all
    → t_1 ≡ old ++ (codes "monitor " ++ (name ++ codes "\n")) → t_2 ≡ t_1 ++ entries_text tail ticks → t_3 ≡ t_2 ++ (codes "end " ++ (name ++ codes "\n"))
    → t_3 ≡ old ++ declarations_text (monitor (monitor_with tail all name) ∷ [])
monitor_put tail all name ticks old t_1 t_2 t_3 is e_1 e_2 e_3 =
    is_put old t_3 _ _ (join old t_2 t_3 _ _ (join old t_1 t_2 _ _ e_1 (e_2 ∙ ap (λ ts. t_1 ++ entries_text tail ts) is)) e_3) (monitor_text tail all name)

pub process_put : (tail : Name) (p : TaskLine) (left : ℕ) (old t_1 t_2 t_3 t_4 t_5 t_6 : List ℕ) → left ≡ p.cost - least_cost p
    → t_1 ≡ old ++ (codes "process " ++ (p.name ++ [])) → t_2 ≡ t_1 ++ activation_text p → t_3 ≡ t_2 ++ (codes "\nvar x" ++ (tail ++ codes " : int\nbegin\n"))
    → t_4 ≡ t_3 ++ statements_text (map (stay_call tail) p.stays) → t_5 ≡ t_4 ++ statements_text (spend tail left) → t_6 ≡ t_5 ++ (codes "end " ++ (p.name ++ codes "\n"))
    → t_6 ≡ old ++ declarations_text (process (table_process tail p) ∷ [])
process_put tail p left old t_1 t_2 t_3 t_4 t_5 t_6 is e_1 e_2 e_3 e_4 e_5 e_6 =
    is_put old t_6 _ _ (join old t_5 t_6 _ _ (join old t_4 t_5 _ _ (join old t_3 t_4 _ _ (join old t_2 t_3 _ _ (join old t_1 t_2 _ _ e_1 e_2) e_3) e_4)
    (e_5 ∙ ap (λ n. t_4 ++ statements_text (spend tail n)) is)) e_6) (process_text tail p)

pub program_put : (tail : Name) (t : TaskTable) (all : List TaskStay) (old t_1 t_2 t_3 t_4 t_5 : List ℕ) → all ≡ stays t → old ≡ []
    → t_1 ≡ old ++ (codes "program " ++ (t.name ++ codes "\n")) → t_2 ≡ t_1 ++ declarations_text (flat_map (λ p. event_of p.event) t.tasks)
    → t_3 ≡ t_2 ++ declarations_text (map (λ name. monitor (monitor_with tail all name)) (monitors_of all))
    → t_4 ≡ t_3 ++ declarations_text (map (λ p. process (table_process tail p)) t.tasks) → t_5 ≡ t_4 ++ (codes "end " ++ (t.name ++ codes "\n"))
    → t_5 ≡ canonical (program_with tail t)
program_put tail t all old t_1 t_2 t_3 t_4 t_5 is none e_1 e_2 e_3 e_4 e_5 =
    is_put old t_5 _ (canonical (program_with tail t)) (join old t_4 t_5 _ _ (join old t_3 t_4 _ _ (join old t_2 t_3 _ _ (join old t_1 t_2 _ _ e_1 e_2)
    (e_3 ∙ ap (λ (every : List TaskStay). t_2 ++ declarations_text (map (λ name. monitor (monitor_with tail every name)) (monitors_of every))) is)) e_4) e_5) (program_text tail t)
    ∙ ap (λ (s : List ℕ). s ++ canonical (program_with tail t)) none

-- with the tail of the table it is the text of the table
pub text_is : (t : TaskTable) (tail : Name) → tail ≡ made_tail t → canonical (program_with tail t) ≡ table_text t
unfolding program_of table_text
text_is t tail is = ap (λ (m : Name). canonical (program_with m t)) is
