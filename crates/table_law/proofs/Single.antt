-- A text has one fault at most.
use Rattle.std.proofs.Common.{◌≡◌, ◌≢◌, inl, inr, ◌+◌, ◌<◌, ◌≤◌, ℕ, List, [], ◌∷◌, ◌++◌, length, refl, sym, ap, subst, ◌∙◌, arith}
use Rattle.std.proofs.lemmas.Bool.{cases_lt}
use Rattle.std.proofs.lemmas.List.{append_assoc, append-nil}
use Rattle.std.proofs.lemmas.List.Elements.{All-head, All-tail}
use Rattle.std.specs.Prelude.{All}
use Rattle.table_format.specs.declared.table.TaskLine.{TaskLine}
use Rattle.table_format.specs.declared.table.TaskTable.{TaskTable}
use Rattle.table_format.specs.Spelling.{Word, SaidLine, said, first_line, process_line, process_words, last_line, lines_before_end, table_bytes}
use Rattle.table_format.specs.Rules.{IsName, IsTaskLine, IsBegun, longest_text}
use Rattle.table_format.specs.Faults.{meant, BeginsWithFirst, BeginsWithProcess, BeginsWithLast, Breaks, IsLeast, IsFirstLineFault, no_first, no_name, IsNextLineFault, no_form, breaks, no_process, IsTableFault, too_long, of_first, of_next, behind_end}
use Rattle.table_law.proofs.Words.{line_once, words_once}
use Rattle.table_law.proofs.Numbers.{name_word}
use Rattle.table_law.proofs.Lines.{small_line, means_itself, formed_words, formed_said, said_once, lines, no_last, first_once}
use Rattle.table_law.proofs.Begun.{no_break, one_line}
use Rattle.table_law.proofs.Once.{table_is}

-- ---- two tables begun with one text

-- both have the same lines, or one goes on with a process line where the other ends
pub data Meeting (us vs : List TaskLine) (r q : List ℕ) : Type 0 where
  same : us ≡ vs → r ≡ q → Meeting us vs r q
  longer : (p : TaskLine) (later : List TaskLine) → us ≡ vs ++ p ∷ later → q ≡ process_line (said p) ++ (lines later ++ r) → Meeting us vs r q
  shorter : (p : TaskLine) (later : List TaskLine) → vs ≡ us ++ p ∷ later → r ≡ process_line (said p) ++ (lines later ++ q) → Meeting us vs r q

with_first : (p v : TaskLine) (us vs : List TaskLine) (r q : List ℕ) → v ≡ p → Meeting us vs r q → Meeting (p ∷ us) (v ∷ vs) r q
with_first p v us vs r q one (same e f) = same (let j : p ∷ us ≡ v ∷ vs = cc in j) f
with_first p v us vs r q one (longer x later e f) = longer x later (let j : p ∷ us ≡ (v ∷ vs) ++ x ∷ later = cc in j) f
with_first p v us vs r q one (shorter x later e f) = shorter x later (let j : v ∷ vs ≡ (p ∷ us) ++ x ∷ later = cc in j) f

meet : (us vs : List TaskLine) (r q : List ℕ) → All IsTaskLine us → All IsTaskLine vs → lines us ++ r ≡ lines vs ++ q → Meeting us vs r q
meet [] [] r q are also e = same refl e
meet [] (v ∷ vs) r q are also e = shorter v vs refl (e ∙ append_assoc (process_line (said v)) (lines vs) q)
meet (p ∷ us) [] r q are also e = longer p us refl (sym e ∙ append_assoc (process_line (said p)) (lines us) r)
meet (p ∷ us) (v ∷ vs) r q are also e =
    let p_is = All-head IsTaskLine p us are in
    let v_is = All-head IsTaskLine v vs also in
    let one = said_once p (said v) (lines us ++ r) (lines vs ++ q) p_is (formed_said v v_is) (sym (append_assoc (process_line (said p)) (lines us) r) ∙ (e ∙ append_assoc (process_line (said v)) (lines vs) q)) in
    let is : v ≡ p = sym (means_itself v (small_line v v_is.ranges)) ∙ one.0 in
    with_first p v us vs r q is (meet us vs r q (All-tail IsTaskLine p us are) (All-tail IsTaskLine v vs also) one.1)

-- what both have of a text: one name, and the lines
pub record Meets (u v : TaskTable) (r q : List ℕ) : Type 0 where
  pub name : u.name ≡ v.name
  pub others : Meeting u.tasks v.tasks r q

meets : (text : List ℕ) (u v : TaskTable) (r q : List ℕ) → IsBegun u → IsBegun v → text ≡ lines_before_end u ++ r → text ≡ lines_before_end v ++ q → Meets u v r q
meets text u v r q is also here there =
    let one = first_once u.name v.name (lines u.tasks ++ r) (lines v.tasks ++ q) (name_word u.name is.name) (name_word v.name also.name)
    (sym (append_assoc (first_line u.name) (lines u.tasks) r) ∙ (sym here ∙ (there ∙ append_assoc (first_line v.name) (lines v.tasks) q))) in
    record { name = one.0; others = meet u.tasks v.tasks r q is.tasks also.tasks one.1 }

-- ---- where a line of a table stands, there is no fault

next_right : (t : TaskTable) → IsBegun t → (u : TaskTable) (p : TaskLine) (later : List TaskLine) → t.name ≡ u.name → t.tasks ≡ u.tasks ++ p ∷ later → (rest more : List ℕ) (number : ℕ)
    → rest ≡ process_line (said p) ++ more → IsNextLineFault u rest number → ⊥
next_right t begun u p later named whole rest more number is (no_form never no_end at) = never (said p) (record { form = formed_said p (one_line t begun u p later whole); rest = more; is = is })
next_right t begun u p later named whole rest more number is (breaks s begins wrong) =
    let one = said_once p s more begins.rest (one_line t begun u p later whole) begins.form (sym is ∙ begins.is) in
    no_break t begun u p later named whole number (subst (λ (q : TaskLine). Breaks u q number) one.0 wrong.is)
next_right t begun u p later named whole rest more number is (no_process (other, last) none at) = no_last (said p) more other (sym last ∙ is)

first_right : (u : TaskTable) → IsBegun u → (text rest : List ℕ) (number : ℕ) → text ≡ lines_before_end u ++ rest → IsFirstLineFault text number → ⊥
first_right u begun text rest number is (no_first never at) = never u.name (record { word = name_word u.name begun.name; rest = lines u.tasks ++ rest; is = is ∙ append_assoc (first_line u.name) (lines u.tasks) rest })
first_right u begun text rest number is (no_name name begins bad at) =
    let one = first_once u.name name (lines u.tasks ++ rest) begins.rest (name_word u.name begun.name) begins.word (sym (append_assoc (first_line u.name) (lines u.tasks) rest) ∙ (sym is ∙ begins.is)) in
    bad (subst IsName one.0 begun.name)

-- where the last line stands behind some process, there is none
end_right : (u : TaskTable) (rest more : List ℕ) (number : ℕ) → u.tasks ≢ [] → rest ≡ last_line ++ more → IsNextLineFault u rest number → ⊥
end_right u rest more number some is (no_form never no_end at) = no_end (more, is)
end_right u rest more number some is (breaks s begins wrong) = no_last s begins.rest more (sym is ∙ begins.is)
end_right u rest more number some is (no_process last none at) = some none

-- ---- one line has one fault

least_once : (test : ℕ → Type 0) (n m : ℕ) → IsLeast test n → IsLeast test m → n ≡ m
least_once test n m f g = elim (cases_lt n m) [
  | inl less ↦ absurd (g.least n less f.is)
  | inr more ↦ elim (cases_lt m n) [
    | inl less ↦ absurd (f.least m less g.is)
    | inr both ↦ omega (arith, more, both)
  ]
]

one_process : (rest : List ℕ) (s q : SaidLine) → BeginsWithProcess rest s → BeginsWithProcess rest q → s ≡ q
one_process rest s q a b = words_once s q (line_once (process_words s) (process_words q) a.rest b.rest (formed_words s a.form) (formed_words q b.form) (sym a.is ∙ b.is)).0

next_once : (u : TaskTable) (rest : List ℕ) (n m : ℕ) → IsNextLineFault u rest n → IsNextLineFault u rest m → n ≡ m
next_once u rest n m (no_form never no_end at) (no_form never' no_end' at') = at ∙ sym at'
next_once u rest n m (no_form never no_end at) (breaks s begins wrong) = absurd (never s begins)
next_once u rest n m (no_form never no_end at) (no_process last none at') = absurd (no_end last)
next_once u rest n m (breaks s begins wrong) (no_form never no_end at) = absurd (never s begins)
next_once u rest n m (breaks s begins wrong) (breaks q begins' wrong') =
    let is = one_process rest q s begins' begins in
    least_once (Breaks u (meant s)) n m wrong (subst (λ (x : SaidLine). IsLeast (Breaks u (meant x)) m) is wrong')
next_once u rest n m (breaks s begins wrong) (no_process (more, last) none at) = absurd (no_last s begins.rest more (sym last ∙ begins.is))
next_once u rest n m (no_process last none at) (no_form never no_end at') = absurd (no_end last)
next_once u rest n m (no_process (more, last) none at) (breaks s begins wrong) = absurd (no_last s begins.rest more (sym last ∙ begins.is))
next_once u rest n m (no_process last none at) (no_process last' none' at') = at ∙ sym at'

first_one : (text : List ℕ) (n m : ℕ) → IsFirstLineFault text n → IsFirstLineFault text m → n ≡ m
first_one text n m (no_first never at) (no_first never' at') = at ∙ sym at'
first_one text n m (no_first never at) (no_name name begins bad at') = absurd (never name begins)
first_one text n m (no_name name begins bad at) (no_first never at') = absurd (never name begins)
first_one text n m (no_name name begins bad at) (no_name name' begins' bad' at') = at ∙ sym at'

-- ---- a text has one fault

abbrev Alike : (n m l k : ℕ) → Type 0
Alike n m l k = (n ≡ m) × (l ≡ k)

both_next : (text : List ℕ) (u v : TaskTable) (r q : List ℕ) (n m l k : ℕ) → IsBegun u → IsBegun v → Meets u v r q → IsNextLineFault u r n → IsNextLineFault v q m → l ≡ length u.tasks + 2 → k ≡ length v.tasks + 2 → Alike n m l k
both_next text u v r q n m l k is also met f g here there = elim met.others [
  | same tasks rests ↦
      let table : v ≡ u = table_is v u (sym met.name) (sym tasks) in (
        next_once u r n m f (subst (λ (t : TaskTable). IsNextLineFault t r m) table (subst (λ (bytes : List ℕ). IsNextLineFault v bytes m) (sym rests) g)),
        (let many = ap length tasks in omega (arith, many, here, there)),
      )
  | longer p later whole rest ↦ absurd (next_right u is v p later met.name whole q (lines later ++ r) m rest g)
  | shorter p later whole rest ↦ absurd (next_right v also u p later (sym met.name) whole r (lines later ++ q) n rest f)
]

next_and_end : (u v : TaskTable) (r more : List ℕ) (n : ℕ) → IsBegun u → IsBegun v → v.tasks ≢ [] → Meets u v r (last_line ++ more) → IsNextLineFault u r n → ⊥
next_and_end u v r more n is also some met f = elim met.others [
  | same tasks rests ↦ end_right u r more n (λ none. some (sym tasks ∙ none)) rests f
  | longer p later whole rest ↦ no_last (said p) (lines later ++ r) more rest
  | shorter p later whole rest ↦ next_right v also u p later (sym met.name) whole r (lines later ++ (last_line ++ more)) n rest f
]

both_end : (u v : TaskTable) (more other : List ℕ) (n m l k : ℕ) → Meets u v (last_line ++ more) (last_line ++ other) → n ≡ 1 → m ≡ 1 → l ≡ length u.tasks + 3 → k ≡ length v.tasks + 3 → Alike n m l k
both_end u v more other n m l k met one also here there = elim met.others [
  | same tasks rests ↦ (one ∙ sym also, (let many = ap length tasks in omega (arith, many, here, there)))
  | longer p later whole rest ↦ absurd (no_last (said p) (lines later ++ (last_line ++ more)) other rest)
  | shorter p later whole rest ↦ absurd (no_last (said p) (lines later ++ (last_line ++ other)) more rest)
]

end_is : (text : List ℕ) (u : TaskTable) (rest : List ℕ) → text ≡ table_bytes u ++ rest → text ≡ lines_before_end u ++ (last_line ++ rest)
end_is text u rest e = e ∙ append_assoc (lines_before_end u) last_line rest

pub one_fault : (text : List ℕ) (n m l k : ℕ) → IsTableFault text n l → IsTableFault text m k → Alike n m l k
one_fault text n m l k (too_long long seven zero) (too_long long' seven' zero') = (seven ∙ sym seven', zero ∙ sym zero')
one_fault text n m l k (too_long long seven zero) (of_first short fault at) = absurd (omega (arith, long, short))
one_fault text n m l k (too_long long seven zero) (of_next short u rest whole begun fault at) = absurd (omega (arith, long, short))
one_fault text n m l k (too_long long seven zero) (behind_end short u rest whole begun some more one at) = absurd (omega (arith, long, short))
one_fault text n m l k (of_first short fault at) (too_long long seven zero) = absurd (omega (arith, long, short))
one_fault text n m l k (of_first short fault at) (of_first short' fault' at') = (first_one text n m fault fault', at ∙ sym at')
one_fault text n m l k (of_first short fault at) (of_next short' u rest whole begun fault' at') = absurd (first_right u begun text rest n whole fault)
one_fault text n m l k (of_first short fault at) (behind_end short' u rest whole begun some more one at') = absurd (first_right u begun text (last_line ++ rest) n (end_is text u rest whole) fault)
one_fault text n m l k (of_next short u rest whole begun fault at) (too_long long seven zero) = absurd (omega (arith, long, short))
one_fault text n m l k (of_next short u rest whole begun fault at) (of_first short' fault' at') = absurd (first_right u begun text rest m whole fault')
one_fault text n m l k (of_next short u rest whole begun fault at) (of_next short' v rest' whole' begun' fault' at') =
    both_next text u v rest rest' n m l k begun begun' (meets text u v rest rest' begun begun' whole whole') fault fault' at at'
one_fault text n m l k (of_next short u rest whole begun fault at) (behind_end short' v rest' whole' begun' some more one at') =
    absurd (next_and_end u v rest rest' n begun begun' some (meets text u v rest (last_line ++ rest') begun begun' whole (end_is text v rest' whole')) fault)
one_fault text n m l k (behind_end short u rest whole begun some more one at) (too_long long seven zero) = absurd (omega (arith, long, short))
one_fault text n m l k (behind_end short u rest whole begun some more one at) (of_first short' fault' at') = absurd (first_right u begun text (last_line ++ rest) m (end_is text u rest whole) fault')
one_fault text n m l k (behind_end short u rest whole begun some more one at) (of_next short' v rest' whole' begun' fault' at') =
    absurd (next_and_end v u rest' rest m begun' begun some (meets text v u rest' (last_line ++ rest) begun' begun whole' (end_is text u rest whole)) fault')
one_fault text n m l k (behind_end short u rest whole begun some more one at) (behind_end short' v rest' whole' begun' some' more' one' at') =
    both_end u v rest rest' n m l k (meets text u v (last_line ++ rest) (last_line ++ rest') begun begun' (end_is text u rest whole) (end_is text v rest' whole')) one one' at at'
