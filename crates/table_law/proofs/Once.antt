-- The text of a table is that of one table, and has no fault.
use Rattle.std.proofs.Common.{◌≡◌, ◌≢◌, ◌<◌, ◌≤◌, ℕ, List, [], ◌∷◌, ◌++◌, length, flat_map, get_or, refl, sym, ap, subst, ◌∙◌, arith, length-append}
use Rattle.std.proofs.lemmas.List.{append_assoc, append-nil}
use Rattle.std.proofs.lemmas.List.Elements.{All-head}
use Rattle.table_format.specs.declared.table.TaskLine.{TaskLine}
use Rattle.table_format.specs.declared.table.TaskTable.{TaskTable}
use Rattle.table_format.specs.Spelling.{Word, SaidLine, said, first_line, process_line, last_line, lines_before_end, table_bytes}
use Rattle.table_format.specs.Rules.{IsName, IsTaskLine, IsBegun, IsTable, longest_text}
use Rattle.table_format.specs.Faults.{meant, IsTableWord, IsFormed, BeginsWithFirst, BeginsWithProcess, BeginsWithLast, Breaks, IsFirstLineFault, no_first, no_name, IsNextLineFault, no_form, breaks, no_process, IsTableFault, too_long, of_first, of_next, behind_end}
use Rattle.table_law.proofs.Numbers.{name_word}
use Rattle.table_law.proofs.Lines.{formed_said, said_once, lines, no_last, IsBehind, behind, first_once}
use Rattle.table_law.proofs.Begun.{no_break, one_line}

-- the bytes of a table: its first line, and then the others
bytes_are : (t : TaskTable) → table_bytes t ≡ first_line t.name ++ (lines t.tasks ++ last_line)
bytes_are t = append_assoc (first_line t.name) (lines t.tasks) last_line

-- a table of which the text has the first line and some more
pub record HasFront (t u : TaskTable) (rest : List ℕ) : Type 0 where
  pub name : t.name ≡ u.name
  pub others : IsBehind t.tasks u.tasks rest

front : (t u : TaskTable) (rest : List ℕ) → IsBegun t → IsBegun u → table_bytes t ≡ lines_before_end u ++ rest → HasFront t u rest
front t u rest is also e =
    let one = first_once t.name u.name (lines t.tasks ++ last_line) (lines u.tasks ++ rest) (name_word t.name is.name) (name_word u.name also.name)
    (sym (bytes_are t) ∙ (e ∙ append_assoc (first_line u.name) (lines u.tasks) rest)) in
    record { name = one.0; others = behind t.tasks u.tasks rest is.tasks also.tasks one.1 }

-- behind the last process line stands the last line
last_then : (ps : List TaskLine) (rest : List ℕ) → lines ps ++ last_line ≡ last_line ++ rest → ps ≡ []
last_then [] rest e = refl
last_then (p ∷ ps) rest e = absurd (no_last (said p) (lines ps ++ last_line) rest (sym e ∙ append_assoc (process_line (said p)) (lines ps) last_line))

nothing_behind : (rest : List ℕ) → last_line ≡ last_line ++ rest → rest ≡ []
nothing_behind [] e = refl
nothing_behind (b ∷ bs) e = let long = ap length e ∙ length-append last_line (b ∷ bs) in absurd (omega (arith, long))

pub table_is : (t u : TaskTable) → t.name ≡ u.name → t.tasks ≡ u.tasks → (let r : TaskTable = record { name = t.name; tasks = t.tasks } in r) ≡ record { name = u.name; tasks = u.tasks }
table_is t u a b = cc

pub one_table : (text : List ℕ) (t u : TaskTable) → IsTable text t → IsTable text u → t ≡ u
one_table text t u is also =
    let f = front t u last_line is.begun also.begun (sym is.spelled ∙ also.spelled) in
    let later = f.others in
    let none : later.later ≡ [] = last_then later.later [] (sym later.is ∙ sym (append-nil last_line)) in
    table_is t u f.name (later.whole ∙ (ap (λ (ps : List TaskLine). u.tasks ++ ps) none ∙ append-nil u.tasks))

-- ---- no fault

module _ (t : TaskTable) (begun : IsBegun t) (some : t.tasks ≢ []) where
  first_fault : (text : List ℕ) (number : ℕ) → text ≡ table_bytes t → IsFirstLineFault text number → ⊥
  first_fault text number is (no_first never at) =
      never t.name (record { word = name_word t.name begun.name; rest = lines t.tasks ++ last_line; is = is ∙ bytes_are t })
  first_fault text number is (no_name name begins bad at) =
      let one = first_once t.name name (lines t.tasks ++ last_line) begins.rest (name_word t.name begun.name) begins.word (sym (bytes_are t) ∙ (sym is ∙ begins.is)) in
      bad (subst IsName one.0 begun.name)

  -- a line behind some of its lines
  next_fault : (u : TaskTable) (rest : List ℕ) (number : ℕ) → t.name ≡ u.name → (later : List TaskLine) → t.tasks ≡ u.tasks ++ later → rest ≡ lines later ++ last_line → IsNextLineFault u rest number → ⊥
  next_fault u rest number named [] whole is (no_form never no_end at) = no_end ([], is ∙ sym (append-nil last_line))
  next_fault u rest number named (p ∷ later) whole is (no_form never no_end at) =
      never (said p) (record { form = formed_said p (one_line t begun u p later whole); rest = lines later ++ last_line; is = is ∙ append_assoc (process_line (said p)) (lines later) last_line })
  next_fault u rest number named [] whole is (breaks s begins wrong) = no_last s begins.rest [] (append-nil last_line ∙ (sym is ∙ begins.is))
  next_fault u rest number named (p ∷ later) whole is (breaks s begins wrong) =
      let one = said_once p s (lines later ++ last_line) begins.rest (one_line t begun u p later whole) begins.form (sym (append_assoc (process_line (said p)) (lines later) last_line) ∙ (sym is ∙ begins.is)) in
      no_break t begun u p later named whole number (subst (λ (q : TaskLine). Breaks u q number) one.0 wrong.is)
  next_fault u rest number named [] whole is (no_process last none at) = some (whole ∙ (append-nil u.tasks ∙ none))
  next_fault u rest number named (p ∷ later) whole is (no_process (more, last) none at) =
      no_last (said p) (lines later ++ last_line) more (sym last ∙ (is ∙ append_assoc (process_line (said p)) (lines later) last_line))

pub no_fault : (text : List ℕ) (t : TaskTable) (number line : ℕ) → IsTable text t → IsTableFault text number line → ⊥
no_fault text t number line is (too_long long seven zero) = let short = is.short in absurd (omega (arith, long, short))
no_fault text t number line is (of_first short fault at) = first_fault t is.begun is.some text number is.spelled fault
no_fault text t number line is (of_next short u rest whole also fault at) =
    let f = front t u rest is.begun also (sym is.spelled ∙ whole) in
    let later = f.others in
    next_fault t is.begun is.some u rest number f.name later.later later.whole later.is fault
no_fault text t number line is (behind_end short u rest whole also has more one at) =
    let e : table_bytes t ≡ lines_before_end u ++ (last_line ++ rest) = sym is.spelled ∙ (whole ∙ append_assoc (lines_before_end u) last_line rest) in
    let f = front t u (last_line ++ rest) is.begun also e in
    let later = f.others in
    let none : later.later ≡ [] = last_then later.later rest (sym later.is) in
    more (nothing_behind rest (sym (later.is ∙ ap (λ (ps : List TaskLine). lines ps ++ last_line) none)))
