-- What a text is by its lines.
use Rattle.std.proofs.Common.{◌≡◌, ◌≢◌, ◌<◌, ◌≤◌, ◌+◌, ℕ, List, [], ◌∷◌, ◌++◌, length, flat_map, codes, refl, ap, sym, ◌∙◌, arith, length-append}
use Rattle.std.proofs.lemmas.List.{append_assoc, append-nil}
use Rattle.std.proofs.lemmas.Grind.{flat_map-append}
use Rattle.text_fields.specs.Fields.{Lacks, IsCutAt, spaced}
use Rattle.text_fields.proofs.Cuts.{cut_once, cut_lacks}
use Rattle.table_format.specs.declared.table.TaskLine.{TaskLine}
use Rattle.table_format.specs.declared.table.TaskTable.{TaskTable}
use Rattle.table_format.specs.Spelling.{Word, SaidLine, said, first_line, process_words, process_line, last_line, lines_before_end, table_bytes}
use Rattle.table_format.specs.Rules.{IsBegun, IsTable, longest_text}
use Rattle.table_format.specs.Faults.{meant, with_line, IsFormed, BeginsWithFirst, BeginsWithProcess, BeginsWithLast, Breaks, IsLeast, no_form, breaks, no_process, IsTableFault, of_next, behind_end}
use Rattle.table_reader.proofs.Plain.{formed_plain, no_feed, table_no_feed}

-- ---- bytes cut at their first LF

pub no_first_line : (bytes : List ℕ) → Lacks 10 bytes → (name : Word) → ¬ BeginsWithFirst bytes name
no_first_line bytes lacks name begins =
    cut_lacks 10 bytes (codes "table " ++ name) begins.rest lacks (begins.is ∙ append_assoc (codes "table " ++ name) (10 ∷ []) begins.rest)

pub first_cut : (bytes before after : List ℕ) → IsCutAt 10 bytes before after → (name : Word) → (begins : BeginsWithFirst bytes name) → before ≡ codes "table " ++ name
first_cut bytes before after cut name begins =
    (cut_once 10 before after (codes "table " ++ name) begins.rest cut.first (table_no_feed name begins.word)
    (sym cut.whole ∙ (begins.is ∙ append_assoc (codes "table " ++ name) (10 ∷ []) begins.rest))).0

pub first_is : (bytes before after : List ℕ) → IsCutAt 10 bytes before after → (name : Word) → before ≡ codes "table " ++ name → bytes ≡ first_line name ++ after
first_is bytes before after cut name is =
    cut.whole ∙ (ap (λ (xs : List ℕ). xs ++ 10 ∷ after) is ∙ sym (append_assoc (codes "table " ++ name) (10 ∷ []) after))

pub no_process_line : (bytes : List ℕ) → Lacks 10 bytes → (s : SaidLine) → ¬ BeginsWithProcess bytes s
no_process_line bytes lacks s begins =
    cut_lacks 10 bytes (spaced (process_words s)) begins.rest lacks (begins.is ∙ append_assoc (spaced (process_words s)) (10 ∷ []) begins.rest)

pub no_last_line : (bytes : List ℕ) → Lacks 10 bytes → ¬ BeginsWithLast bytes
no_last_line bytes lacks (rest, is) = cut_lacks 10 bytes (codes "end") rest lacks is

pub process_cut : (bytes before after : List ℕ) → IsCutAt 10 bytes before after → (s : SaidLine) → (begins : BeginsWithProcess bytes s) → before ≡ spaced (process_words s)
process_cut bytes before after cut s begins =
    (cut_once 10 before after (spaced (process_words s)) begins.rest cut.first (no_feed (process_words s) (formed_plain s begins.form))
    (sym cut.whole ∙ (begins.is ∙ append_assoc (spaced (process_words s)) (10 ∷ []) begins.rest))).0

pub process_is : (bytes before after : List ℕ) → IsCutAt 10 bytes before after → (s : SaidLine) → before ≡ spaced (process_words s) → bytes ≡ process_line s ++ after
process_is bytes before after cut s is =
    cut.whole ∙ (ap (λ (xs : List ℕ). xs ++ 10 ∷ after) is ∙ sym (append_assoc (spaced (process_words s)) (10 ∷ []) after))

end_lacks : Lacks 10 (codes "end")
end_lacks = ((λ e. absurd (omega (arith, e))), ((λ e. absurd (omega (arith, e))), ((λ e. absurd (omega (arith, e))), tt)))

pub last_cut : (bytes before after : List ℕ) → IsCutAt 10 bytes before after → before ≢ codes "end" → ¬ BeginsWithLast bytes
last_cut bytes before after cut other (rest, is) =
    other (cut_once 10 before after (codes "end") rest cut.first end_lacks (sym cut.whole ∙ is)).0

pub last_is : (bytes before after : List ℕ) → IsCutAt 10 bytes before after → before ≡ codes "end" → bytes ≡ last_line ++ after
last_is bytes before after cut is = cut.whole ∙ ap (λ (xs : List ℕ). xs ++ 10 ∷ after) is

-- ---- the table so far

-- one line more has been read
pub lines_more : (t : TaskTable) (s : SaidLine) (text bytes rest : List ℕ) → said (meant s) ≡ s → text ≡ lines_before_end t ++ bytes → bytes ≡ process_line s ++ rest
    → text ≡ lines_before_end (with_line t (meant s)) ++ rest
lines_more t s text bytes rest spelled so_far is =
    let line = λ (p : TaskLine). process_line (said p) in
    let one : flat_map (λ (p : TaskLine). process_line (said p)) (t.tasks ++ meant s ∷ []) ≡ flat_map (λ (p : TaskLine). process_line (said p)) t.tasks ++ process_line s =
    flat_map-append (λ (p : TaskLine). process_line (said p)) t.tasks (meant s ∷ [])
    ∙ ap (λ (xs : List ℕ). flat_map (λ (p : TaskLine). process_line (said p)) t.tasks ++ xs) (append-nil (process_line (said (meant s))) ∙ ap process_line spelled) in
    let whole : lines_before_end (with_line t (meant s)) ≡ lines_before_end t ++ process_line s =
    ap (λ (xs : List ℕ). first_line t.name ++ xs) one ∙ sym (append_assoc (first_line t.name) (flat_map (λ (p : TaskLine). process_line (said p)) t.tasks) (process_line s)) in
    so_far ∙ (ap (λ (xs : List ℕ). lines_before_end t ++ xs) is ∙ (sym (append_assoc (lines_before_end t) (process_line s) rest) ∙ ap (λ (xs : List ℕ). xs ++ rest) (sym whole)))

pub shorter : (s : SaidLine) (bytes rest : List ℕ) → bytes ≡ process_line s ++ rest → length rest < length bytes
shorter s bytes rest is =
    let whole = ap length is ∙ length-append (process_line s) rest in
    let line = length-append (spaced (process_words s)) (10 ∷ []) in
    omega (arith, whole, line)

-- what stands behind the lines of a table that has no line yet
pub none_yet : (name : Word) (rest : List ℕ) → (let t : TaskTable = record { name = name; tasks = [] } in lines_before_end t ++ rest) ≡ first_line name ++ rest
none_yet name rest = ap (λ (xs : List ℕ). xs ++ rest) (append-nil (first_line name))

pub last_read : (t : TaskTable) (text bytes rest : List ℕ) → text ≡ lines_before_end t ++ bytes → bytes ≡ last_line ++ rest → text ≡ table_bytes t ++ rest
last_read t text bytes rest so_far is =
    so_far ∙ (ap (λ (xs : List ℕ). lines_before_end t ++ xs) is ∙ sym (append_assoc (lines_before_end t) last_line rest))

-- ---- faults

pub form_fault : (t : TaskTable) (text bytes : List ℕ) → length text ≤ longest_text → IsBegun t → text ≡ lines_before_end t ++ bytes
    → ((s : SaidLine) → ¬ BeginsWithProcess bytes s) → ¬ BeginsWithLast bytes → IsTableFault text 1 (length t.tasks + 2)
form_fault t text bytes short begun is never last = of_next short t bytes is begun (no_form never last refl) refl

pub line_fault : (t : TaskTable) (s : SaidLine) (text bytes rest : List ℕ) (number line : ℕ) → length text ≤ longest_text → IsBegun t → text ≡ lines_before_end t ++ bytes
    → IsFormed s → bytes ≡ process_line s ++ rest → IsLeast (Breaks t (meant s)) number → line ≡ length t.tasks + 2 → IsTableFault text number line
line_fault t s text bytes rest number line short begun is form begins wrong at =
    of_next short t bytes is begun (breaks s (record { form = form; rest = rest; is = begins }) wrong) at

pub empty_fault : (t : TaskTable) (text rest : List ℕ) → length text ≤ longest_text → IsBegun t → text ≡ table_bytes t ++ rest → t.tasks ≡ [] → IsTableFault text 6 (length t.tasks + 2)
empty_fault t text rest short begun is none =
    of_next short t (last_line ++ rest) (is ∙ append_assoc (lines_before_end t) last_line rest) begun (no_process (rest, refl) none refl) refl

pub behind_fault : (t : TaskTable) (text rest : List ℕ) (line : ℕ) → length text ≤ longest_text → IsBegun t → text ≡ table_bytes t ++ rest → t.tasks ≢ [] → rest ≢ [] → line ≡ length t.tasks + 3 → IsTableFault text 1 line
behind_fault t text rest line short begun is some more at = behind_end short t rest is begun some more refl at

pub whole_table : (t : TaskTable) (text rest : List ℕ) → length text ≤ longest_text → IsBegun t → text ≡ table_bytes t ++ rest → t.tasks ≢ [] → rest ≡ [] → IsTable text t
whole_table t text rest short begun is some none = record {
  spelled = is ∙ (ap (λ (xs : List ℕ). table_bytes t ++ xs) none ∙ append-nil (table_bytes t));
  short = short;
  begun = begun;
  some = some;
}
