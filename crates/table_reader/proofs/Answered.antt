-- What a line does to a table so far, and what the reader then answers.
use Rattle.std.proofs.Common.{◌≡◌, ◌≢◌, ◌<◌, ◌≤◌, ◌+◌, ℕ, Bool, true, false, List, [], ◌∷◌, ◌++◌, length, refl, ap, sym, subst, ◌∙◌, arith, All, Contains}
use Rattle.std.specs.Prelude.{IsTrue, ◌↔◌}
use Rattle.std.proofs.lemmas.Bool.{false≢true}
use Rattle.std.proofs.lemmas.List.Elements.{All-nil}
use Rattle.table_format.specs.declared.table.TaskLine.{TaskLine}
use Rattle.table_format.specs.declared.table.TaskTable.{TaskTable}
use Rattle.table_format.specs.Spelling.{Word, SaidLine, said, first_line, process_line, lines_before_end, table_bytes}
use Rattle.table_format.specs.Rules.{IsName, names_of_line, IsInRanges, CanBeMet, IsSmall, IsOneActivation, IsTaskLine, IsBegun, longest_text}
use Rattle.table_format.specs.Faults.{meant, with_line, HasTakenName, Breaks, IsLeast, IsTableWord, IsFormed, BeginsWithFirst, BeginsWithProcess, BeginsWithLast, IsTableFault, too_long, of_first, no_first, no_name}
use Rattle.table_reader.specs.declared.fault.TableFault.{TableFault}
use Rattle.table_reader.specs.declared.fault.TableFault.TheVariants.{Bad, Memory}
use Rattle.table_reader.specs.Judging.{IsNew, IsAdded, IsLineFault}
use Rattle.table_reader.specs.Answer.{IsFaultOf}
use Rattle.table_reader.proofs.Grown.{begun_more, not_met, too_many}
use Rattle.table_reader.proofs.Texts.{form_fault, empty_fault, behind_fault, line_fault, none_yet}

refused : (b : Bool) (P : Type 0) → b ≡ false → (IsTrue b ↔ P) → ¬ P
refused b P fails means p = false≢true (sym fails ∙ means.1 p)

-- ---- a line by its numbers

abbrev pub HasFreeNames : TaskTable → TaskLine → Type 0
HasFreeNames t p = All IsName (names_of_line p) × ¬ HasTakenName t p

abbrev pub IsRanged : SaidLine → TaskLine → Type 0
IsRanged s p = (p ≡ meant s) × (said p ≡ s) × IsInRanges p

pub unmet : (t : TaskTable) (s : SaidLine) (p : TaskLine) (test : Bool) → HasFreeNames t (meant s) → IsRanged s p → test ≡ false → (IsTrue test ↔ CanBeMet p) → IsLeast (Breaks t (meant s)) 5
unmet t s p test free task fails means =
    not_met t (meant s) free.0 free.1 (subst IsInRanges task.0 task.2) (λ met. refused test (CanBeMet p) fails means (subst CanBeMet (sym task.0) met))

pub new_is : (t : TaskTable) (s : SaidLine) (p : TaskLine) (test : Bool) → IsFormed s → HasFreeNames t (meant s) → IsRanged s p → test ≡ true → (IsTrue test ↔ CanBeMet p) → IsNew t s p
new_is t s p test form free task so means =
    let back : meant s ≡ p = sym task.0 in
    record {
      is = task.0;
      spelled = task.1;
      line = record {
        names = subst (λ (q : TaskLine). All IsName (names_of_line q)) back free.0;
        activation = subst IsOneActivation back form.activation;
        ranges = task.2;
        met = means.0 so;
      };
      free = subst (λ (q : TaskLine). ¬ HasTakenName t q) back free.1;
    }

-- ---- a line more

abbrev pub Grows : TaskTable → List TaskLine → TaskTable
Grows t tasks = record t { tasks = tasks }

grown_is : (t : TaskTable) (p : TaskLine) (tasks : List TaskLine) → tasks ≡ t.tasks ++ p ∷ [] → Grows t tasks ≡ with_line t p
grown_is t p tasks is = ap (Grows t) is

pub added : (t : TaskTable) (s : SaidLine) (p : TaskLine) (tasks : List TaskLine) (test : Bool) → IsBegun t → IsNew t s p → tasks ≡ t.tasks ++ p ∷ [] → test ≡ true
    → (IsTrue test ↔ IsSmall (Grows t tasks)) → IsAdded t s (Grows t tasks)
added t s p tasks test begun new pushed so means =
    let is = grown_is t p tasks pushed in
    record {
      is = is ∙ ap (with_line t) new.is;
      spelled = sym (ap said new.is) ∙ new.spelled;
      begun = subst IsBegun (sym is) (begun_more t begun p new.free new.line (subst IsSmall is (means.0 so)));
    }

pub crowded : (t : TaskTable) (s : SaidLine) (p : TaskLine) (tasks : List TaskLine) (test : Bool) → IsNew t s p → tasks ≡ t.tasks ++ p ∷ [] → test ≡ false
    → (IsTrue test ↔ IsSmall (Grows t tasks)) → IsLeast (Breaks t (meant s)) 6
crowded t s p tasks test new pushed fails means =
    let is = grown_is t p tasks pushed in
    subst (λ (q : TaskLine). IsLeast (Breaks t q) 6) new.is
    (too_many t p new.line new.free (λ small. refused test (IsSmall (Grows t tasks)) fails means (subst IsSmall (sym is) small)))

-- ---- what the reader answers

pub line_answer : (t : TaskTable) (s : SaidLine) (text bytes rest : List ℕ) (fault : TableFault) → length text ≤ longest_text → IsBegun t → text ≡ lines_before_end t ++ bytes
    → IsFormed s → bytes ≡ process_line s ++ rest → IsLineFault t s fault → IsFaultOf text fault
line_answer t s text bytes rest (Bad number line) short begun so_far form is wrong = line_fault t s text bytes rest number line short begun so_far form is wrong.0 wrong.1
line_answer t s text bytes rest (Memory _) short begun so_far form is wrong = tt

-- a fault of the text, as it is told
told : (text : List ℕ) (fault : TableFault) (number line at : ℕ) → fault ≡ Bad number line → line ≡ at → IsTableFault text number at → IsFaultOf text fault
told text fault number line at is here wrong = subst (IsFaultOf text) (sym is) (subst (IsTableFault text number) (sym here) wrong)

pub empty_answer : (t : TaskTable) (rest : List ℕ) (fault : TableFault) (line : ℕ) → length (table_bytes t ++ rest) ≤ longest_text → IsBegun t → t.tasks ≡ [] → fault ≡ Bad 6 line → line ≡ length t.tasks + 2
    → IsFaultOf (table_bytes t ++ rest) fault
empty_answer t rest fault line short begun none is at =
    told (table_bytes t ++ rest) fault 6 line (length t.tasks + 2) is at (empty_fault t (table_bytes t ++ rest) rest short begun refl none)

pub behind_answer : (t : TaskTable) (rest : List ℕ) (fault : TableFault) (line : ℕ) → length (table_bytes t ++ rest) ≤ longest_text → IsBegun t → t.tasks ≢ [] → rest ≢ [] → fault ≡ Bad 1 line
    → line ≡ length t.tasks + 3 → IsFaultOf (table_bytes t ++ rest) fault
behind_answer t rest fault line short begun some more is at =
    subst (IsFaultOf (table_bytes t ++ rest)) (sym is) (behind_fault t (table_bytes t ++ rest) rest line short begun refl some more at)

pub form_answer : (t : TaskTable) (text bytes : List ℕ) (fault : TableFault) (line : ℕ) → length text ≤ longest_text → IsBegun t → text ≡ lines_before_end t ++ bytes
    → ((s : SaidLine) → ¬ BeginsWithProcess bytes s) × ¬ BeginsWithLast bytes → fault ≡ Bad 1 line → line ≡ length t.tasks + 2 → IsFaultOf text fault
form_answer t text bytes fault line short begun so_far never is at =
    told text fault 1 line (length t.tasks + 2) is at (form_fault t text bytes short begun so_far never.0 never.1)

pub long_fault : (text : List ℕ) → longest_text < length text → IsTableFault text 7 0
long_fault text long = too_long long refl refl

pub no_first_fault : (text : List ℕ) → length text ≤ longest_text → ((name : Word) → ¬ BeginsWithFirst text name) → IsTableFault text 1 1
no_first_fault text short never = of_first short (no_first never refl) refl

pub no_name_fault : (text name rest : List ℕ) (test : Bool) → length text ≤ longest_text → IsTableWord name × (text ≡ first_line name ++ rest) → test ≡ false → (IsTrue test ↔ IsName name) → IsTableFault text 2 1
no_name_fault text name rest test short begins fails means =
    of_first short (no_name name (record { word = begins.0; rest = rest; is = begins.1 }) (refused test (IsName name) fails means) refl) refl

-- ---- a table without a line

abbrev pub Named : Word → TaskTable
Named name = record { name = name; tasks = [] }

pub named_begun : (name word : Word) (test : Bool) → name ≡ word → test ≡ true → (IsTrue test ↔ IsName word) → IsBegun (Named name)
named_begun name word test is so means = record {
  name = subst IsName (sym is) (means.0 so);
  tasks = All-nil IsTaskLine;
  differ = λ i j d below within. absurd (omega arith);
  apart = All-nil (λ monitor. ¬ Contains (name ∷ []) monitor);
  small = record { tasks = omega arith; monitors = omega arith; stays = omega arith };
}

pub named_text : (name word text rest : List ℕ) → name ≡ word → text ≡ first_line word ++ rest → text ≡ lines_before_end (Named name) ++ rest
named_text name word text rest is begins = begins ∙ (ap (λ (x : Word). first_line x ++ rest) (sym is) ∙ sym (none_yet name rest))
