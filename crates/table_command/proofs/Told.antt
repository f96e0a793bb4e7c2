-- What is due of a table's text, by what was answered of it.
use Rattle.std.proofs.Common.{◌≡◌, ◌<◌, ℕ, List, length, Ok, Err, refl, sym, subst, ap}
use Rattle.std.specs.Prelude.{Result, IfOk}
use Rattle.command_answers.specs.declared.act.PreparedCall.{PreparedCall}
use Rattle.command_answers.specs.declared.status.Status.TheVariants as status
use Rattle.command_answers.specs.Acts.{outcome_of}
use Rattle.command_answers.specs.Acting.{puts}
use Rattle.command_answers.proofs.Coming.{outcome_of_puts}
use Rattle.command_refusals.specs.Told.{IsTableTold}
use Rattle.command_due.specs.AsmDue.{keeps}
use Rattle.command_due.specs.CommandsDue.{Outcome, told}
use Rattle.command_due.specs.TableDue.{IsTableDue, table_fault_line, table_faulty, tabled}
use Rattle.message_table.specs.Message.{table_message}
use Rattle.table_format.specs.declared.table.TaskTable.{TaskTable}
use Rattle.table_format.specs.Faults.{too_long}
use Rattle.table_format.specs.Program.{table_text}
use Rattle.table_format.specs.Rules.{longest_text}
use Rattle.table_reader.specs.Answer.{Answers}
use Rattle.table_reader.specs.declared.fault.TableFault.{TableFault}
use Rattle.table_reader.specs.declared.fault.TableFault.TheVariants as table_fault

pub long_table : (text : List ℕ) → longest_text < length text → Answers text (Err (table_fault.Bad 7 0))
long_table text long = too_long long refl refl

pub faulty_table : (why : TableFault) (number line : ℕ) → why ≡ table_fault.Bad number line → (text : List ℕ) → Answers text (Err why) → IsTableDue text (told 2 (table_fault_line number line))
faulty_table why number line is text answer = table_faulty number line (subst (λ (w : TableFault). Answers text (Err w)) is answer) refl

pub refused_line : (line : List ℕ) (text : List ℕ) → IsTableDue text (told 2 line) → IsTableDue text (outcome_of (puts status.Text line))
refused_line line text is = subst (λ (o : Outcome). IsTableDue text o) (sym (outcome_of_puts status.Text line)) is

pub tabled_text : {E : Type 0} (t : TaskTable) (P : List ℕ → Type 0) (made : Result PreparedCall E) → ((text : List ℕ) → P text → Answers text (Ok t))
    → IfOk made (λ act. outcome_of act ≡ keeps (table_text t)) → IfOk made (λ act. (text : List ℕ) → P text → IsTableDue text (outcome_of act))
tabled_text t P (Ok act) answer is = λ text p. tabled t (answer text p) is
tabled_text t P (Err e) answer is = tt

pub refused_table : {E : Type 0} (why : TableFault) (P : List ℕ → Type 0) (made : Result PreparedCall E) → ((text : List ℕ) → P text → Answers text (Err why))
    → IfOk made (λ act. (text : List ℕ) → Answers text (Err why) → IsTableDue text (outcome_of act)) → IfOk made (λ act. (text : List ℕ) → P text → IsTableDue text (outcome_of act))
refused_table why P (Ok act) answer due = λ text p. due text (answer text p)
refused_table why P (Err e) answer due = tt

-- ---- what is told

pub told_table : {E : Type 0} (file message : List ℕ) (number line : ℕ) (P : List ℕ → Type 0) (made : Result (List ℕ) E) → IfOk made (λ put. put ≡ table_fault_line number line)
    → ((text : List ℕ) → P text → message ≡ table_message file text number line) → IfOk made (λ put. (text : List ℕ) → P text → IsTableTold file text (told 2 put) message)
told_table file message number line P (Ok put) is told_of = λ text p. record { number = number; line = line; put = ap (told 2) is; is = told_of text p }
told_table file message number line P (Err e) is told_of = tt
