-- What the reader answers where it stops.
use Rattle.std.proofs.Common.{◌≡◌, ◌++◌, ℕ, List, Option, Some, ap, sym, subst, ◌∙◌}
use Rattle.std.specs.Borrow.{Bor}
use Rattle.std.specs.Prelude.{Result, Err}
use Rattle.table_format.specs.declared.table.TaskTable.{TaskTable}
use Rattle.table_format.specs.Spelling.{process_line, last_line}
use Rattle.table_format.specs.Faults.{IsTableFault, IsFormed}
use Rattle.table_reader.specs.declared.fault.TableFault.{TableFault}
use Rattle.table_reader.specs.declared.fault.TableFault.TheVariants.{Bad}
use Rattle.table_reader.specs.declared.line.LineWords.{LineWords}
use Rattle.table_reader.specs.declared.next.NextLine.{NextLine}
use Rattle.table_reader.specs.declared.next.NextLine.TheVariants.{Process, Last}
use Rattle.table_reader.specs.Answer.{Answers, IsFaultOf}
use Rattle.table_reader.specs.Nexts.{IsNext}
use Rattle.table_reader.specs.Reading.{line_seen}

pub fault_is : (text : List ℕ) (fault : TableFault) (number line at : ℕ) → fault ≡ Bad number line → line ≡ at → IsTableFault text number at → IsFaultOf text fault
fault_is text fault number line at is same wrong = subst (IsFaultOf text) (sym (is ∙ ap (Bad number) same)) wrong

pub answers_of : (text other : List ℕ) (r : Result TaskTable TableFault) → text ≡ other → Answers other r → Answers text r
answers_of text other r same is = subst (λ (x : List ℕ). Answers x r) (sym same) is

-- a fault that a call gave is given on
pub refuses : (text : List ℕ) (r : Result TaskTable TableFault) (given fault : TableFault) → r ≡ Err given → given ≡ fault → IsFaultOf text fault → Answers text r
refuses text r given fault is same wrong = subst (Answers text) (sym (is ∙ ap Err same)) wrong

-- ---- what the next line is

pub last_comes : (bytes : List ℕ) (found : Option NextLine) (next : NextLine) (rest : Bor (List ℕ)) → found ≡ Some next → next ≡ Last rest → IsNext bytes found → bytes ≡ last_line ++ rest.now
last_comes bytes found next rest is same comes = subst (IsNext bytes) (is ∙ ap Some same) comes

pub process_comes : (bytes : List ℕ) (found : Option NextLine) (next : NextLine) (words : LineWords) (rest : Bor (List ℕ)) → found ≡ Some next → next ≡ Process words rest → IsNext bytes found
    → IsFormed (line_seen words) × (bytes ≡ process_line (line_seen words) ++ rest.now)
process_comes bytes found next words rest is same comes = subst (IsNext bytes) (is ∙ ap Some same) comes
