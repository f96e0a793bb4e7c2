-- The fault of a line, as it is told, and the names of a line that has none.
use Rattle.std.proofs.Common.{◌≡◌, ◌≢◌, ◌+◌, ℕ, Option, Some, None, length, refl, sym, subst}
use Rattle.std.specs.Prelude.{MatchOption}
use Rattle.table_format.specs.declared.table.TaskLine.{TaskLine}
use Rattle.table_format.specs.declared.table.TaskTable.{TaskTable}
use Rattle.table_format.specs.Spelling.{SaidLine}
use Rattle.table_format.specs.Faults.{meant, Breaks, IsLeast}
use Rattle.table_reader.specs.declared.fault.TableFault.{TableFault}
use Rattle.table_reader.specs.declared.fault.TableFault.TheVariants.{Bad}
use Rattle.table_reader.specs.Judging.{IsLineFault}
use Rattle.table_reader.proofs.Answered.{HasFreeNames}

pub blamed : (t : TaskTable) (s : SaidLine) (fault : TableFault) (number line : ℕ) → fault ≡ Bad number line → line ≡ length t.tasks + 2 → IsLeast (Breaks t (meant s)) number → IsLineFault t s fault
blamed t s fault number line is at least = subst (IsLineFault t s) (sym is) (least, at)

pub free_names : (t : TaskTable) (p : TaskLine) (found : Option ℕ) → ((number : ℕ) → found ≢ Some number) → MatchOption found (HasFreeNames t p) (λ number. IsLeast (Breaks t p) number) → HasFreeNames t p
free_names t p None other is = is
free_names t p (Some number) other is = absurd (other number refl)
