-- What `table` stores tells the numbers of the table.
use Rattle.std.proofs.Common.{◌≡◌, ◌∙◌, ℕ, Bool, true, false, List, Some, ap, subst, sym}
use Rattle.std.specs.Bool.{OnTrue}
use Rattle.outside.specs.Outside.{Outside}
use Rattle.syntax_tree.specs.declared.place.Place.{Place}
use Rattle.syntax_tree.specs.Placed.{Prog, plain}
use Rattle.syntax_tree.specs.Plain.{Program}
use Rattle.syntax_tree.specs.Bare.{bare}
use Rattle.syntax_printer.specs.Canonical.{canonical}
use Rattle.load_text_law.proofs.Plain.{plain-bare}
use Rattle.command_answers.specs.Promise.{HasTabled}
use Rattle.command_due.specs.Source.{IsWritten}
use Rattle.table_format.specs.declared.table.TaskTable.{TaskTable}
use Rattle.table_format.specs.Program.{program_of, table_text}
use Rattle.table_format.specs.Rules.{IsBegun}
use Rattle.table_law.specs.Costs.{HasCosts, HasProcesses, table_program}
use Rattle.table_law.specs.Agree.{BlocksAreOfTheTable, BoundsAreOfTheTable, CeilingsAreOfTheTable, RanksAreOfTheTable, TablesAreInTime}
use Rattle.table_law.specs.Written.{IsWrittenTable}
use Rattle.command.specs.Tabled.{HasNumbersOf, TellsTable}

-- the laws of tables
pub record TableLaws : Type 0 where
  pub processes : HasProcesses
  pub costs : HasCosts
  pub ranks : RanksAreOfTheTable
  pub ceilings : CeilingsAreOfTheTable
  pub blocks : BlocksAreOfTheTable
  pub in_time : TablesAreInTime
  pub bounds : BoundsAreOfTheTable
  pub written : IsWrittenTable

module _ (laws : TableLaws) where
  of_the_table : (t : TaskTable) → IsBegun t → HasNumbersOf t (table_program t)
  of_the_table t begun = record {
    lines = laws.processes t;
    costs = laws.costs t begun;
    ranks = laws.ranks t;
    ceilings = laws.ceilings t begun;
    blocks = laws.blocks t begun;
    in_time = laws.in_time t begun;
    bounds = laws.bounds t begun;
  }

  tells : (tasks program : List ℕ) (before now : Outside) → HasTabled tasks program before now → TellsTable tasks program before now
  tells tasks program before now h =
      let full = laws.written h.table h.is_table.begun h.is_table.some in
      let one : bare full.tree ≡ bare h.tree = full.same ∙ sym h.same in
      let text : canonical (bare h.tree) ≡ table_text h.table = ap canonical (sym one) ∙ full.printed in
      let code : table_program h.table ≡ plain h.tree = ap plain (sym h.same) ∙ plain-bare h.tree in
      record {
        lines = h.lines;
        held = h.held;
        table = h.table;
        is_table = h.is_table;
        tree = h.tree;
        stored = h.is_stored ∙ ap (λ (x : List ℕ). Some x) (sym text);
        written = subst (λ (x : List ℕ). IsWritten x h.tree) (sym text) h.written;
        numbers = subst (λ (g : Program). HasNumbersOf h.table g) code (of_the_table h.table h.is_table.begun);
      }

  pub tells_numbers : (told : Bool) (tasks program : List ℕ) (before now : Outside) (status : ℕ) → OnTrue told (status ≡ 0 → HasTabled tasks program before now)
      → OnTrue told (status ≡ 0 → TellsTable tasks program before now)
  tells_numbers true tasks program before now status done = λ zero. tells tasks program before now (done zero)
  tells_numbers false tasks program before now status done = tt
