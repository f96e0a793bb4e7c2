use Rattle.std.proofs.Common.{ap, ◌∙◌}
use Rattle.syntax_tree.specs.Placed.{plain, plain_process}
use Rattle.code_cost_spec.specs.Levels.{cost_of_process}
use Rattle.table_format.specs.Program.{made_tail, table_process, program_with, program_of}
use Rattle.table_law.proofs.Ticks.{is_run}
use Rattle.table_law.proofs.Fits.{LineFits, table_fits}
use Rattle.table_law.proofs.Members.{elem_of}
use Rattle.table_law.proofs.Parts.{processes_are}
use Rattle.table_law.proofs.Costs.{stays_so_long, process_takes, got_is_in, stays_there}
use Rattle.table_law.proofs.costs_law.table_costs.Goals as goal

pub returns-clause-processes : goal.returns-clause-processes
unfolding program_of
returns-clause-processes c t = processes_are (made_tail t) t

pub returns-clause-costs : goal.returns-clause-costs
unfolding program_of
returns-clause-costs c t is k line there =
    let fits = table_fits t is in
    let e = got_is_in t.tasks k line there in
    is_run (cost_of_process (plain (program_with (made_tail t) t)) k (plain_process (table_process (made_tail t) line))) line.cost
    (process_takes (made_tail t) t fits k line there (elem_of LineFits line t.tasks fits.tasks e) (stays_there t line e))

pub returns-clause-stays : goal.returns-clause-stays
unfolding program_of
returns-clause-stays c t monitor ticks some few met = stays_so_long (made_tail t) (plain (program_with (made_tail t) t)) monitor ticks (record { some = some; few = few; met = met })
