use Rattle.std.proofs.Common.{arith}
use Rattle.syntax_tree.specs.Placed.{plain}
use Rattle.code_cost_spec.specs.Levels.{calls_of}
use Rattle.table_format.specs.Program.{made_tail, program_with, program_of}
use Rattle.table_law.proofs.Fits.{LineFits, table_fits}
use Rattle.table_law.proofs.Members.{elem_of}
use Rattle.table_law.proofs.Costs.{got_is_in, stays_there}
use Rattle.table_law.proofs.Instructions.{few_instructions}
use Rattle.table_law.proofs.Stacks.{entry_stack, process_stack}
use Rattle.table_law.proofs.sizes_law.table_sizes.Goals as goal

pub returns-clause-short : goal.returns-clause-short
unfolding program_of
returns-clause-short c t is = omega (arith, few_instructions (made_tail t) t (table_fits t is), is.small.tasks, is.small.stays)

pub returns-clause-processes : goal.returns-clause-processes
unfolding program_of
returns-clause-processes c t is k line there =
    let fits = table_fits t is in
    let e = got_is_in t.tasks k line there in
    process_stack (made_tail t) t fits k line (elem_of LineFits line t.tasks fits.tasks e) (stays_there t line e)

pub returns-clause-entries : goal.returns-clause-entries
unfolding program_of
returns-clause-entries c t monitor ticks some few met =
    let g = plain (program_with (made_tail t) t) in
    entry_stack (made_tail t) g monitor ticks (record { some = some; few = few; met = met }) (calls_of g)
