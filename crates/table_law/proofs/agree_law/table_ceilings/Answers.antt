use Rattle.table_format.specs.Program.{made_tail, program_of}
use Rattle.table_law.proofs.Fits.{table_fits}
use Rattle.table_law.proofs.Ceilings.{ceiling_to_program, ceiling_to_table}
use Rattle.table_law.proofs.agree_law.table_ceilings.Goals as goal

pub returns : goal.returns
unfolding program_of
returns c t begun monitor n =
    let ranks = c.table_ranks.ensures t in
    (ceiling_to_program (made_tail t) t (table_fits t begun) ranks monitor n, ceiling_to_table (made_tail t) t (table_fits t begun) ranks monitor n)
