use Rattle.table_format.specs.Program.{made_tail, program_of}
use Rattle.table_law.proofs.Fits.{table_fits}
use Rattle.table_law.proofs.Blocks.{block_to_program, block_to_table}
use Rattle.table_law.proofs.agree_law.table_blocks.Goals as goal

pub returns : goal.returns
unfolding program_of
returns c t begun held block =
    let ranks = c.table_ranks.ensures t in
    (block_to_program (made_tail t) t (table_fits t begun) ranks held block, block_to_table (made_tail t) t (table_fits t begun) ranks held block)
