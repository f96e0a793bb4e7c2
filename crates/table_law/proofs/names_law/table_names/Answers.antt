use Rattle.table_format.specs.Program.{made_tail, program_of}
use Rattle.table_law.proofs.Fits.{table_fits}
use Rattle.table_law.proofs.Shapes.{decls_are}
use Rattle.table_law.proofs.Processes.{all_named}
use Rattle.table_law.proofs.names_law.table_names.Goals as goal

pub returns : goal.returns
unfolding program_of
returns c t is g same number place fails = all_named t is g same (decls_are (made_tail t) t (table_fits t is) g same) number place fails
