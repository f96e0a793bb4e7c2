use Rattle.table_law.proofs.Free.{is_free}
use Rattle.table_law.proofs.Lengths.{made_short}
use Rattle.table_law.proofs.tail_law.tail_is_free.Goals as goal

pub returns-clause-free : goal.returns-clause-free
returns-clause-free c t is name made in_table in_made same = is_free t is name made in_table in_made same

pub returns-clause-short : goal.returns-clause-short
returns-clause-short c t is made in_made = made_short t is made in_made
