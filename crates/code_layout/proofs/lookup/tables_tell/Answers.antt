use Rattle.code_layout.proofs.Meant.{table-spot}
use Rattle.code_layout.proofs.lookup.tables_tell.Goals as goal

pub returns : goal.returns
returns c = λ a ps x. table-spot a ps x
