use Rattle.std.proofs.Common.{[]}
use Rattle.wellformed_law.proofs.Statements.{stmts_fit}
use Rattle.wellformed_law.proofs.texts_well_formed.bodies_fit.Goals as goal

pub returns : goal.returns
returns c = λ g p at site c w ss kept mirrors placed written names parts. stmts_fit g p at site c w ss [] [] kept mirrors placed written names parts
