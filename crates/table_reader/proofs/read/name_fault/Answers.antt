use Rattle.std.proofs.lemmas.Bool.{false≢true}
use Rattle.table_reader.proofs.read.name_fault.Goals as goal

pub returns : goal.returns
returns c = (c.in_ok-has_names.ensures.0 c.if-not-branch.false, λ h. false≢true (c.if-has_taken_name.ensures.1 h))
