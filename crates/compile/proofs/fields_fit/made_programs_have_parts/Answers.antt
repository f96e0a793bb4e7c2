use Rattle.compile.proofs.Made.{has_parts}
use Rattle.compile.proofs.fields_fit.made_programs_have_parts.Goals as goal

pub returns : goal.returns
returns c = λ g. has_parts g
