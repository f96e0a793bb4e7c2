use Rattle.faulty_part.proofs.Whole.{whole}
use Rattle.faulty_part.proofs.parts_law.parts_have_the_fault.Goals as goal

pub returns : goal.returns
returns c = whole
