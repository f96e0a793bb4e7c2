use Rattle.front_end.proofs.Texts.{tree_or_fault}
use Rattle.front_end.proofs.Sources.{one_source_fault}
use Rattle.front_end.proofs.ProgramLawsPrograms.{one_fault}
use Rattle.front_end.proofs.one_fault_law.one_fault.Goals as goal

pub returns : goal.returns
returns c =
    one_fault c.one_tree.ensures (tree_or_fault c.one_list.ensures c.one_fault.ensures.apart)
    (one_source_fault c.one_list.ensures c.one_fault.ensures.apart c.one_fault.ensures.one c.one_opening.ensures c.one_place.ensures)
