use Rattle.syntax_tree.specs.Placed.{plain}
use Rattle.built_valid_law.proofs.valid_image_law_of_checked.checked_operands_are_in_range.Goals as goal

pub returns : goal.returns
returns c = λ g m is code.
    let r = c.checked_programs_are_ready.ensures g is in
    c.operands_are_in_range.ensures (plain g) m r.formed r.apart (c.checked_devices_go_one_way.ensures g is) code
