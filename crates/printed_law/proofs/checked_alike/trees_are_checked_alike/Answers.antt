use Rattle.printed_law.proofs.Checked.{checked-alike}
use Rattle.printed_law.proofs.checked_alike.trees_are_checked_alike.Goals as goal

pub returns : goal.returns
returns c = checked-alike (record { order = c.tokens_in_order.ensures; one_tree = c.one_tree.ensures; one_list = c.one_list.ensures })
