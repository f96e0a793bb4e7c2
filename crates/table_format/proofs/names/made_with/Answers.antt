use Rattle.table_format.proofs.Tails.{made_put}
use Rattle.table_format.proofs.names.made_with.Goals as goal

pub returns : goal.returns
returns c = made_put c.args.tail.now _ _ _ _ _ _ c.new-made.ensures c.in_ok-add_name.ensures c.in_ok-add_name-2.ensures c.in_ok-add_name-3.ensures c.in_ok-add_entries.ensures
