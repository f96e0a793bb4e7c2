use Rattle.std.proofs.Common.{ap, sym, ◌∙◌}
use Rattle.table_format.specs.Parts.{seen}
use Rattle.table_format.proofs.Turns.{made_is}
use Rattle.table_format.proofs.Tails.{tail_is}
use Rattle.table_format.proofs.names.made_tail.Goals as goal

pub returns : goal.returns
returns c =
    made_is c.free_tail.result _ _ c.free_tail.ensures (tail_is c.args.table.now _ (seen c.args.stays.now) (ap seen c.as_slice.ensures.value ∙ c.in_ok-names.ensures) c.requires)
