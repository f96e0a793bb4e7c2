use Rattle.code_names.proofs.Found.{earliest_more}
use Rattle.code_names.proofs.places.earlier_with.Goals as goal

pub returns : goal.returns
returns c = earliest_more c.args.row.now c.args.called.now c.args.index c.place_of.result c.args.best c.earlier.result c.requires.index c.place_of.ensures c.requires.best c.earlier.ensures
