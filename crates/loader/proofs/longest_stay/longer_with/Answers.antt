use Rattle.std.proofs.Common.{get_or, None}
use Rattle.loader.proofs.Deadlines.{longest_more}
use Rattle.loader.proofs.longest_stay.longer_with.Goals as goal

pub returns : goal.returns
returns c = longest_more (λ r. get_or c.args.row.now r None) c.args.called.now c.args.index c.row_at.result c.args.best c.longer.result c.requires.index c.row_at.ensures c.requires.best c.longer.ensures
