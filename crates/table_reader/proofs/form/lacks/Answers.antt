use Rattle.table_reader.proofs.Tests.{lacks_is}
use Rattle.table_reader.proofs.form.lacks.Goals as goal

pub returns : goal.returns
returns c = lacks_is c.args.stop c.args.bytes.now c.cut_at.result c.is_none.result c.cut_at.ensures.found c.cut_at.ensures.none c.is_none.ensures
