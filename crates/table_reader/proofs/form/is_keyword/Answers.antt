use Rattle.syntax.specs.Spellings.{keywords}
use Rattle.table_reader.proofs.Tests.{among_is}
use Rattle.table_reader.proofs.form.is_keyword.Goals as goal

pub returns : goal.returns
returns c = among_is keywords c.args.word.now c.keyword_at.result c.is_some.result c.keyword_at.ensures.found c.keyword_at.ensures.none c.is_some.ensures
