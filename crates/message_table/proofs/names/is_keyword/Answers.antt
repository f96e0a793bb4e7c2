use Rattle.std.proofs.Common.{◌∙◌}
use Rattle.message_table.proofs.Keywords.{keyword_is}
use Rattle.message_table.proofs.names.is_keyword.Goals as goal

pub returns : goal.returns
returns c = c.is_some.ensures ∙ keyword_is c.keyword_at.result c.args.word.now c.keyword_at.ensures.found c.keyword_at.ensures.none
