use Rattle.text_fields.proofs.Cuts.{lacks_whole, cut_made}
use Rattle.text_fields.proofs.cut.cut_at.Goals as goal

pub returns-then-len-bytes-clause-none : goal.returns-then-len-bytes-clause-none
returns-then-len-bytes-clause-none c = lacks_whole c.args.stop c.args.bytes.now c.front_len-len.result c.front_len-len.ensures.value c.if-len-bytes.true

pub returns-clause-found : goal.returns-clause-found
returns-clause-found c = cut_made c.args.stop c.args.bytes.now c.front_len-len.result c.front_len-len.ensures.value c.front_len-len.ensures.within c.if-len-bytes.false
