use Rattle.std.proofs.Common.{◌∙◌, ◌++◌, codes, append-nil}
use Rattle.table_format.proofs.Turns.{made_is}
use Rattle.table_format.proofs.Tails.{tail_none, tail_some}
use Rattle.table_format.proofs.names.tail_of.Goals as goal

pub returns-then-number-eq0 : goal.returns-then-number-eq0
returns-then-number-eq0 c = c.new.ensures ∙ tail_none c.args.number c.if-number-eq0.true

pub returns : goal.returns
returns c =
    made_is c.name_of.result _ _ c.name_of.ensures
    ((λ i. codes "_" ++ (append-nil c.as_bytes.result.now ∙ c.as_bytes.ensures.value ∙ c.format.ensures.text) i) ∙ tail_some c.args.number c.if-number-eq0.false)
