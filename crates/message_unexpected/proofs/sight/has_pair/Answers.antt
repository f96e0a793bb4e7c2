use Rattle.std.proofs.Common.{ap, ◌∙◌, arith}
use Rattle.syntax.specs.declared.token.keyword.TheConstants as k
use Rattle.message_expected.specs.Kinds.{same}
use Rattle.message_unexpected.specs.Remarks.{is_pair}
use Rattle.message_expected.specs.declared.kinds.Kind.TheVariants.{Keyword}
use Rattle.message_unexpected.proofs.Sought.{a_pair, no_more, no_pair}
use Rattle.message_unexpected.proofs.sight.has_pair.Goals as goal

pub loop-index-preserved : goal.loop-index-preserved
loop-index-preserved c =
    no_pair c.args.all.now c.loop-index.index _ c.loop-index.is_behind_else c.is_same-is_behind_else.result c.is_pair.result _ (omega arith) c.loop-index.invariant
    (c.is_pair.ensures ∙ ap (is_pair c.loop-index.is_behind_else) c.of_token-kind.ensures) c.if-is_pair.false
    (c.is_same-is_behind_else.ensures ∙ ap (same (Keyword k.ELSE)) c.of_token-kind.ensures)

pub returns-then-is_pair : goal.returns-then-is_pair
returns-then-is_pair c =
    a_pair c.args.all.now c.loop-index.index _ c.loop-index.is_behind_else c.is_pair.result _ (omega arith) c.loop-index.invariant
    (c.is_pair.ensures ∙ ap (is_pair c.loop-index.is_behind_else) c.of_token-kind.ensures) c.if-is_pair.true

pub returns : goal.returns
returns c = no_more c.args.all.now c.loop-index.index c.loop-index.is_behind_else _ (omega arith) c.loop-index.invariant
