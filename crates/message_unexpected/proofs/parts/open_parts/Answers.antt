use Rattle.std.proofs.Common.{ap, ◌∙◌, arith}
use Rattle.syntax.specs.declared.token.keyword.TheConstants as k
use Rattle.message_expected.specs.Kinds.{same}
use Rattle.message_expected.specs.declared.kinds.Kind.TheVariants.{Keyword}
use Rattle.message_unexpected.proofs.Opened.{ended, turned}
use Rattle.message_unexpected.proofs.parts.open_parts.Goals as goal

pub loop-index-preserved : goal.loop-index-preserved
loop-index-preserved c =
    turned c.args.before.now c.loop-index.index _ c.loop-index.is_behind_end c.is_same-is_behind_end.result c.loop-index.opened.items c.turn.new.opened.items _ (omega arith)
    c.loop-index.invariant c.in_ok-turn.ensures (c.is_same-is_behind_end.ensures ∙ ap (same (Keyword k.END)) c.of_token.ensures)

pub returns : goal.returns
returns c = ended c.args.before.now c.loop-index.index c.loop-index.is_behind_end c.loop-index.opened.items _ (omega arith) c.loop-index.invariant
