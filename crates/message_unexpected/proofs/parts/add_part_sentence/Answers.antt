use Rattle.std.specs.Prelude.{codes}
use Rattle.std.proofs.lemmas.Result.{on_ok_weaker}
use Rattle.message_unexpected.specs.Parts.{closer}
use Rattle.message_unexpected.proofs.Joined.{joined}
use Rattle.message_unexpected.proofs.parts.add_part_sentence.Goals as goal

pub returns : goal.returns
returns c =
    on_ok_weaker c.extend-2.result
    (λ put.
    joined c.args.message.now (codes "still open, up to `") (closer c.args.text.now c.args.before.now c.args.opener) (codes "`:") c.extend.new.self c.add_closer.new.message c.extend-2.new.self
    c.in_ok-extend.ensures.ok c.in_ok-add_closer.ensures put) c.extend-2.ensures.ok
