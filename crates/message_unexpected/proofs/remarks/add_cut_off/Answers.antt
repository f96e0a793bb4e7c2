use Rattle.std.specs.Prelude.{codes, decimal}
use Rattle.std.proofs.lemmas.Result.{on_ok_weaker}
use Rattle.message_unexpected.proofs.Joined.{joined}
use Rattle.message_unexpected.proofs.remarks.add_cut_off.Goals as goal

pub returns : goal.returns
returns c =
    on_ok_weaker c.extend-2.result
    (λ put.
    joined c.args.message.now (codes "`%` made the rest of line ") (decimal c.args.line) (codes " a comment; the remainder is `mod`") c.extend.new.self c.add_number.new.text
    c.extend-2.new.self c.in_ok-extend.ensures.ok c.in_ok-add_number.ensures put) c.extend-2.ensures.ok
