use Rattle.std.specs.Prelude.{codes}
use Rattle.message_text.specs.Words.{quoted}
use Rattle.message_script.proofs.Parts.{four_parts}
use Rattle.message_script.proofs.numbers.not_in.Goals as goal

pub returns : goal.returns
returns c =
    four_parts c.args.name.now (quoted c.args.word.now) (codes " is not in ") c.args.range.now _ _ _ _
    c.in_ok-text.ensures c.in_ok-add_quoted.ensures c.in_ok-extend.ensures.ok c.in_ok-extend-2.ensures.ok
