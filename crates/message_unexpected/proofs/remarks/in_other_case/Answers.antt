use Rattle.std.proofs.Common.{sym, ◌∙◌}
use Rattle.std.specs.Prelude.{find}
use Rattle.std.specs.Str.{str_eq_ignore_ascii_case}
use Rattle.syntax.specs.Spellings.{keywords}
use Rattle.message_unexpected.proofs.Sought.{hit, missed}
use Rattle.message_unexpected.proofs.remarks.in_other_case.Goals as goal

pub returns-then-is_alike : goal.returns-then-is_alike
returns-then-is_alike c =
    hit (str_eq_ignore_ascii_case c.args.word.now) keywords c.loop-at.at c.keyword_spelling-keyword.result.now (find (str_eq_ignore_ascii_case c.args.word.now) keywords)
    c.keyword_spelling-keyword.ensures (sym c.is_alike.ensures ∙ c.if-is_alike.true) c.loop-at.invariant

pub loop-at-preserved : goal.loop-at-preserved
loop-at-preserved c =
    missed (str_eq_ignore_ascii_case c.args.word.now) keywords c.loop-at.at c.keyword_spelling-keyword.result.now (find (str_eq_ignore_ascii_case c.args.word.now) keywords)
    c.keyword_spelling-keyword.ensures (sym c.is_alike.ensures ∙ c.if-is_alike.false) c.loop-at.invariant
