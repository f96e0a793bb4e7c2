use Rattle.std.proofs.Common.{[], sym}
use Rattle.std.proofs.lemmas.List.{get_or_past}
use Rattle.std.proofs.lemmas.Option.{get_or_from_slice_get}
use Rattle.syntax.specs.Spellings.{keywords}
use Rattle.message_expected.proofs.kinds.keyword_bytes.Goals as goal

pub returns-then-at-lt-KEYWORDS : goal.returns-then-at-lt-KEYWORDS
returns-then-at-lt-KEYWORDS c = sym (get_or_from_slice_get keywords c.args.at c.keyword_spelling.result.now [] c.keyword_spelling.ensures)

pub returns-else-at-lt-KEYWORDS : goal.returns-else-at-lt-KEYWORDS
returns-else-at-lt-KEYWORDS c = sym (get_or_past keywords c.args.at [] c.if-at-lt-KEYWORDS.false)
