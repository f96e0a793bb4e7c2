use Rattle.std.proofs.Common.{◌≡◌, drop}
use Rattle.std.specs.Prelude.{find}
use Rattle.std.specs.Str.{str_eq_ignore_ascii_case}
use Rattle.syntax.specs.Spellings.{keywords}
use Rattle.message_unexpected.proofs.remarks.in_other_case.Given as goal

abbrev pub invariant-loop-at : goal.invariant-loop-at
invariant-loop-at l = find (str_eq_ignore_ascii_case l.word) (drop l.at keywords) ≡ find (str_eq_ignore_ascii_case l.word) keywords
