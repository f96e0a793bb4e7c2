use Rattle.std.proofs.Common.{◌≡◌, drop, map}
use Rattle.message_table.specs.Form.{blank_found}
use Rattle.message_table.specs.Seen.{mark_of}
use Rattle.message_table.proofs.form.blank_found.Given as goal

abbrev pub invariant-loop-index : goal.invariant-loop-index
invariant-loop-index l = blank_found l.size (map mark_of (drop l.index l.marks)) ≡ blank_found l.size (map mark_of l.marks)
