use Rattle.std.proofs.Common.{◌≡◌, ◌++◌, length}
use Rattle.table_format.specs.Spelling.{lines_before_end}
use Rattle.table_format.specs.Rules.{IsBegun}
use Rattle.table_reader.proofs.read.read_lines.Given as goal

abbrev pub invariant-lines : goal.invariant-lines
invariant-lines l = record {
  begun : IsBegun l.table;
  text : lines_before_end l.fn.table ++ l.fn.rest ≡ lines_before_end l.table ++ l.bytes;
}

abbrev pub decreases-lines : goal.decreases-lines
decreases-lines l = length l.bytes
