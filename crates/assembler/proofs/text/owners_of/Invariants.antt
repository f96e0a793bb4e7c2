use Rattle.std.proofs.Common.{◌≡◌, ◌≤◌, ◌+◌, codes, length}
use Rattle.std.specs.Prelude.{count_by}
use Rattle.text_fields.specs.Front.{begins}
use Rattle.asm_lines.specs.TreeForm.{cuts}
use Rattle.assembler.specs.Sections.{owners_in}
use Rattle.assembler.proofs.text.owners_of.Given as goal

abbrev pub invariant-loop-cut : goal.invariant-loop-cut
invariant-loop-cut l = record {
  so_far : l.count + count_by (begins (codes "process ")) (cuts 10 l.rest) ≡ owners_in l.text;
  small : l.count + length l.rest ≤ length l.text;
}

abbrev pub decreases-loop-cut : goal.decreases-loop-cut
decreases-loop-cut l = length l.rest
