use Rattle.std.proofs.Common.{arith, ap, sym, ◌∙◌, Some, ℕ}
use Rattle.vm_releases.specs.Begin.{lines_of}
use Rattle.vm_releases.proofs.Joining.{first_of, first_past}
use Rattle.vm_releases.proofs.Saying.{as_many_lines, line_at}
use Rattle.vm_releases.proofs.timers.next_line.Goals as goal

pub returns-then-done-lines : goal.returns-then-done-lines
returns-then-done-lines c = ap (λ (n : ℕ). Some n) c.tick_of.ensures ∙ sym (first_of (lines_of c.args.lines.now) c.args.done _ (line_at c.args.lines.now c.args.done _ (omega arith)))

pub returns-else-done-lines : goal.returns-else-done-lines
returns-else-done-lines c = sym (first_past (lines_of c.args.lines.now) c.args.done (omega (arith, as_many_lines c.args.lines.now)))
