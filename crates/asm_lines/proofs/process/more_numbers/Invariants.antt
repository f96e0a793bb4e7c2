use Rattle.std.proofs.Common.{◌≡◌, ◌-◌}
use Rattle.text_fields.specs.Front.{front}
use Rattle.asm_lines.specs.Processes.{more_read}
use Rattle.asm_lines.proofs.MoreLoop.{with_front}
use Rattle.asm_lines.proofs.process.more_numbers.Given as goal

abbrev pub invariant-loop : goal.invariant-loop
invariant-loop l = with_front l.numbers (more_read (l.most - l.counter) l.last (front l.place)) ≡ more_read l.most 0 (front l.at)
