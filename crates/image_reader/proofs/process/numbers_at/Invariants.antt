use Rattle.std.proofs.Common.{◌≡◌, ◌-◌, ◌&&◌, [], ℕ}
use Rattle.std.specs.Prelude.{nat_lt}
use Rattle.image_format.specs.Format.{checked, each_read, u16}
use Rattle.image_reader.specs.Grammar.{is_above, is_taken, wrong_number}
use Rattle.image_reader.proofs.EachLoop.{in_front}
use Rattle.image_reader.proofs.process.numbers_at.Given as goal

abbrev pub invariant-loop : goal.invariant-loop
invariant-loop l = record {
  so_far : in_front l.numbers (each_read (λ earlier. checked u16 (wrong_number earlier)) l.numbers (l.count - l.counter) l.rest) ≡ each_read (λ earlier. checked u16 (wrong_number earlier)) [] l.count l.bytes;
  above : (n : ℕ) → (is_above l.numbers n && is_taken n) ≡ (nat_lt l.last n && is_taken n);
}
