use Rattle.std.proofs.Common.{◌≡◌, ◌-◌, []}
use Rattle.image_format.specs.Format.{each_read}
use Rattle.image_reader.specs.Grammar.{instr_format}
use Rattle.image_reader.proofs.EachLoop.{in_front}
use Rattle.image_reader.proofs.lists.instrs_at.Given as goal

abbrev pub invariant-loop : goal.invariant-loop
invariant-loop l =
    in_front l.code (each_read (λ earlier. instr_format) l.code (l.count - l.counter) l.rest)
    ≡ each_read (λ earlier. instr_format) [] l.count l.bytes
