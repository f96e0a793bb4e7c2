use Rattle.std.proofs.Common.{◌≡◌, ◌-◌, [], map}
use Rattle.image_format.specs.Format.{each_read}
use Rattle.image.specs.Raw.{routine_of}
use Rattle.image_reader.specs.Grammar.{routine_format}
use Rattle.image_reader.proofs.EachLoop.{in_front}
use Rattle.image_reader.proofs.lists.routines_at.Given as goal

abbrev pub invariant-loop : goal.invariant-loop
invariant-loop l =
    in_front (map routine_of l.routines) (each_read (λ earlier. routine_format l.counts) (map routine_of l.routines) (l.counts.routines - l.counter) l.rest)
    ≡ each_read (λ earlier. routine_format l.counts) [] l.counts.routines l.bytes
