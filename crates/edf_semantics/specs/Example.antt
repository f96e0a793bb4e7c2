-- Two processes that earliest deadline first meets and fixed ranks do not.
use Rattle.std.specs.Prelude.{true, pos, List, [], ◌∷◌}
use Rattle.base.specs.declared.event.Event.{Event}
use Rattle.base.specs.declared.event.Act.TheVariants as act
use Rattle.machine_isa.specs.declared.instr.Instr.TheVariants as i
use Rattle.machine_semantics.specs.Trees.{Cons, Line, Nil}
use Rattle.machine_semantics.specs.Image.{Image}
use Rattle.machine_safety.specs.SmallImages.{alone, at}

-- the first puts 1 in each 30 ticks, the second 2 and 3 in each 52; each has its frame as deadline
abbrev pub two : Image
two = record {
  over = 0;
  monitors = [];
  conditions = [];
  devices = true ∷ [];
  routines = [];
  processes = record (alone 30 15 0 1 (Cons (Line 2) Nil)) { bound = 30 } ∷ record (alone 52 26 0 1 (Cons (Line 4) Nil)) { bound = 52; rank = 2; start = 3 } ∷ [];
  code = i.Push (pos 1) ∷ i.Out (pos 0) ∷ i.End ∷ i.Push (pos 2) ∷ i.Out (pos 0) ∷ i.Push (pos 3) ∷ i.Out (pos 0) ∷ i.End ∷ [];
}

-- the second goes on at tick 30, since its deadline is the sooner one
abbrev pub two_put : List Event
two_put =
    at 0 0 act.Release ∷ at 0 1 act.Release ∷ at 10 0 (act.Put 0 (pos 1)) ∷ at 14 0 act.End ∷ at 25 1 (act.Put 0 (pos 2)) ∷ at 30 0 act.Release ∷ at 36 1 (act.Put 0 (pos 3))
    ∷ at 40 1 act.End ∷ at 51 0 (act.Put 0 (pos 1)) ∷ at 52 1 act.Release ∷ at 55 0 act.End ∷ []
