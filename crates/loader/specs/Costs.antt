-- What the parts of an image have to declare, by what their code comes to.
use Rattle.std.specs.Prelude.{◌+◌, ℕ, Option, min, max}
use Rattle.base.specs.Capped.{cap}
use Rattle.machine_semantics.specs.Image.{Routine, Process}
use Rattle.valid_image.specs.Fault.{Fault, or_else}
use Rattle.valid_image.specs.Found.{Found, longer, plus}
use Rattle.valid_image.specs.Sizes.{below, with_dispatch}

-- a routine whose code comes to f, and which stays so long in its monitor
abbrev pub routine_needs : Routine → Found → (stay : ℕ) → Option Fault
routine_needs x f stay =
    or_else (below x.run (cap (longer 4 f.cost).run)) (or_else (below x.susp (cap (longer 4 f.cost).susp)) (or_else (below x.waits (cap (longer 4 f.cost).waits)) (below x.stay stay)))

-- a process whose body and handler come to f and g
abbrev pub process_needs : (over : ℕ) → Process → (f g : Found) → Option Fault
process_needs over p f g =
    or_else (below p.run (cap (with_dispatch over (longer 4 (plus f.cost g.cost)))))
    (or_else (below p.susp (cap (longer 4 (plus f.cost g.cost)).susp)) (below p.waits (cap (longer 4 (plus f.cost g.cost)).waits)))

abbrev pub stack_needs : Process → (f g : Found) → Option Fault
stack_needs p f g = below p.stack (p.locals + min (max f.depth g.depth) 4097)
