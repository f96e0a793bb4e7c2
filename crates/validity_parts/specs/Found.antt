-- The tests of parts, by what was found of them.
use Rattle.std.specs.Prelude.{◌≡◌, ◌-◌, ◌&&◌, ⊤, ℕ, Bool, List, Option, Some, None, cond, nat_le, nat_lt}
use Rattle.base.specs.Capped.{cap}
use Rattle.machine_semantics.specs.Image.{Image, Routine, Process}
use Rattle.sched_response.specs.declared.tasks.Task.{Task}
use Rattle.sched_response.specs.Demand.{demand_at}
use Rattle.valid_image.specs.Fault.{or_else, unless, first_in}
use Rattle.valid_image.specs.Found.{Found, longer, plus}
use Rattle.valid_image.specs.Pieces.{Owner}
use Rattle.valid_image.specs.Sizes.{below, with_dispatch}
use Rattle.faulty_part.specs.declared.part.FaultyPart.{FaultyPart}
use Rattle.faulty_part.specs.declared.part.FaultyPart.TheVariants as part
use Rattle.faulty_part.specs.declared.part.Subject.TheVariants as subject
use Rattle.faulty_part.specs.declared.part.PartFault.{PartFault}
use Rattle.faulty_part.specs.Parts.{of, handler_part, cost_part, size_part, locals_of_routine, stack_of_process, base_of_monitor, code_part, rank_part, bound_part}
use Rattle.validity_parts.specs.declared.operands.CodePiece.{CodePiece}

-- the part that a piece is of, where so many routines come first
abbrev pub part_at : (routines piece : ℕ) → FaultyPart
part_at routines piece = cond (nat_lt piece routines) (part.Routine piece) (part.Process (piece - routines))

-- the best piece so far is this owner
abbrev pub IsOwner : (routines : ℕ) → Option CodePiece → Option Owner → Type 0
IsOwner routines None None = ⊤
IsOwner routines (Some x) (Some o) = (x.part ≡ part_at routines o.number) × (x.start ≡ o.start)
IsOwner routines _ _ = ⊥

-- a piece that starts there is closer to the address than the best so far
abbrev pub is_closer : Option CodePiece → (start address : ℕ) → Bool
is_closer None start address = nat_le start address
is_closer (Some best) start address = nat_le start address && nat_le best.start start

-- a routine whose code comes to f, and which stays so long in its monitor
abbrev pub routine_cost_by : ℕ → Routine → Found → (stay : ℕ) → Option PartFault
routine_cost_by r x f stay =
    or_else (of (part.Routine r) subject.Run (below x.run (cap (longer 4 f.cost).run)))
    (or_else (of (part.Routine r) subject.Suspension (below x.susp (cap (longer 4 f.cost).susp)))
    (or_else (of (part.Routine r) subject.Waits (below x.waits (cap (longer 4 f.cost).waits))) (of (part.Routine r) subject.Stay (below x.stay stay))))

-- a process whose body and handler come to f and g
abbrev pub process_cost_by : (over : ℕ) → ℕ → Process → (f g : Found) → Option PartFault
process_cost_by over k p f g =
    or_else (of (part.Process k) subject.Run (below p.run (cap (with_dispatch over (longer 4 (plus f.cost g.cost))))))
    (or_else (of (part.Process k) subject.Suspension (below p.susp (cap (longer 4 (plus f.cost g.cost)).susp)))
    (of (part.Process k) subject.Waits (below p.waits (cap (longer 4 (plus f.cost g.cost)).waits))))

-- the bound of a process, by these tasks
abbrev pub bound_by : List Task → ℕ → Process → Option PartFault
bound_by ts k p =
    or_else (of (part.Process k) subject.Bound (below p.bound (demand_at ts (p.rank - 1) p.bound)))
    (of (part.Process k) subject.Deadline (unless (nat_le p.bound p.deadline) p.bound p.deadline))

-- ---- several tests in a row

-- the sizes of routines, processes and monitors
abbrev pub sized_part : Image → Option PartFault
sized_part image = or_else (first_in locals_of_routine image.routines) (or_else (first_in (stack_of_process image) image.processes) (first_in (base_of_monitor image) image.monitors))

-- costs and sizes
abbrev pub declared_part : Image → Option PartFault
declared_part image = or_else (cost_part image) (size_part image)

-- ranks and bounds
abbrev pub times_part : Image → Option PartFault
times_part image = or_else (rank_part image) (bound_part image)

-- what comes after the code is of its trees
abbrev pub after_code : Image → Option PartFault
after_code image = or_else (handler_part image) (or_else (declared_part image) (times_part image))

-- what comes after operands
abbrev pub after_operands : Image → Option PartFault
after_operands image = or_else (code_part image) (after_code image)
