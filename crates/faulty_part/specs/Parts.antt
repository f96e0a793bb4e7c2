-- The tests of validity in their order, each with the part of the image that it is of, and with
-- what it tests of that part. The fault of an image is the first of them that fails.
use Rattle.std.specs.Prelude.{◌+◌, ◌-◌, ℕ, Option, Some, None, nat_le}
use Rattle.base.specs.Capped.{cap}
use Rattle.sched_response.specs.Demand.{demand_at}
use Rattle.machine_semantics.specs.Image.{Image, Monitor, Routine, Process}
use Rattle.valid_image.specs.Fault.{Fault, unless, or_else, first_in}
use Rattle.valid_image.specs.Operands.{whose_routine, whose_process, operand_fault_in}
use Rattle.valid_image.specs.Pieces.{piece_number}
use Rattle.valid_image.specs.Shape.{routine_shape_fault, process_shape_fault, coverage_fault, is_handler}
use Rattle.valid_image.specs.Sizes.{below, other, needed_by_routine, needed_by_process, needed_stay, needed_stack, due_base, words_fault, with_dispatch}
use Rattle.valid_image.specs.Tasks.{tasks_of}
use Rattle.valid_image.specs.Times.{rank_of, ceiling_of, needed_block}
use Rattle.faulty_part.specs.declared.part.FaultyPart.{FaultyPart}
use Rattle.faulty_part.specs.declared.part.FaultyPart.TheVariants as part
use Rattle.faulty_part.specs.declared.part.Subject.{Subject}
use Rattle.faulty_part.specs.declared.part.Subject.TheVariants as subject
use Rattle.faulty_part.specs.declared.part.PartFault.{PartFault}

-- a test of this part and this subject, which may fail
abbrev pub of : FaultyPart → Subject → Option Fault → Option PartFault
of p s None = None
of p s (Some f) = Some (record { part = p; subject = s; a = f.a; b = f.b })

-- ---- operands

abbrev pub operand_of_routine : Image → ℕ → Routine → Option PartFault
operand_of_routine image r x = of (part.Routine r) subject.Operand (operand_fault_in image r (whose_routine r x))

abbrev pub operand_of_process : Image → ℕ → Process → Option PartFault
operand_of_process image k p = of (part.Process k) subject.Operand (operand_fault_in image (piece_number image k) (whose_process image k p))

abbrev pub operand_part : Image → Option PartFault
operand_part image = or_else (first_in (operand_of_routine image) image.routines) (first_in (operand_of_process image) image.processes)

-- ---- starts, trees, heights, coverage

abbrev pub code_of_routine : Image → ℕ → Routine → Option PartFault
code_of_routine image r x = of (part.Routine r) subject.Code (routine_shape_fault image r x)

abbrev pub code_of_process : Image → ℕ → Process → Option PartFault
code_of_process image k p = of (part.Process k) subject.Code (process_shape_fault image k p)

abbrev pub code_part : Image → Option PartFault
code_part image =
    or_else (first_in (code_of_routine image) image.routines)
    (or_else (first_in (code_of_process image) image.processes) (of part.Whole subject.Code (coverage_fault image)))

-- ---- handlers

abbrev pub handler_of_process : Image → ℕ → Process → Option PartFault
handler_of_process image k p = of (part.Process k) subject.Handler (unless (is_handler image p p.handler_tree) k 0)

abbrev pub handler_part : Image → Option PartFault
handler_part image = first_in (handler_of_process image) image.processes

-- ---- costs

abbrev pub cost_of_routine : Image → ℕ → Routine → Option PartFault
cost_of_routine image r x =
    or_else (of (part.Routine r) subject.Run (below x.run (cap (needed_by_routine image r x).run)))
    (or_else (of (part.Routine r) subject.Suspension (below x.susp (cap (needed_by_routine image r x).susp)))
    (or_else (of (part.Routine r) subject.Waits (below x.waits (cap (needed_by_routine image r x).waits)))
    (of (part.Routine r) subject.Stay (below x.stay (cap (needed_stay image r x))))))

abbrev pub cost_of_process : Image → ℕ → Process → Option PartFault
cost_of_process image k p =
    or_else (of (part.Process k) subject.Run (below p.run (cap (with_dispatch image.over (needed_by_process image p)))))
    (or_else (of (part.Process k) subject.Suspension (below p.susp (cap (needed_by_process image p).susp)))
    (of (part.Process k) subject.Waits (below p.waits (cap (needed_by_process image p).waits))))

abbrev pub cost_part : Image → Option PartFault
cost_part image = or_else (first_in (cost_of_routine image) image.routines) (first_in (cost_of_process image) image.processes)

-- ---- sizes

abbrev pub locals_of_routine : ℕ → Routine → Option PartFault
locals_of_routine r x = of (part.Routine r) subject.Locals (below x.locals x.params)

abbrev pub stack_of_process : Image → ℕ → Process → Option PartFault
stack_of_process image k p = of (part.Process k) subject.Stack (below p.stack (needed_stack image p))

abbrev pub base_of_monitor : Image → ℕ → Monitor → Option PartFault
base_of_monitor image m x = of (part.Monitor m) subject.Base (other x.base (due_base image.monitors m))

abbrev pub size_part : Image → Option PartFault
size_part image =
    or_else (first_in locals_of_routine image.routines)
    (or_else (first_in (stack_of_process image) image.processes)
    (or_else (first_in (base_of_monitor image) image.monitors) (of part.Whole subject.Words (words_fault image))))

-- ---- ranks, ceilings, blocks

abbrev pub rank_of_process : Image → ℕ → Process → Option PartFault
rank_of_process image k p = of (part.Process k) subject.Rank (other p.rank (rank_of image k))

abbrev pub ceiling_of_monitor : Image → ℕ → Monitor → Option PartFault
ceiling_of_monitor image m x = of (part.Monitor m) subject.Ceiling (other x.ceiling (ceiling_of image m))

abbrev pub block_of_process : Image → ℕ → Process → Option PartFault
block_of_process image k p = of (part.Process k) subject.Block (below p.block (needed_block image p.rank))

abbrev pub rank_part : Image → Option PartFault
rank_part image =
    or_else (first_in (rank_of_process image) image.processes)
    (or_else (first_in (ceiling_of_monitor image) image.monitors) (first_in (block_of_process image) image.processes))

-- ---- bounds

abbrev pub bound_of_process : Image → ℕ → Process → Option PartFault
bound_of_process image k p =
    or_else (of (part.Process k) subject.Bound (below p.bound (demand_at (tasks_of image) (p.rank - 1) p.bound)))
    (of (part.Process k) subject.Deadline (unless (nat_le p.bound p.deadline) p.bound p.deadline))

abbrev pub bound_part : Image → Option PartFault
bound_part image = first_in (bound_of_process image) image.processes

-- ---- all of them

-- the fault of an image, with its part
abbrev pub part_fault : Image → Option PartFault
part_fault image = or_else (operand_part image) (or_else (code_part image) (or_else (handler_part image) (or_else (cost_part image) (or_else (size_part image) (or_else (rank_part image) (bound_part image))))))
