-- All tests of validity, with their parts and without.
use Rattle.std.proofs.Common.{◌-◌, ℕ, Option}
use Rattle.std.specs.Prelude.{nat_le}
use Rattle.base.specs.Capped.{cap}
use Rattle.sched_response.specs.Demand.{demand_at}
use Rattle.machine_semantics.specs.Image.{Image, Monitor, Routine, Process}
use Rattle.valid_image.specs.Fault.{Fault, unless, or_else, first_in}
use Rattle.valid_image.specs.Operands.{whose_routine, whose_process, operand_fault_in, routines_operand_fault, processes_operand_fault, operand_fault}
use Rattle.valid_image.specs.Pieces.{piece_number}
use Rattle.valid_image.specs.Shape.{routine_shape_fault, process_shape_fault, coverage_fault, shape_fault, is_handler, handler_fault}
use Rattle.valid_image.specs.Sizes.{below, other, needed_by_routine, needed_by_process, needed_stay, needed_stack, due_base, with_dispatch, routine_cost_fault, process_cost_fault, cost_fault, params_fault, stack_fault, base_fault, words_fault, size_fault}
use Rattle.valid_image.specs.Tasks.{tasks_of}
use Rattle.valid_image.specs.Times.{rank_of, ceiling_of, needed_block, ranks_fault, ceilings_fault, blocks_fault, rank_fault, process_bound_fault, bound_fault}
use Rattle.valid_image.specs.Valid.{Shape, Costs, Sizes, Ranks, Bounds, Operands, Handlers, shown, fault_of}
use Rattle.faulty_part.specs.declared.part.FaultyPart.TheVariants as part
use Rattle.faulty_part.specs.declared.part.Subject.TheVariants as subject
use Rattle.faulty_part.specs.Parts as parts
use Rattle.faulty_part.specs.Law.{shown_if, PartsHaveTheFault}
use Rattle.faulty_part.proofs.Told.{IsTold, told_of, told_else, told_in, told_later}

operands_told : (image : Image) → IsTold Operands (parts.operand_part image) (operand_fault image)
operands_told image =
    told_else Operands _ _ (routines_operand_fault image) (processes_operand_fault image)
    (told_in Operands (parts.operand_of_routine image) (λ r x. operand_fault_in image r (whose_routine r x)) (λ r x. told_of (part.Routine r) subject.Operand _) image.routines)
    (told_in Operands (parts.operand_of_process image) (λ k p. operand_fault_in image (piece_number image k) (whose_process image k p)) (λ k p. told_of (part.Process k) subject.Operand _) image.processes)

pub code_told : (image : Image) → IsTold Shape (parts.code_part image) (shape_fault image)
code_told image =
    told_else Shape _ _ (first_in (routine_shape_fault image) image.routines) (or_else (first_in (process_shape_fault image) image.processes) (coverage_fault image))
    (told_in Shape (parts.code_of_routine image) (routine_shape_fault image) (λ r x. told_of (part.Routine r) subject.Code _) image.routines)
    (told_else Shape _ _ (first_in (process_shape_fault image) image.processes) (coverage_fault image)
    (told_in Shape (parts.code_of_process image) (process_shape_fault image) (λ k p. told_of (part.Process k) subject.Code _) image.processes)
    (told_of part.Whole subject.Code (coverage_fault image)))

handlers_told : (image : Image) → IsTold Handlers (parts.handler_part image) (handler_fault image)
handlers_told image = told_in Handlers (parts.handler_of_process image) (λ k p. unless (is_handler image p p.handler_tree) k 0) (λ k p. told_of (part.Process k) subject.Handler _) image.processes

costs_told : (image : Image) → IsTold Costs (parts.cost_part image) (cost_fault image)
costs_told image =
    told_else Costs _ _ (first_in (routine_cost_fault image) image.routines) (first_in (λ k p. process_cost_fault image p) image.processes)
    (told_in Costs (parts.cost_of_routine image) (routine_cost_fault image) of_routine image.routines)
    (told_in Costs (parts.cost_of_process image) (λ k p. process_cost_fault image p) of_process image.processes) where
      run : ℕ → Routine → Option Fault
      run r x = below x.run (cap (needed_by_routine image r x).run)

      susp : ℕ → Routine → Option Fault
      susp r x = below x.susp (cap (needed_by_routine image r x).susp)

      waits : ℕ → Routine → Option Fault
      waits r x = below x.waits (cap (needed_by_routine image r x).waits)

      stay : ℕ → Routine → Option Fault
      stay r x = below x.stay (cap (needed_stay image r x))

      of_routine : (r : ℕ) (x : Routine) → IsTold Costs (parts.cost_of_routine image r x) (routine_cost_fault image r x)
      of_routine r x =
          told_else Costs _ _ (run r x) (or_else (susp r x) (or_else (waits r x) (stay r x))) (told_of (part.Routine r) subject.Run (run r x))
          (told_else Costs _ _ (susp r x) (or_else (waits r x) (stay r x)) (told_of (part.Routine r) subject.Suspension (susp r x))
          (told_else Costs _ _ (waits r x) (stay r x) (told_of (part.Routine r) subject.Waits (waits r x)) (told_of (part.Routine r) subject.Stay (stay r x))))

      run_of : Process → Option Fault
      run_of p = below p.run (cap (with_dispatch image.over (needed_by_process image p)))

      susp_of : Process → Option Fault
      susp_of p = below p.susp (cap (needed_by_process image p).susp)

      waits_of : Process → Option Fault
      waits_of p = below p.waits (cap (needed_by_process image p).waits)

      of_process : (k : ℕ) (p : Process) → IsTold Costs (parts.cost_of_process image k p) (process_cost_fault image p)
      of_process k p =
          told_else Costs _ _ (run_of p) (or_else (susp_of p) (waits_of p)) (told_of (part.Process k) subject.Run (run_of p))
          (told_else Costs _ _ (susp_of p) (waits_of p) (told_of (part.Process k) subject.Suspension (susp_of p)) (told_of (part.Process k) subject.Waits (waits_of p)))

sizes_told : (image : Image) → IsTold Sizes (parts.size_part image) (size_fault image)
sizes_told image =
    told_else Sizes _ _ (params_fault image) (or_else (stack_fault image) (or_else (base_fault image.monitors) (words_fault image)))
    (told_in Sizes parts.locals_of_routine (λ r x. below x.locals x.params) (λ r x. told_of (part.Routine r) subject.Locals _) image.routines)
    (told_else Sizes _ _ (stack_fault image) (or_else (base_fault image.monitors) (words_fault image))
    (told_in Sizes (parts.stack_of_process image) (λ k p. below p.stack (needed_stack image p)) (λ k p. told_of (part.Process k) subject.Stack _) image.processes)
    (told_else Sizes _ _ (base_fault image.monitors) (words_fault image)
    (told_in Sizes (parts.base_of_monitor image) (λ m x. other x.base (due_base image.monitors m)) (λ m x. told_of (part.Monitor m) subject.Base _) image.monitors)
    (told_of part.Whole subject.Words (words_fault image))))

pub ranks_told : (image : Image) → IsTold Ranks (parts.rank_part image) (rank_fault image)
ranks_told image =
    told_else Ranks _ _ (ranks_fault image) (or_else (ceilings_fault image) (blocks_fault image))
    (told_in Ranks (parts.rank_of_process image) (λ k p. other p.rank (rank_of image k)) (λ k p. told_of (part.Process k) subject.Rank _) image.processes)
    (told_else Ranks _ _ (ceilings_fault image) (blocks_fault image)
    (told_in Ranks (parts.ceiling_of_monitor image) (λ m x. other x.ceiling (ceiling_of image m)) (λ m x. told_of (part.Monitor m) subject.Ceiling _) image.monitors)
    (told_in Ranks (parts.block_of_process image) (λ k p. below p.block (needed_block image p.rank)) (λ k p. told_of (part.Process k) subject.Block _) image.processes))

bounds_told : (image : Image) → IsTold Bounds (parts.bound_part image) (bound_fault image)
bounds_told image = told_in Bounds (parts.bound_of_process image) (λ k p. process_bound_fault image p) of_process image.processes where
  solved : Process → Option Fault
  solved p = below p.bound (demand_at (tasks_of image) (p.rank - 1) p.bound)

  timely : Process → Option Fault
  timely p = unless (nat_le p.bound p.deadline) p.bound p.deadline

  of_process : (k : ℕ) (p : Process) → IsTold Bounds (parts.bound_of_process image k p) (process_bound_fault image p)
  of_process k p = told_else Bounds _ _ (solved p) (timely p) (told_of (part.Process k) subject.Bound (solved p)) (told_of (part.Process k) subject.Deadline (timely p))

pub whole : PartsHaveTheFault
whole image =
    told_later Operands _ (operand_fault image) _ _ (operands_told image)
    (told_later Shape _ (shape_fault image) _ _ (code_told image)
    (told_later Handlers _ (handler_fault image) _ _ (handlers_told image)
    (told_later Costs _ (cost_fault image) _ _ (costs_told image)
    (told_later Sizes _ (size_fault image) _ _ (sizes_told image)
    (told_later Ranks _ (rank_fault image) _ _ (ranks_told image) (bounds_told image))))))
