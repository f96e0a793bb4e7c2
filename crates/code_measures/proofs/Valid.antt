-- The parts of validity.
use Rattle.std.specs.Prelude.{◌≡◌, ◌≤◌, ◌-◌, ℕ, Some, None, slice_get}
use Rattle.std.proofs.Common.{ap, arith}
use Rattle.std.proofs.lemmas.Bool.{eq-eqb, le-leb}
use Rattle.sched_response.specs.Demand.{demand_at}
use Rattle.machine_semantics.specs.Image as image
use Rattle.valid_image.specs.Tasks.{tasks_of}
use Rattle.valid_image.specs.Fault.{unless}
use Rattle.valid_image.specs.Sizes.{below, other}
use Rattle.valid_image.specs.Times.{rank_of, ceiling_of, needed_block, rank_fault, process_bound_fault, bound_fault}
use Rattle.valid_image.specs.Valid.{Part, Shape, Costs, Sizes, Ranks, Bounds, Operands, Handlers, fault_of_part}
use Rattle.code_measures.specs.Whole.{HasRanks, IsBound, MadeImagesKeepSixParts, MadeImagesAreValid}
use Rattle.code_measures.proofs.CostPart.{none_all, both_none, enough, no_cost_fault}
use Rattle.code_measures.proofs.ShapePart.{no_shape_fault}
use Rattle.code_measures.proofs.HandlerPart.{no_handler_fault}
use Rattle.code_measures.proofs.SizePart.{no_size_fault}

pub same_none : (d n : ℕ) → d ≡ n → other d n ≡ None
same_none d n e = ap (λ b. unless b d n) (eq-eqb d n e)

pub no_rank_fault : (m : image.Image) → HasRanks m → rank_fault m ≡ None
no_rank_fault m h =
    both_none _ _ (none_all (λ k p. other p.rank (rank_of m k)) m.processes (λ k p at. same_none p.rank (rank_of m k) (h.ranks k p at)))
    (both_none _ _ (none_all (λ j x. other x.ceiling (ceiling_of m j)) m.monitors (λ j x at. same_none x.ceiling (ceiling_of m j) (h.ceilings j x at)))
    (none_all (λ k p. below p.block (needed_block m p.rank)) m.processes (λ k p at. enough p.block (needed_block m p.rank) (no_less (h.blocks k p at)))))
  where
    no_less : {a b : ℕ} → a ≡ b → b ≤ a
    no_less e = omega (arith, e)

no_bound_fault : (m : image.Image) → ((k : ℕ) (p : image.Process) → slice_get m.processes k ≡ Some p → IsBound m p) → bound_fault m ≡ None
no_bound_fault m h =
    none_all (λ k p. process_bound_fault m p) m.processes
    (λ k p at. both_none _ _ (enough p.bound (demand_at (tasks_of m) (p.rank - 1) p.bound) (h k p at).meets) (ap (λ b. unless b p.bound p.deadline) (le-leb p.bound p.deadline (h k p at).timely)))

pub six_parts : MadeImagesKeepSixParts
six_parts g m made = record {
  shape = no_shape_fault g m made.code made.sound made.declares;
  costs = no_cost_fault g m made.code made.sound made.declares;
  sizes = no_size_fault g m made.code made.sound made.declares made.few_words;
  ranks = no_rank_fault m made.ranks;
  bounds = no_bound_fault m made.bounds;
  handlers = no_handler_fault g m made.code made.sound made.declares made.quiet made.handlers;
}

pub made_images_are_valid : MadeImagesAreValid
made_images_are_valid g m made operands = by_part
  where
    by_part : (part : Part) → fault_of_part m part ≡ None
    by_part Shape = (six_parts g m made).shape
    by_part Costs = (six_parts g m made).costs
    by_part Sizes = (six_parts g m made).sizes
    by_part Ranks = (six_parts g m made).ranks
    by_part Bounds = (six_parts g m made).bounds
    by_part Operands = operands
    by_part Handlers = (six_parts g m made).handlers
