-- An image that is the code of a program, and declares what its text says, is valid.
use Rattle.std.specs.Prelude.{◌≡◌, ◌≤◌, ◌-◌, ℕ, Bool, Some, None, length, slice_get}
use Rattle.syntax_tree.specs.Plain.{Program}
use Rattle.sched_response.specs.Demand.{demand_at}
use Rattle.machine_semantics.specs.Image as image
use Rattle.valid_image.specs.Tasks.{tasks_of}
use Rattle.source_semantics_law.specs.Example.{signalled_wait}
use Rattle.machine_safety.specs.ValidImages.{meeting}
use Rattle.valid_image.specs.Sizes.{words_over_all}
use Rattle.valid_image.specs.Times.{rank_of, ceiling_of, needed_block}
use Rattle.valid_image.specs.Valid.{Shape, Costs, Sizes, Ranks, Bounds, Operands, Handlers, fault_of_part, IsValid}
use Rattle.code_spec.specs.Numbering.{Text}
use Rattle.code_cost_spec.specs.Levels.{code_length}
use Rattle.code_spec.specs.Compiled.{IsCodeOf}
use Rattle.code_measures.specs.Declared.{IsSound, Declares}
use Rattle.code_measures.specs.Quiet.{AreQuiet}

-- ranks, ceilings and blocks are the defined ones
pub record HasRanks (m : image.Image) : Type 0 where
  pub ranks : (k : ℕ) (p : image.Process) → slice_get m.processes k ≡ Some p → p.rank ≡ rank_of m k
  pub ceilings : (j : ℕ) (x : image.Monitor) → slice_get m.monitors j ≡ Some x → x.ceiling ≡ ceiling_of m j
  pub blocks : (k : ℕ) (p : image.Process) → slice_get m.processes k ≡ Some p → p.block ≡ needed_block m p.rank

-- a bound meets the recurrence, as the least that does so in particular, and is no longer than the
-- deadline
pub record IsBound (m : image.Image) (p : image.Process) : Type 0 where
  pub meets : demand_at (tasks_of m) (p.rank - 1) p.bound ≤ p.bound
  pub timely : p.bound ≤ p.deadline

-- The image of a program: its code, what it declares of costs, stacks, ranks, ceilings and blocks,
-- its bounds; its words are not too many, and its handlers do not wait.
pub record IsMade (g : Program) (m : image.Image) : Type 0 where
  pub code : IsCodeOf g m
  pub sound : IsSound g
  pub declares : Declares g m
  pub quiet : Text → Bool
  pub handlers : AreQuiet g quiet
  pub few_words : words_over_all m ≤ 1048576
  pub ranks : HasRanks m
  pub bounds : (k : ℕ) (p : image.Process) → slice_get m.processes k ≡ Some p → IsBound m p

-- the parts of validity that are proved
pub record SixPartsHold (m : image.Image) : Type 0 where
  pub shape : fault_of_part m Shape ≡ None
  pub costs : fault_of_part m Costs ≡ None
  pub sizes : fault_of_part m Sizes ≡ None
  pub ranks : fault_of_part m Ranks ≡ None
  pub bounds : fault_of_part m Bounds ≡ None
  pub handlers : fault_of_part m Handlers ≡ None

-- The law: six of the seven parts of validity hold of the image of a program.
abbrev pub MadeImagesKeepSixParts : Type 0
MadeImagesKeepSixParts = (g : Program) (m : image.Image) → IsMade g m → SixPartsHold m

-- The law: with operands as they should be, the image is valid.
abbrev pub MadeImagesAreValid : Type 0
MadeImagesAreValid = (g : Program) (m : image.Image) → IsMade g m → fault_of_part m Operands ≡ None → IsValid m

-- The law: the code has as many instructions as the text says.
abbrev pub CodeHasItsLength : Type 0
CodeHasItsLength = (g : Program) (m : image.Image) → IsCodeOf g m → IsSound g → length m.code ≡ code_length g

-- A program with a monitor, a wait, a signal and a handler, and its image, meet all premises.
abbrev pub MeetingIsMade : Type 0
MeetingIsMade = IsMade signalled_wait meeting
