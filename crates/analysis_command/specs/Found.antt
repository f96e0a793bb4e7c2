-- What is found in the code is what the text says.
use Rattle.std.specs.Prelude.{◌≡◌, ◌≤◌, ℕ, List, Option, Some, None, drop, length, slice_get}
use Rattle.syntax_tree.specs.Plain.{Monitor, Program}
use Rattle.source_semantics.specs.Names.{monitors}
use Rattle.source_semantics.specs.Ranks.{rank}
use Rattle.machine_semantics.specs.Image.{Image}
use Rattle.code_spec.specs.Numbering.{texts_from}
use Rattle.sched_program.specs.Tasks.{IsLowerStay, IsBlock}
use Rattle.sched_sections.specs.declared.levels.Blocker.{Blocker}
use Rattle.sched_program.specs.Blockers.{entry_of, place_in, IsBlocker}
use Rattle.code_names.specs.declared.nearest.Reached.{Reached}
use Rattle.code_names.specs.Goals.{calls_at, earliest_of, AreFirstPlaces, IsFirst}
use Rattle.analysis_command.specs.declared.graph.CallGraph.{CallGraph}
use Rattle.analysis_command.specs.Graphs.{IsCallGraph, IsImageOfText}
use Rattle.analysis_command.specs.Goals.{AreGoals}

-- what is reached first from the processes below the rank, where the entries that can make the
-- block are the goals
pub record IsFoundOf (m : Image) (graph : CallGraph) (held_up block : ℕ) (found : Option Reached) : Type 0 where
  pub goals : List (Option ℕ)
  pub are_goals : AreGoals m graph.places.items held_up block goals
  pub row : List (Option ℕ)
  pub are_first : AreFirstPlaces goals graph.calls.items (length goals) row
  pub is_first : IsFirst (λ k. earliest_of row (calls_at (drop (length m.routines) graph.calls.items) k)) (drop held_up graph.ranked.items) found

-- the entry at this place of the text and the process of this number make the block of the rank
pub record IsBlockerAt (g : Program) (held_up block place process : ℕ) : Type 0 where
  pub stay : IsLowerStay g held_up block
  pub first : (other : IsLowerStay g held_up block) → place_in g (entry_of stay) ≤ place_in g (entry_of other)
  pub nearest : (other : IsLowerStay g held_up block) → place_in g (entry_of stay) ≡ place_in g (entry_of other) → rank g stay.number ≤ rank g other.number
  pub stands : slice_get (texts_from 0 0 g.decls) place ≡ Some (entry_of stay)
  pub number : stay.number ≡ process
  pub owner : Monitor
  pub owns : slice_get (monitors g) stay.monitor ≡ Some owner

-- they make the block of some rank
pub record IsSomeBlockerAt (g : Program) (place process : ℕ) : Type 0 where
  pub held_up : ℕ
  pub block : ℕ
  pub is : IsBlockerAt g held_up block place process

-- these are their names
abbrev pub IsNamedAt : Program → (place process : ℕ) → Blocker → Type 0
IsNamedAt g place process b = (held block : ℕ) → IsBlockerAt g held block place process → IsBlocker g held block b

abbrev pub IsBlockerFound : Program → (held_up block : ℕ) → Option Reached → Type 0
IsBlockerFound g held block None = block ≡ 0
IsBlockerFound g held block (Some b) = IsBlockerAt g held block b.place b.piece

-- The law: it makes the block, and where nothing is reached the block is 0.
abbrev pub FoundIsTheBlocker : Type 0
FoundIsTheBlocker = (g : Program) (m : Image) (graph : CallGraph) (held block : ℕ) (found : Option Reached) → IsImageOfText g m → IsCallGraph g m graph → held ≤ length graph.ranked.items
    → IsBlock g held block → IsFoundOf m graph held block found → IsBlockerFound g held block found
