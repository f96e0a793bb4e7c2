-- What the measures of a whole program are: what is defined of its routines and processes, as far
-- as it is counted.
use Rattle.std.specs.Prelude.{◌≡◌, ◌≤◌, ◌<◌, ◌+◌, ℕ, Option, Some, None, length, slice_get, sum_by}
use Rattle.syntax_tree.specs.Plain.{Handler, Process, Program}
use Rattle.source_semantics.specs.Names.{processes}
use Rattle.code_spec.specs.Numbering.{Text, numbered}
use Rattle.code_cost_spec.specs.Levels.{code_length}
use Rattle.code_measures.specs.Declared.{IsSound}
use Rattle.code_cost.specs.declared.program.Measures.{Measures}
use Rattle.code_cost.specs.Parts.{measures_of}
use Rattle.code_cost.specs.Sizes.{AreDefined}
use Rattle.code_measures.specs.MeasuredTexts.{AllBoundsFit}

-- ---- loops

abbrev pub HandlerLoopsFit : Program → Option Handler → Type 0
HandlerLoopsFit g None = Unit {0}
HandlerLoopsFit g (Some h) = AllBoundsFit g h.body

-- the bounds of each loop of the program are numbers of 32 bits
pub record LoopsFit (g : Program) : Type 0 where
  pub routines : (r : ℕ) (t : Text) → slice_get (numbered g) r ≡ Some t
      → AllBoundsFit g t.routine.body
  pub bodies : (k : ℕ) (p : Process) → slice_get (processes g) k ≡ Some p
      → AllBoundsFit g p.body × HandlerLoopsFit g p.handler

-- ---- the table

-- The law: what is measured of a program is what is defined of it.
abbrev pub MeasuresAreDefined : Type 0
MeasuresAreDefined = (g : Program) → IsSound g → LoopsFit g → AreDefined g (measures_of g)

-- ---- all lengths

abbrev pub total : Measures → ℕ
total m = sum_by (λ r. r.length) m.routines + sum_by (λ p. p.length) m.processes

-- The law: the lengths add up to the number of instructions, where that is at most 65,535; else to
-- more than 65,535.
abbrev pub TotalIsDefined : Type 0
TotalIsDefined = (g : Program) (m : Measures) → AreDefined g m
    → (code_length g ≤ 65535 → total m ≡ code_length g) × (65535 < code_length g → 65535 < total m)
