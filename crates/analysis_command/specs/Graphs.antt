-- What the search for a blocker goes over.
use Rattle.std.specs.Prelude.{◌≡◌, ◌<◌, ℕ, List, length, map, slice_index}
use Rattle.syntax_tree.specs.Plain.{Program}
use Rattle.machine_semantics.specs.Image.{Image}
use Rattle.valid_image.specs.Tasks.{process_at}
use Rattle.loader_code.specs.Owned.{AreCalls}
use Rattle.code_spec.specs.Numbering.{numbered}
use Rattle.code_spec.specs.Compiled.{IsCodeOf}
use Rattle.code_measures.specs.Declared.{Declares}
use Rattle.code_measures.specs.Whole.{HasRanks}
use Rattle.static_semantics.specs.WellFormed.{IsWellFormed}
use Rattle.codegen_law.specs.Ruled.{NamesApart}
use Rattle.sched_program.specs.Blockers.{place_in}
use Rattle.analysis_command.specs.declared.graph.CallGraph.{CallGraph}

-- the processes in the order of ranks
pub record AreRanked (m : Image) (ranked : List ℕ) : Type 0 where
  pub one_each : length ranked ≡ length m.processes
  pub each : (level : ℕ) → level < length m.processes → slice_index ranked level ≡ process_at m level

-- what each piece of the image calls, and the places of the routines in the text
pub record IsCallGraph (g : Program) (m : Image) (graph : CallGraph) : Type 0 where
  pub calls : AreCalls m graph.calls.items
  pub places : graph.places.items ≡ map (place_in g) (numbered g)
  pub ranked : AreRanked m graph.ranked.items

-- the image is that of a program that keeps to the rules, with its costs, ranks and ceilings
pub record IsImageOfText (g : Program) (m : Image) : Type 0 where
  pub form : IsWellFormed g
  pub names : NamesApart g
  pub code : IsCodeOf g m
  pub declares : Declares g m
  pub ranks : HasRanks m
