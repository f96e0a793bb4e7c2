-- Texts, parts and measures that fit their fields, one by one, and as many of each.
use Rattle.std.specs.Prelude.{◌≡◌, ◌≤◌, List, [], ◌∷◌, filter_map, length}
use Rattle.syntax_tree.specs.Plain.{Process, Program}
use Rattle.source_semantics.specs.Names.{event_in, monitors, processes}
use Rattle.base.specs.declared.capped.Cost.{Cost}
use Rattle.code_spec.specs.Layout.{count, frame_words, words_of}
use Rattle.code_spec.specs.Numbering.{Text, numbered}
use Rattle.code_spec.specs.Compiled.{owner_number}
use Rattle.code_cost.specs.declared.measure.RoutineMeasure.{RoutineMeasure}
use Rattle.code_cost.specs.declared.program.ProcessMeasure.{ProcessMeasure}
use Rattle.code_cost.specs.declared.program.Measures.{Measures}
use Rattle.codegen_spec.specs.declared.code.Part.{Part}
use Rattle.codegen_spec.specs.declared.code.ProcessParts.{ProcessParts}
use Rattle.codegen_spec.specs.declared.code.Code.{Code}
use Rattle.compile_image.specs.Fields.{FitsHandler, FitsPart, FitsParts, monitors_words}

-- each component is one that is counted up to 1,000,000,001
pub record IsCapped (c : Cost) : Type 0 where
  pub run : c.run ≤ 1000000001
  pub susp : c.susp ≤ 1000000001
  pub waits : c.waits ≤ 1000000001

pub record FitsRow (t : Text) (x : Part) (row : RoutineMeasure) : Type 0 where
  pub owner : owner_number t.owner ≤ 65535
  pub params : count t.routine.params ≤ 4096
  pub part : FitsPart x
  pub words : row.words ≤ 4096
  pub cost : IsCapped row.cost
  pub stay : row.stay ≤ 1000000001

abbrev pub FitRows : List Text → List Part → List RoutineMeasure → Type 0
FitRows [] [] [] = Unit {0}
FitRows (t ∷ ts) (x ∷ xs) (row ∷ rows) = FitsRow t x row × FitRows ts xs rows
FitRows ts xs rows = ⊥

pub record FitsSize (g : Program) (p : Process) (x : ProcessParts) (size : ProcessMeasure) : Type 0 where
  pub words : words_of g p.vars ≤ 1048576
  pub locals : frame_words p ≤ 4096
  pub stack : size.stack ≤ 4096
  pub handler : FitsHandler g p.handler
  pub parts : FitsParts x
  pub cost : IsCapped size.cost

abbrev pub FitSizes : Program → List Process → List ProcessParts → List ProcessMeasure → Type 0
FitSizes g [] [] [] = Unit {0}
FitSizes g (p ∷ ps) (x ∷ xs) (size ∷ sizes) = FitsSize g p x size × FitSizes g ps xs sizes
FitSizes g ps xs sizes = ⊥

-- each part of the image fits its fields, and there is one for each part of the program
pub record FitAll (g : Program) (k : Code) (m : Measures) : Type 0 where
  pub few_monitors : length (monitors g) ≤ 64
  pub few_events : length (filter_map event_in g.decls) ≤ 64
  pub monitor_words : monitors_words g (monitors g) ≤ 1048576
  pub routine_parts : length k.routines ≡ length (numbered g)
  pub rows : length m.routines ≡ length (numbered g)
  pub fit_rows : FitRows (numbered g) k.routines m.routines
  pub process_parts : length k.processes ≡ length (processes g)
  pub sizes : length m.processes ≡ length (processes g)
  pub fit_sizes : FitSizes g (processes g) k.processes m.processes
