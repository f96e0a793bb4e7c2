-- An image holds the code that is made of a program, with the words and the tables of its text.
use Rattle.std.specs.Prelude.{◌≡◌, List, [], ◌∷◌, Option, Some, None, map, filter_map, is_some}
use Rattle.syntax_tree.specs.Plain.{Handler, Process, Program}
use Rattle.source_semantics.specs.Names.{monitors, processes, count_value, frame_of, deadline_of}
use Rattle.machine_semantics.specs.Image as image
use Rattle.image_format.specs.View.{views}
use Rattle.code_spec.specs.Layout.{count, words_of, routine_words, frame_words}
use Rattle.code_spec.specs.Numbering.{Text, numbered}
use Rattle.code_spec.specs.Compiled.{kind_number, owner_number, ascending, IsReleased, AreMonitors, condition_monitors, device_direction}
use Rattle.codegen_spec.specs.declared.code.Part.{Part}
use Rattle.codegen_spec.specs.declared.code.ProcessParts.{ProcessParts}
use Rattle.codegen_spec.specs.declared.code.Code.{Code}

-- a routine of the image, and the part of the code that is made of it
pub record HoldsRoutine (g : Program) (t : Text) (x : Part) (r : image.Routine) : Type 0 where
  pub kind : r.kind ≡ kind_number t.owner
  pub owner : r.owner ≡ owner_number t.owner
  pub params : r.params ≡ count t.routine.params
  pub locals : r.locals ≡ routine_words g t.routine
  pub gives : r.gives ≡ is_some t.routine.answers
  pub start : r.start ≡ x.start
  pub tree : r.tree ≡ views x.tree

-- one by one, and as many of each
abbrev pub HoldRoutines : Program → List Text → List Part → List image.Routine → Type 0
HoldRoutines g [] [] [] = Unit {0}
HoldRoutines g (t ∷ ts) (x ∷ xs) (r ∷ rs) = HoldsRoutine g t x r × HoldRoutines g ts xs rs
HoldRoutines g ts xs rs = ⊥

-- the handler of a process, if it has one
abbrev pub HoldsHandler : Program → Option Handler → Option Part → image.Process → Type 0
HoldsHandler g None None p = (p.handler ≡ 0) × (p.numbers ≡ []) × (p.handler_tree ≡ None)
HoldsHandler g (Some h) (Some x) p =
    (p.handler ≡ x.start) × (p.numbers ≡ ascending (map (λ n. count_value g n) h.numbers))
    × (p.handler_tree ≡ Some (views x.tree))
HoldsHandler g h x p = ⊥

pub record HoldsProcess (g : Program) (t : Process) (x : ProcessParts) (p : image.Process) : Type 0 where
  pub start : p.start ≡ x.body.start
  pub tree : p.body ≡ views x.body.tree
  pub handler : HoldsHandler g t.handler x.handler p
  pub locals : p.locals ≡ frame_words t
  pub words : p.words ≡ words_of g t.vars
  pub frame : p.frame ≡ frame_of g t.activation
  pub deadline : p.deadline ≡ deadline_of g t.activation
  pub released : IsReleased g t.activation p

abbrev pub HoldProcesses : Program → List Process → List ProcessParts → List image.Process → Type 0
HoldProcesses g [] [] [] = Unit {0}
HoldProcesses g (t ∷ ts) (x ∷ xs) (p ∷ ps) = HoldsProcess g t x p × HoldProcesses g ts xs ps
HoldProcesses g ts xs ps = ⊥

-- The image has this code, the parts of it with what their texts say, and the words and the tables
-- of monitors, conditions and devices.
pub record Holds (g : Program) (k : Code) (m : image.Image) : Type 0 where
  pub code : m.code ≡ k.instrs
  pub routines : HoldRoutines g (numbered g) k.routines m.routines
  pub bodies : HoldProcesses g (processes g) k.processes m.processes
  pub monitor_words : AreMonitors g 0 (monitors g) m.monitors
  pub condition_table : m.conditions ≡ condition_monitors 0 (monitors g)
  pub device_table : m.devices ≡ filter_map device_direction g.decls
