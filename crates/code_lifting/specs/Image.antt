-- The image of a program, and what its words hold.
use Rattle.std.specs.Prelude.{◌≡◌, ℕ, ℤ, List, Some, None, slice_get, unwrap_or}
use Rattle.syntax_tree.specs.Plain.{Program}
use Rattle.syntax_tree.specs.Plain as tree
use Rattle.source_semantics.specs.Names.{processes}
use Rattle.source_semantics.specs.Store.{Vars}
use Rattle.source_semantics.specs.Ranks.{rank, ceiling}
use Rattle.machine_semantics.specs.Image.{Image, Process, Monitor}
use Rattle.code_spec.specs.Layout.{in_process, in_monitor, process_places, monitor_places}
use Rattle.code_spec.specs.Compiled.{EmitsProcess, IsCodeOf}
use Rattle.code_spec.specs.Memory.{Holds, opens_of}
use Rattle.source_semantics.specs.Starts.{Script}
use Rattle.source_semantics.specs.Source.{IsSourceRun}
use Rattle.machine_semantics.specs.Run.{events}
use Rattle.machine_semantics.specs.Walk.{Where}
use Rattle.machine_semantics.specs.Safe.{Parts, ImageFits}
use Rattle.machine_semantics.specs.Whole.{HasNoOverrun}
use Rattle.code_spec.specs.Boundary.{Compiled}
use Rattle.code_spec.specs.Follows.{IsRight}
use Rattle.code_lifting.specs.Related.{Whole}
use Rattle.code_lifting.specs.Compiled.{IsFrom, script_of}

-- the words of a monitor hold its variables, each where it lies
abbrev pub FreeHolds : Whole → ℕ → List ℤ → Vars → Type 0
FreeHolds w m shared vars = Holds (opens_of w.image (Some m) in_monitor) shared (monitor_places w.program m) vars

-- the words of a process hold its variables, each where it lies
abbrev pub RestHolds : Whole → ℕ → List ℤ → Vars → Type 0
RestHolds w k owned vars = Holds (opens_of w.image None in_process) owned (process_places w.program k) vars

-- the image is that of the program: code, words, ranks and ceilings
pub record IsImageOf (w : Whole) : Type 0 where
  pub code : IsCodeOf w.program w.image
  pub ranks : (k : ℕ) (p : Process) → slice_get w.image.processes k ≡ Some p → p.rank ≡ rank w.program k
  pub ceilings : (m : ℕ) (monitor : Monitor) → slice_get w.image.monitors m ≡ Some monitor → monitor.ceiling ≡ unwrap_or (ceiling w.program m) 65535

-- process k of both
abbrev pub compiled_of : Whole → ℕ → Process → tree.Process → Compiled
compiled_of w k p text = record { image = w.image; program = w.program; number = k; process = p; text = text }

-- the code of each process is right
abbrev pub AreRight : Whole → Type 0
AreRight w = (k : ℕ) (p : Process) (text : tree.Process) (a b : ℕ) → slice_get w.image.processes k ≡ Some p → slice_get (processes w.program) k ≡ Some text → EmitsProcess w.program w.image.code k text a b p
    → IsRight (compiled_of w k p text) (FreeHolds w) (RestHolds w k)

abbrev pub whole : Image → Program → Whole
whole image g = record { image = image; program = g }

-- The law: the events of each run of the image of a program, without overrun, are a source run of
-- the program. The image is valid, and the code of each of its processes is right.
abbrev pub RunsAreSourceRuns : Type 0
RunsAreSourceRuns = (e : Where) (ps : ℕ → Parts) (g : Program) (script : Script) → ImageFits e ps → IsImageOf (whole e.image g) → AreRight (whole e.image g)
    → IsFrom 0 script.lines → HasNoOverrun e.image (script_of script) → IsSourceRun g script (events e.image (script_of script))
