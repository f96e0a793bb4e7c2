-- What is asked of an image for its plan.
use Rattle.std.specs.Prelude.{◌≡◌, ◌≤◌, ◌<◌, ◌+◌, ℕ, false, All, Option, Some, None, length, slice_get}
use Rattle.machine_isa.specs.declared.instr.Instr.{Instr}
use Rattle.machine_semantics.specs.Trees.{Segs, size}
use Rattle.machine_semantics.specs.Image.{Image, Process, Routine, end_of}
use Rattle.vm_state.specs.Plan.{HasNumbers}

-- the tree of a handler, if there is one, ends in code of so many instructions
abbrev pub HandlerEnds : ℕ → ℕ → Option Segs → Type 0
HandlerEnds code handler None = Unit {0}
HandlerEnds code handler (Some tree) = handler + size tree ≤ code

-- the clock or an event releases the process, its locals stand in its stack, and its parts end in
-- code of so many instructions
pub record CanRun (code : ℕ) (p : Process) : Type 0 where
  pub kind : p.kind ≤ 1
  pub frame : 0 < p.frame
  pub locals : p.locals ≤ p.stack
  pub body : end_of p false ≤ code
  pub handler : HandlerEnds code p.handler p.handler_tree

-- the image has a plan
pub record HasPlan (image : Image) : Type 0 where
  pub numbers : (n : ℕ) (instr : Instr) → slice_get image.code n ≡ Some instr → HasNumbers instr
  pub params : All (λ (r : Routine). r.params ≤ r.locals) image.routines
  pub processes : All (CanRun (length image.code)) image.processes
  pub few : length image.processes ≤ 64
  pub monitors : length image.monitors ≤ 64
