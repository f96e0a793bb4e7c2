-- What the plan of a run has of an image.
use Rattle.std.specs.Prelude.{◌≡◌, ◌<◌, ◌≤◌, ◌*◌, ℕ, true, false, List, [], ◌∷◌, Some, length, map, slice_get}
use Rattle.machine_isa.specs.declared.instr.Instr.{Instr}
use Rattle.machine_isa.specs.declared.instr.Instr.TheVariants as i
use Rattle.machine_semantics.specs.Image.{Image, Monitor, Process as Whole, end_of}
use Rattle.machine_semantics.specs.Run.{words_of}
use Rattle.vm_state.specs.Seen.{IsLimit, IsSmall}
use Rattle.vm_instructions.specs.Silent.{IsOf as HasCode}
use Rattle.vm_state.specs.declared.decoded_image.Release.{Release}
use Rattle.vm_state.specs.declared.decoded_image.Release.TheVariants as release
use Rattle.vm_state.specs.declared.decoded_image.DecodedProcess.{DecodedProcess}
use Rattle.vm_state.specs.declared.decoded_image.DecodedImage.{DecodedImage}

-- the process is released so
abbrev pub IsRelease : Whole → Release → Type 0
IsRelease whole (release.Periodic first frame) = (whole.kind ≡ 0) × (whole.first ≡ first) × (whole.frame ≡ frame) × (0 < frame)
IsRelease whole (release.Event event) = (whole.kind ≡ 1) × (whole.event ≡ event)

-- what a run needs to know of a process is what the image has
pub record IsProcess (whole : Whole) (p : DecodedProcess) : Type 0 where
  pub release : IsRelease whole p.release
  pub rank : whole.rank ≡ p.rank
  pub start : whole.start ≡ p.start
  pub handler : whole.handler ≡ p.ends.handler
  pub body : end_of whole false ≡ p.ends.body
  pub handled : end_of whole true ≡ p.ends.handled
  pub numbers : whole.numbers ≡ p.numbers.items
  pub words : whole.words ≡ p.words
  pub stack : whole.stack ≡ p.stack
  pub locals : whole.locals ≡ p.locals
  pub fits : p.locals ≤ p.stack

-- one by one they are
abbrev pub AreProcesses : List Whole → List DecodedProcess → Type 0
AreProcesses [] [] = Unit {0}
AreProcesses (w ∷ ws) (p ∷ ps) = IsProcess w p × AreProcesses ws ps
AreProcesses _ _ = ⊥

-- the operands of an instruction that others see are numbers of 16 bits, and no limit is negative
abbrev pub HasNumbers : Instr → Type 0
HasNumbers (i.Enter m) = IsSmall m
HasNumbers (i.Leave m) = IsSmall m
HasNumbers (i.Wait c limit number) = IsSmall c × IsLimit limit × IsSmall number
HasNumbers (i.Reenter m) = IsSmall m
HasNumbers (i.Signal c) = IsSmall c
HasNumbers (i.Broadcast c) = IsSmall c
HasNumbers (i.Empty c) = IsSmall c
HasNumbers (i.In d) = IsSmall d
HasNumbers (i.Out d) = IsSmall d
HasNumbers (i.Raise number) = IsSmall number
HasNumbers _ = Unit {0}

-- The plan is the image's.
pub record IsOf (image : Image) (plan : DecodedImage) : Type 0 where
  pub code : HasCode image plan.code.items plan.routines.items
  pub numbers : (n : ℕ) (instr : Instr) → slice_get image.code n ≡ Some instr → HasNumbers instr
  pub processes : AreProcesses image.processes plan.processes.items
  pub few : length image.processes ≤ 64
  pub conditions : image.conditions ≡ plan.conditions.items
  pub ceilings : map (λ (m : Monitor). m.ceiling) image.monitors ≡ plan.ceilings.items
  pub shared : words_of image.monitors ≡ plan.shared
  pub devices : length image.devices ≡ plan.devices
  pub dispatch_ticks : 2 * image.over ≡ plan.dispatch_ticks
