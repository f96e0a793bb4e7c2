-- What the code of an instruction that others see has done.
use Rattle.std.specs.Prelude.{◌≡◌, ◌<◌, ◌^◌, ℕ, ℤ, pos, negsuc, true, List, Option, Some, unsigned_abs}
use Rattle.machine_isa.specs.declared.instr.Instr.TheVariants as i
use Rattle.base.specs.declared.event.Act.{Act}
use Rattle.machine_semantics.specs.Image.{Image}
use Rattle.machine_semantics.specs.State.{State, is_free}
use Rattle.machine_semantics.specs.Effect.{Own, Does, Waits, effect, monitor_of}
use Rattle.vm_instructions.specs.Frames.{Frames}
use Rattle.vm_instructions.specs.Steps.{HasWord, with_frames}
use Rattle.vm_state.specs.declared.visible_effects.WaitRequest.{WaitRequest}

-- a number of 16 bits
abbrev pub IsSmall : ℤ → Type 0
IsSmall (pos n) = n < 2 ^ 16
IsSmall (negsuc n) = ⊥

abbrev pub IsLimit : ℤ → Type 0
IsLimit (pos n) = Unit {0}
IsLimit (negsuc n) = ⊥

-- inside this monitor, or none
abbrev pub with_inside : Option ℕ → Own → Own
with_inside inside o = record o { job = record (o.job) { inside = inside } }

abbrev pub DoesPut : ℤ → Frames → Act → Frames → Type 0
DoesPut device old act new = (image : Image) (s : State) (o : Own) → HasWord s.devices device → effect image s (i.Out device) (with_frames old o) ≡ Does act (with_frames new o)

abbrev pub DoesGet : ℤ → List ℤ → Frames → Act → Frames → Type 0
DoesGet device devices old act new = (image : Image) (s : State) (o : Own) → s.devices ≡ devices → effect image s (i.In device) (with_frames old o) ≡ Does act (with_frames new o)

abbrev pub DoesEmpty : ℤ → List (List ℕ) → Frames → Act → Frames → Type 0
DoesEmpty condition queues old act new = (image : Image) (s : State) (o : Own) → s.queues ≡ queues → effect image s (i.Empty condition) (with_frames old o) ≡ Does act (with_frames new o)

-- both of the instructions that enter
abbrev pub DoesEnter : ℤ → Option ℕ → Act → Option ℕ → Type 0
DoesEnter monitor old act new =
    (image : Image) (s : State) (o : Own) → is_free (unsigned_abs monitor) s.threads ≡ true
    → (effect image s (i.Enter monitor) (with_inside old o) ≡ Does act (with_inside new o)) × (effect image s (i.Reenter monitor) (with_inside old o) ≡ Does act (with_inside new o))

abbrev pub DoesLeave : ℤ → Option ℕ → Act → Option ℕ → Type 0
DoesLeave monitor old act new = (image : Image) (s : State) (o : Own) → effect image s (i.Leave monitor) (with_inside old o) ≡ Does act (with_inside new o)

abbrev pub DoesWait : ℤ → ℤ → ℤ → Option ℕ → WaitRequest → Option ℕ → Type 0
DoesWait condition limit number old w new =
    (image : Image) (s : State) (o : Own) (m : ℕ) → monitor_of image condition ≡ Some m → old ≡ Some m
    → effect image s (i.Wait condition limit number) (with_inside old o) ≡ Waits w.condition w.limit w.number (with_inside new o)
