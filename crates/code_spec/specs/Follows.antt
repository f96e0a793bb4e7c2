-- The code of a process is right, said without a relation of the proof: for any number of its
-- ticks, whatever happens around it, the process does what the source meaning has next.
use Rattle.std.specs.Prelude.{◌≡◌, ℕ, zero, suc, ℤ, List, Some, map, slice_get}
use Rattle.machine_isa.specs.declared.instr.Instr.{Instr}
use Rattle.source_semantics.specs.Store.{Vars, fresh}
use Rattle.machine_semantics.specs.State.{State, zeros}
use Rattle.machine_semantics.specs.Effect.{Own, effect}
use Rattle.machine_semantics.specs.Starts.{released}
use Rattle.code_spec.specs.Boundary.{Compiled, View, view_released, next_of, Freeing, Resting, SameInside, Agrees, next_own}

-- the process with other ticks of its instruction passed, ticks of dispatch, and words of all
-- monitors
abbrev pub elsewhere : Own → (done dispatch_ticks : ℕ) → State → Own
elsewhere o done dispatch_ticks s = record { job = record (o.job) { done = done; dispatch_ticks = dispatch_ticks }; owned = o.owned; shared = s.shared }

-- so many last ticks of its instructions agree with the source meaning, from this view on, while
-- others write what it does not reach
abbrev pub Follows : ℕ → (c : Compiled) → Freeing → Resting → Own → View → Type 0
Follows zero c Free Rests o v = Unit {0}
Follows (suc n) c Free Rests o v =
    (s : State) (done dispatch_ticks : ℕ) → SameInside c.image o.job.inside o.shared s.shared
    → (instr : Instr) × (slice_get c.image.code o.job.place ≡ Some instr)
    × Agrees c (Follows n c Free Rests) Free Rests s (elsewhere o done dispatch_ticks s) v (next_of c.program c.text v) (next_of c.program c.text v).action (effect c.image s instr (next_own (elsewhere o done dispatch_ticks s)))

-- each activation of the process follows the source meaning, from its release on
pub record IsRight (c : Compiled) (Free : Freeing) (Rests : Resting) : Type 0 where
  pub begins : Rests (zeros c.process.words) (map (fresh c.program) c.text.vars)
  pub follows : (n : ℕ) (s : State) (owned : List ℤ) (vars : Vars) → Rests owned vars
      → Follows n c Free Rests (record { job = released c.image c.process; owned = owned; shared = s.shared }) (view_released c.text vars)
