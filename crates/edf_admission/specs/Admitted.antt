-- Images that may run under earliest deadline first.
--
-- The test of the demand takes costs, deadlines and blocks as an image declares them. A valid image
-- may declare a block above the one that its stays need: then the declared one stands for the
-- stays, and the test is the stricter for it.
use Rattle.std.specs.Prelude.{◌≡◌, ◌<◌, ℕ, Bool, true, false, Some, slice_get}
use Rattle.machine_isa.specs.declared.instr.Instr.{Instr}
use Rattle.machine_isa.specs.declared.instr.Instr.TheVariants as i
use Rattle.machine_semantics.specs.Image.{Image}
use Rattle.sched_demand.specs.declared.judging.Judgement.TheVariants as judgement
use Rattle.command_due.specs.Tasks.{IsAnswer}

abbrev pub is_wait : Instr → Bool
is_wait (i.Wait condition limit number) = true
is_wait _ = false

-- a WAIT stands at the address
pub record IsWait (m : Image) (at : ℕ) : Type 0 where
  pub instr : Instr
  pub here : slice_get m.code at ≡ Some instr
  pub waits : is_wait instr ≡ true

-- a WAIT stands at the address, and none below it
pub record IsFirstWait (m : Image) (at : ℕ) : Type 0 where
  pub here : IsWait m at
  pub first : (a : ℕ) → a < at → IsWait m a → ⊥

abbrev pub HasNoWait : Image → Type 0
HasNoWait m = (a : ℕ) → IsWait m a → ⊥

-- it waits nowhere, a dispatch takes no ticks, and the test of the demand says that it is feasible
pub record IsAdmitted (m : Image) : Type 0 where
  pub waitless : HasNoWait m
  pub over : m.over ≡ 0
  pub points : ℕ
  pub feasible : IsAnswer m (judgement.Feasible points)
