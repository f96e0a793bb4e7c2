-- What is proved of turns.
use Rattle.std.specs.Prelude.{◌≡◌, ℕ, Some}
use Rattle.machine_semantics.specs.Image.{Image, Script}
use Rattle.machine_semantics.specs.Tick.{pick}
use Rattle.vm_stretch.specs.Stretch.{place_of}
use Rattle.vm_stretch.specs.StretchLaws.{IsTurnOfRun}
use Rattle.vm_stretch.specs.RowLaws.{IsSafeRun, begun}
use Rattle.vm_turn.specs.Settled.{CanPass}

-- The law: in a run that is never stuck and stays within its stacks, the process that is picked can
-- take the ticks of a turn of the run.
abbrev pub TurnCanPass : Type 0
TurnCanPass = (image : Image) (script : Script) (t n k : ℕ) → IsSafeRun image script → IsTurnOfRun image script t n → place_of (pick image (begun image script t).threads) ≡ Some k → CanPass image n k (begun image script t)
