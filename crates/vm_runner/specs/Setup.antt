-- What a machine has before the first tick.
use Rattle.std.specs.Prelude.{◌≡◌}
use Rattle.machine_semantics.specs.Image.{Image, Script}
use Rattle.machine_semantics.specs.Run.{at_start}
use Rattle.vm_stretch.specs.StartLawsDue.{HasDue}
use Rattle.vm_releases.specs.Order.{IsOrderOf}
use Rattle.vm_state.specs.Board.{IsBoardOf, state_of}
use Rattle.vm_runner.specs.declared.setup.Setup.{Setup}

-- the board is that at the start of the image, no line of the script is done, and it knows what is
-- due
pub record IsSetUp (image : Image) (script : Script) (s : Setup) : Type 0 where
  pub state : state_of s.board ≡ at_start image
  pub board : IsBoardOf image s.board
  pub due : HasDue image script 0 s.agenda.done (state_of s.board) s.agenda.slots
  pub done : s.agenda.done ≡ 0
  pub order : IsOrderOf image s.agenda.order
