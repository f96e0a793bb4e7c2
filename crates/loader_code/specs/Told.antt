-- A fault as the code tells it.
use Rattle.std.specs.Prelude.{Option, Some, None}
use Rattle.valid_image.specs.Fault.{Fault}
use Rattle.loader_code.specs.declared.bases.FaultNumbers.{FaultNumbers}

abbrev pub told : Option FaultNumbers → Option Fault
told None = None
told (Some s) = Some (record { a = s.a; b = s.b })
