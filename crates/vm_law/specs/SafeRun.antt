-- What a valid image promises to a machine that passes whole stretches.
use Rattle.std.specs.Prelude.{ℕ}
use Rattle.machine_semantics.specs.Image.{Script}
use Rattle.machine_semantics.specs.Walk.{Where}
use Rattle.machine_semantics.specs.Safe.{Parts, ImageFits}
use Rattle.vm_stretch.specs.RowLaws.{IsSafeRun}

abbrev pub ValidRunsAreSafe : Type 0
ValidRunsAreSafe = (e : Where) (ps : ℕ → Parts) (script : Script) → ImageFits e ps → IsSafeRun e.image script
