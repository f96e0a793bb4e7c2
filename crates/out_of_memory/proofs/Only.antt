use Rattle.std.specs.Prelude.{◌≡◌, refl}
use Rattle.out_of_memory.specs.Refused.{refused}
use Rattle.out_of_memory.specs.declared.OutOfMemory.{OutOfMemory}

pub only : (error : OutOfMemory) → error ≡ refused
only error = refl
