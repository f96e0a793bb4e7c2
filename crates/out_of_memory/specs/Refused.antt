use Rattle.std.specs.Prelude.{alloc_error}
use Rattle.out_of_memory.specs.declared.OutOfMemory.{OutOfMemory}

-- That memory was refused; there is no other value of the type.
abbrev pub refused : OutOfMemory
refused = record { error = alloc_error }
