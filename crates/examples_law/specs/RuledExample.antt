-- The premises of the law are met, by a program with a monitor, a wait, a signal and a handler.
use Rattle.std.specs.Prelude.{ℕ}
use Rattle.source_semantics_law.specs.Example.{signalled_wait}
use Rattle.machine_safety.specs.SmallImages.{waiter_and_signaller}
use Rattle.code_spec.specs.Compiled.{IsCodeOf}
use Rattle.static_semantics.specs.WellFormed.{IsWellFormed}
use Rattle.codegen_law.specs.Ruled.{NamesApart}

abbrev pub ExampleMeets : Type 0
ExampleMeets = (over : ℕ) → IsWellFormed signalled_wait × NamesApart signalled_wait × IsCodeOf signalled_wait (waiter_and_signaller over 31)
