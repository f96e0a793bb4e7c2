-- What the code looks for in earlier lines.
use Rattle.std.specs.Prelude.{ℕ, Bool, List}
use Rattle.message_script.specs.declared.earlier.Sought.{Sought}
use Rattle.message_script.specs.declared.earlier.Sought.TheVariants.{Tick, Event}
use Rattle.message_script.specs.Earlier.{has_tick, occurs}

abbrev pub is_such : Sought → (bytes : List ℕ) → Bool
is_such Tick bytes = has_tick bytes
is_such (Event name) bytes = occurs name.now bytes
