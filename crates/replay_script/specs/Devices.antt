-- What a line makes of the answer of a device.
use Rattle.std.specs.Prelude.{ℕ, ℤ, cond, ◌&&◌, nat_eq, nat_le}
use Rattle.script.specs.declared.script.ScriptLine.{ScriptLine}
use Rattle.script.specs.declared.script.ScriptLine.TheVariants as line_is

-- what a device answers at a tick after a line, where it was this before it
abbrev pub value_after : ℕ → ℕ → ℤ → ScriptLine → ℤ
value_after t d v (line_is.Set u e w) = cond (nat_eq e d && nat_le u t) w v
value_after t d v (line_is.Occur u e) = v
