-- Ceilings as they stand in an image.
use Rattle.std.specs.Prelude.{ℕ, Option, Some, None, if◌then◌else◌, nat_eq}

-- 65535 is the ceiling of a monitor that nobody reaches
abbrev pub ceiling_told : ℕ → Option ℕ
ceiling_told number = if nat_eq number 65535 then None else Some number
