-- The two versions by whether deadlines and the overhead stand in the bytes.
use Rattle.std.specs.Prelude.{Bool, true, false}
use Rattle.image.specs.Bytes.{Version, First, Second}

abbrev pub in_version : (has_deadlines : Bool) → Version
in_version true = Second
in_version false = First
