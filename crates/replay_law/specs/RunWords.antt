-- That what the events of a run tell fits a line.
use Rattle.std.specs.Prelude.{All}
use Rattle.text_fields.specs.Fields.{Is32}
use Rattle.machine_isa.specs.Bytes.{HasWords}
use Rattle.event_log.specs.Logs.{ActFits}
use Rattle.machine_semantics.specs.Image.{Image, Line, Sets, Occurs, Script}
use Rattle.machine_semantics.specs.Run.{events}
use Rattle.valid_image.specs.Valid.{HasLimits, IsValid}

-- a value that a line of a script sets has 32 bits
abbrev pub SetsWord : Line → Type 0
SetsWord (Sets tick device value) = Is32 value
SetsWord (Occurs tick event) = Unit {0}

-- The law: values have 32 bits, and exception numbers and counts 16, in each run of a valid image
-- whose operands have 32 bits, over a script that sets values of 32 bits.
abbrev pub ValidRunsFit : Type 0
ValidRunsFit =
    (image : Image) (script : Script) → HasLimits image → IsValid image → All HasWords image.code → All SetsWord script.lines
    → All (λ event. ActFits event.act) (events image script)
