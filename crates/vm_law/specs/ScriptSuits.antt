-- That scripts that were read suit their image.
use Rattle.std.specs.Prelude.{ℕ, List}
use Rattle.image.specs.declared.names.ImageNames.{ImageNames}
use Rattle.image.specs.declared.raw.RawImage.{RawImage}
use Rattle.image.specs.Raw.{image_of}
use Rattle.image_reader.specs.Answer.{Holds}
use Rattle.machine_semantics.specs.Image.{Image, Script}
use Rattle.script.specs.declared.script.ScriptLine.{ScriptLine}
use Rattle.script.specs.Scripts.{IsScript}
use Rattle.vm_releases.specs.Begin.{lines_of}
use Rattle.vm_law.specs.Suits.{HasFrames, Suits}

-- the script of these lines, which ends before this tick
abbrev pub script_with : List ScriptLine → ℕ → Script
script_with lines last = record { lines = lines_of lines; end_tick = last }

-- The law: the script that a text is, for names that have the frames of an image, suits the image.
abbrev pub ScriptsSuit : Type 0
ScriptsSuit = (names : ImageNames) (image : Image) (text : List ℕ) (lines : List ScriptLine) (last : ℕ) → HasFrames names image → IsScript names text lines last → Suits image (script_with lines last)

-- The law: so does the script that a text is for the names of an image that a file holds.
abbrev pub ScriptsForImagesReadSuit : Type 0
ScriptsForImagesReadSuit = (bytes : List ℕ) (raw : RawImage) (text : List ℕ) (lines : List ScriptLine) (last : ℕ) → Holds bytes raw → IsScript raw.names text lines last → Suits (image_of raw) (script_with lines last)
