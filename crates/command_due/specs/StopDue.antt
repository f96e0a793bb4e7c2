-- What is due of `watch`.
use Rattle.std.specs.Prelude.{◌≡◌, ℕ, List, Option, Some}
use Rattle.image.specs.Named.{NamedImage}
use Rattle.image.specs.Raw.{named_of}
use Rattle.image.specs.declared.raw.RawImage.{RawImage}
use Rattle.script.specs.declared.script.ScriptLine.{ScriptLine}
use Rattle.script.specs.declared.fault.ScriptFault.{ScriptFault}
use Rattle.script.specs.Scripts.{IsScript}
use Rattle.command_due.specs.Script.{run_of}
use Rattle.command_due.specs.CommandsDue.{Outcome, told, IsImageFile, IsImageRefused, IsScriptFault, bad_script}
use Rattle.command_words.specs.declared.stop.Breakpoint.{Breakpoint}
use Rattle.command_due.specs.Stops.{IsStop}
use Rattle.command_due.specs.Text.{stop_text}

-- the text tells the state of the run of an image over a script where it stops
abbrev pub IsStopText : NamedImage → List ScriptLine → (end : ℕ) → Breakpoint → List ℕ → Type 0
IsStopText n lines end stop text = (t : ℕ) × IsStop n.image (run_of lines end) stop t × (text ≡ stop_text n (run_of lines end) t)

-- by the image's bytes and, where these are a valid image, the script's text, as for `run`
pub data IsWatchDue (stop : Breakpoint) (image script : Option (List ℕ)) (outcome : Outcome) : Type 0 where
  watch_refused : (bytes : List ℕ) → image ≡ Some bytes → IsImageRefused bytes outcome → IsWatchDue stop image script outcome
  watch_bad_script : (bytes other : List ℕ) (raw : RawImage) (fault : ScriptFault) → image ≡ Some bytes → IsImageFile bytes raw
      → script ≡ Some other → IsScriptFault (named_of raw) other fault → outcome ≡ bad_script fault → IsWatchDue stop image script outcome
  watched : (bytes other : List ℕ) (raw : RawImage) (lines : List ScriptLine) (end : ℕ) (text : List ℕ) → image ≡ Some bytes → IsImageFile bytes raw
      → script ≡ Some other → IsScript raw.names other lines end → IsStopText (named_of raw) lines end stop text
      → outcome ≡ told 0 text → IsWatchDue stop image script outcome
