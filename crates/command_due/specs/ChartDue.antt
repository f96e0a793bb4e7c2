-- What is due of `chart`.
use Rattle.std.specs.Prelude.{◌≡◌, ℕ, List, Option, Some}
use Rattle.image.specs.Raw.{named_of}
use Rattle.image.specs.declared.raw.RawImage.{RawImage}
use Rattle.script.specs.declared.script.ScriptLine.{ScriptLine}
use Rattle.script.specs.declared.fault.ScriptFault.{ScriptFault}
use Rattle.script.specs.Scripts.{IsScript}
use Rattle.run_chart.specs.Chart.{chart_text}
use Rattle.command_due.specs.Script.{run_of}
use Rattle.command_due.specs.CommandsDue.{Outcome, told, IsImageFile, IsImageRefused, IsScriptFault, bad_script}

-- by the image's bytes and, where these are a valid image, the script's text, as for `run`: the
-- chart of the run from tick a up to before tick b
pub data IsChartDue (a b : ℕ) (image script : Option (List ℕ)) (outcome : Outcome) : Type 0 where
  chart_refused : (bytes : List ℕ) → image ≡ Some bytes → IsImageRefused bytes outcome → IsChartDue a b image script outcome
  chart_bad_script : (bytes other : List ℕ) (raw : RawImage) (fault : ScriptFault) → image ≡ Some bytes → IsImageFile bytes raw
      → script ≡ Some other → IsScriptFault (named_of raw) other fault → outcome ≡ bad_script fault → IsChartDue a b image script outcome
  charted : (bytes other : List ℕ) (raw : RawImage) (lines : List ScriptLine) (end : ℕ) → image ≡ Some bytes → IsImageFile bytes raw
      → script ≡ Some other → IsScript raw.names other lines end → outcome ≡ told 0 (chart_text (named_of raw) (run_of lines end) a b) → IsChartDue a b image script outcome
