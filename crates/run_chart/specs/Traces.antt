-- What is kept of a process while its run is drawn.
use Rattle.std.specs.Prelude.{◌≡◌, ℕ, List, [], ◌∷◌, length, map, max, Option, Some, None, slice_get, if◌then◌else◌}
use Rattle.base.specs.declared.event.Event.{Event}
use Rattle.machine_semantics.specs.Image.{Image, Script}
use Rattle.run_chart.specs.declared.columns.Columns.{Columns}
use Rattle.run_chart.specs.declared.trace.Trace.{Trace}
use Rattle.run_chart.specs.Letters.{drawn}
use Rattle.run_chart.specs.Responses.{longest, releases, responses}
use Rattle.run_chart.specs.Chart.{letters, responses_in}

-- the tick of the last release of process k after these events, where it was `released` before
abbrev pub released_by : (k released : ℕ) → List Event → ℕ
released_by k released [] = released
released_by k released (e ∷ es) = if releases k e then released_by k e.tick es else released_by k released es

-- the longest, with one response more
abbrev pub with_longest : Option ℕ → ℕ → Option ℕ
with_longest None response = Some response
with_longest (Some longest) response = Some (max longest response)

-- the activations of process k after these events, of which those are counted that end from the
-- first tick on
pub record Counts (k first : ℕ) (es : List Event) (trace : Trace) : Type 0 where
  pub released : trace.released ≡ released_by k 0 es
  pub ended : trace.ended ≡ length (responses k first 0 es)
  pub longest : trace.longest ≡ longest (responses k first 0 es)

-- all of process k is drawn
pub record IsDrawn (image : Image) (script : Script) (columns : Columns) (k : ℕ) (trace : Trace) : Type 0 where
  pub row : trace.row ≡ map drawn (letters image script columns k)
  pub ended : trace.ended ≡ length (responses_in image script columns k)
  pub longest : trace.longest ≡ longest (responses_in image script columns k)

-- all of each process is
pub record AreDrawn (image : Image) (script : Script) (columns : Columns) (traces : List Trace) : Type 0 where
  pub count : length traces ≡ length image.processes
  pub each : (k : ℕ) (trace : Trace) → slice_get traces k ≡ Some trace → IsDrawn image script columns k trace
