-- What holds of the letters of all runs.
use Rattle.std.specs.Prelude.{◌≡◌, ◌≤◌, ◌<◌, ◌+◌, ◌-◌, ◌↔◌, ℕ, Bool, true, false, None, min}
use Rattle.machine_semantics.specs.Image.{Image, Script}
use Rattle.machine_semantics.specs.State.{State}
use Rattle.machine_semantics.specs.Tick.{pick}
use Rattle.vm_stretch.specs.Stretch.{place_of}
use Rattle.run_chart.specs.declared.columns.Columns.{Columns}
use Rattle.run_chart.specs.declared.letter.Letter.{Letter}
use Rattle.run_chart.specs.declared.letter.Letter.TheVariants.{Inside, Outside, Overhead}
use Rattle.run_chart.specs.Letters.{letter_at, letter_in}
use Rattle.run_chart.specs.Spans.{first_tick, shown}

-- the letter is one of a process that is picked
abbrev pub runs : Letter → Bool
runs Inside = true
runs Outside = true
runs Overhead = true
runs other = false

-- The law: in a tick at most one process runs.
abbrev pub OneRuns : Type 0
OneRuns = (image : Image) (s : State) (j k : ℕ) → runs (letter_in image s j) ≡ true → runs (letter_in image s k) ≡ true → j ≡ k

-- The law: none runs exactly where nobody is picked.
abbrev pub NoneRunsInIdleTick : Type 0
NoneRunsInIdleTick = (image : Image) (s : State) → (place_of (pick image s.threads) ≡ None) ↔ ((k : ℕ) → runs (letter_in image s k) ≡ false)

-- tick t is one of column c
pub record IsTickOf (columns : Columns) (c t : ℕ) : Type 0 where
  pub from : first_tick columns c ≤ t
  pub to : t < first_tick columns c + min columns.width (columns.end - first_tick columns c)

-- The law: a column shows that a process runs exactly where it does in a tick of the column.
abbrev pub ShowsWhatRan : Type 0
ShowsWhatRan = (image : Image) (script : Script) (columns : Columns) (k c : ℕ)
    → (runs (shown image script columns k c) ≡ true) ↔ ((t : ℕ) × IsTickOf columns c t × (runs (letter_at image script k t) ≡ true))

-- The law: and that it runs inside a monitor exactly where it does there.
abbrev pub ShowsWhatRanInside : Type 0
ShowsWhatRanInside = (image : Image) (script : Script) (columns : Columns) (k c : ℕ)
    → (shown image script columns k c ≡ Inside) ↔ ((t : ℕ) × IsTickOf columns c t × (letter_at image script k t ≡ Inside))
