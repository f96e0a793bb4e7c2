-- The columns of a chart, and what a column shows of a process.
use Rattle.std.specs.Prelude.{◌+◌, ◌-◌, ◌*◌, ℕ, List, [], ◌∷◌, map, min, nat_le, if◌then◌else◌}
use Rattle.std.specs.Int.{div_ceil}
use Rattle.std.specs.List.{range_with_len}
use Rattle.machine_semantics.specs.Image.{Image, Script}
use Rattle.run_chart.specs.declared.columns.Columns.{Columns}
use Rattle.run_chart.specs.declared.letter.Letter.{Letter}
use Rattle.run_chart.specs.Letters.{letter_at, first_of}

-- the widths that columns can have
abbrev pub widths : List ℕ
widths =
    1 ∷ 2 ∷ 5 ∷ 10 ∷ 20 ∷ 50 ∷ 100 ∷ 200 ∷ 500 ∷ 1000 ∷ 2000 ∷ 5000 ∷ 10000 ∷ 20000 ∷ 50000 ∷ 100000 ∷ 200000 ∷ 500000 ∷ 1000000 ∷ 2000000 ∷ 5000000 ∷ []

-- the first of them of which 100 columns hold so many ticks, else 10,000,000
abbrev pub first_width : List ℕ → (ticks : ℕ) → ℕ
first_width [] ticks = 10000000
first_width (width ∷ wider) ticks = if nat_le ticks (100 * width) then width else first_width wider ticks

-- as many columns as hold the ticks from the first up to before the end
abbrev pub columns_of_width : (first end width : ℕ) → Columns
columns_of_width first end width = record { first = first; end = end; width = width; count = div_ceil (end - first) width }

abbrev pub columns_of : (first end : ℕ) → Columns
columns_of first end = columns_of_width first end (first_width widths (end - first))

-- the first tick of column c, counted from 0
abbrev pub first_tick : Columns → (c : ℕ) → ℕ
first_tick columns c = columns.first + c * columns.width

-- the ticks of column c
abbrev pub ticks_of : Columns → (c : ℕ) → List ℕ
ticks_of columns c = range_with_len (first_tick columns c) (min columns.width (columns.end - first_tick columns c))

-- what column c shows of process k: the first of the letters that it has in some tick of it
abbrev pub shown : Image → Script → Columns → (k c : ℕ) → Letter
shown image script columns k c = first_of (map (letter_at image script k) (ticks_of columns c))
