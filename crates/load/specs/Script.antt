-- The script of the load: the in device is set twenty times.
use Rattle.std.specs.Prelude.{ℕ, zero, suc, ◌*◌, ℤ, pos, ◌-ℤ◌, List, [], ◌∷◌, ◌++◌, codes}
use Rattle.script.specs.Saying.{Said, set, end, text_of}
use Rattle.load.specs.Draws.{draw}

-- from -1000 to 999
unfoldable pub value : (key number : ℕ) → ℤ
value key number = pos (draw key number 2000) -ℤ pos 1000

-- so many of the lines, those before them being left out; one for each frame of the shortest
abbrev pub settings_from : (key count : ℕ) → (before left : ℕ) → List Said
settings_from key count before zero = []
settings_from key count before (suc left) = set (1000 * count * before) (codes "src") (value key before) ∷ settings_from key count (suc before) left

-- the tick before which the run ends
abbrev pub load_end : (count : ℕ) → ℕ
load_end count = 20000 * count

unfoldable pub load_script : (key count : ℕ) → List Said
load_script key count = settings_from key count 0 20 ++ end (load_end count) ∷ []

unfoldable pub script_text : (key count : ℕ) → List ℕ
script_text key count = text_of (load_script key count)
