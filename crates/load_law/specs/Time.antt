-- The program of the load is timely: within the shortest frame that there may be, 1,000 ticks for
-- each process, all of them respond.
use Rattle.std.specs.Prelude.{◌≡◌, ◌≤◌, ◌*◌, ℕ, Some, slice_get}
use Rattle.syntax_tree.specs.Placed.{plain}
use Rattle.machine_semantics.specs.Image.{Image, Process}
use Rattle.built_image.specs.Built.{IsShaped, Responds}
use Rattle.load_law.specs.Light.{IsLight}
use Rattle.load.specs.Program.{load_program}

-- each process asks for at most 900 of 1,000 ticks, and no entry stays for more than 100
abbrev pub IsLightLoad : Type 0
IsLightLoad =
    (key count : ℕ) → 1 ≤ count → count ≤ 64 → (m : Image) → IsShaped (plain (load_program key count)) 0 m
    → IsLight count 1000 100 m

abbrev pub KeepsTime : Type 0
KeepsTime =
    (key count : ℕ) → 1 ≤ count → count ≤ 64 → (m : Image) → IsShaped (plain (load_program key count)) 0 m
    → (k : ℕ) (p : Process) → slice_get m.processes k ≡ Some p → Responds m p (1000 * count)
