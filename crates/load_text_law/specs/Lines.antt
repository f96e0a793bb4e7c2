-- The lines of the script of the load, and that it is one.
use Rattle.std.specs.Prelude.{◌≡◌, ◌≤◌, ◌*◌, ℕ, zero, suc, List, [], ◌∷◌, Some, codes}
use Rattle.syntax_tree.specs.Placed.{plain}
use Rattle.image.specs.declared.names.ImageNames.{ImageNames}
use Rattle.script.specs.declared.script.ScriptLine.{ScriptLine}
use Rattle.script.specs.declared.script.ScriptLine.TheVariants.{Set}
use Rattle.script.specs.Scripts.{in_device, IsScript}
use Rattle.built_image.specs.Named.{names_of}
use Rattle.load.specs.Program.{load_program}
use Rattle.load.specs.Script.{value, load_end, script_text}

-- so many lines, those before them being left out, where the in device has this number
abbrev pub lines_from : (device key count : ℕ) → (before left : ℕ) → List ScriptLine
lines_from device key count before zero = []
lines_from device key count before (suc left) = Set (1000 * count * before) device (value key before) ∷ lines_from device key count (suc before) left

unfoldable pub load_lines : (device key count : ℕ) → List ScriptLine
load_lines device key count = lines_from device key count 0 20

abbrev pub IsScriptOfLoad : Type 0
IsScriptOfLoad =
    (names : ImageNames) (device key count : ℕ) → in_device names (codes "src") ≡ Some device → 1 ≤ count → count ≤ 64
    → IsScript names (script_text key count) (load_lines device key count) (load_end count)

abbrev pub HasDevice : Type 0
HasDevice = (key count : ℕ) → in_device (names_of (plain (load_program key count))) (codes "src") ≡ Some 0
