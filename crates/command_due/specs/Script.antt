-- What a script is to the machine, and the line of its fault.
use Rattle.std.specs.Prelude.{◌++◌, ℕ, List, [], codes, decimal, nat_eq, if◌then◌else◌}
use Rattle.machine_semantics.specs.Image.{Script}
use Rattle.code_lifting.specs.Compiled.{script_of}
use Rattle.script.specs.declared.script.ScriptLine.{ScriptLine}
use Rattle.script.specs.Meaning.{said}
use Rattle.script.specs.declared.fault.ScriptFault.{ScriptFault}
use Rattle.script.specs.declared.fault.ScriptFault.TheVariants.{Bad, Memory}

-- the lines and the end, as the machine has them
abbrev pub run_of : List ScriptLine → ℕ → Script
run_of lines end = script_of (said lines end)

-- the two ticks of a fault that has some
abbrev pub ticks_line : (number a b : ℕ) → List ℕ
ticks_line number a b = if nat_eq number 4 then codes " " ++ (decimal a ++ (codes " " ++ decimal b)) else []

-- the line of a fault; want of memory has none
abbrev pub script_fault_line : ScriptFault → List ℕ
script_fault_line (Bad number line a b) = codes "S" ++ (decimal number ++ (codes " " ++ (decimal line ++ (ticks_line number a b ++ codes "\n"))))
script_fault_line (Memory _) = []
