-- The law: what the computation answers is the largest cost over all paths, each component by
-- itself.
use Rattle.std.specs.Prelude.{◌≡◌, ◌≤◌, ℕ, Bool, false, List, Option, Some}
use Rattle.machine_isa.specs.declared.instr.Instr.{Instr}
use Rattle.base.specs.declared.capped.Cost.{Cost}
use Rattle.machine_semantics.specs.Trees.{Segs}
use Rattle.valid_image.specs.Found.{Known, Found, tree_found}
use Rattle.valid_image_law.specs.Paths.{Paths, paths}

pub record IsAtMost (c d : Cost) : Type 0 where
  pub run : c.run ≤ d.run
  pub susp : c.susp ≤ d.susp
  pub waits : c.waits ≤ d.waits

-- no path costs more, and for each component some path that goes through costs just that
pub record IsLargest (worst : Cost) (P : Paths) : Type 0 where
  pub no_more : (leaves : Bool) (c : Cost) → P leaves c → IsAtMost c worst
  pub run : (c : Cost) × P false c × (c.run ≡ worst.run)
  pub susp : (c : Cost) × P false c × (c.susp ≡ worst.susp)
  pub waits : (c : Cost) × P false c × (c.waits ≡ worst.waits)

-- of the code of every part: of an entry, where a monitor is named, and of any other
abbrev pub WorstIsLargest : Type 0
WorstIsLargest = (code : List Instr) (known : List Known) (monitor : Option ℕ) (tree : Segs) (at : ℕ) (f : Found)
    → tree_found code known monitor tree at ≡ Some f → IsLargest f.cost (paths code known tree at)
