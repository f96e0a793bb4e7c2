-- What the code of a part comes to whatever its owner is: an entry is known by its tree, which is
-- one Stay.
use Rattle.std.specs.Prelude.{◌-◌, ℕ, Bool, List, Option, Some, None}
use Rattle.machine_isa.specs.declared.instr.Instr.{Instr}
use Rattle.machine_semantics.specs.Trees.{Segs, Stay, Nil, Cons}
use Rattle.valid_image.specs.Found.{Known, Found, ended, tree_found}
use Rattle.valid_image.specs.Shape.{is_found}
use Rattle.valid_image.specs.Tables.{count, found_or_nothing}

-- the monitor of a tree that is one Stay
abbrev pub monitor_in : Segs → Option ℕ
monitor_in (Cons (Stay m body) Nil) = Some m
monitor_in _ = None

abbrev pub whole : List Instr → List Known → Segs → (at : ℕ) → Option Found
whole code known tree at = tree_found code known (monitor_in tree) tree at

-- its code is of the tree, and it ends at height 0, or at 1 before RETV
abbrev pub is_fitting : List Instr → List Known → (gives : Bool) → Segs → (at : ℕ) → Bool
is_fitting code known gives tree at = is_found (ended (count gives) (whole code known tree at))

-- how long it stays in the monitor of an entry: ENTER's 5 ticks are not counted in
abbrev pub stay_in : (monitor : Option ℕ) → Option Found → ℕ
stay_in (Some m) x = (found_or_nothing x).cost.run - 5
stay_in None x = 0
