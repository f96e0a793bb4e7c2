-- What may stand in a part, and the law of the computation over its tree.
use Rattle.std.specs.Prelude.{◌≡◌, ◌≤◌, ◌<◌, ◌+◌, ℕ, true, pos, List, Option, Some, slice_get}
use Rattle.machine_isa.specs.declared.instr.Instr.{Instr}
use Rattle.machine_isa.specs.declared.instr.Instr.TheVariants as i
use Rattle.machine_semantics.specs.Trees.{Segs, size}
use Rattle.machine_semantics.specs.Image.{Routine}
use Rattle.machine_semantics.specs.Part.{IsPlain}
use Rattle.base.specs.declared.capped.Cost as three
use Rattle.machine_semantics.specs.Walk.{Where, WalkCost, At, Reaches, Walks, MayCall}
use Rattle.valid_image.specs.Found.{Known, Found, founds, in_line}

-- a monitor is left at the end at the latest
abbrev pub with_leave : three.Cost → WalkCost
with_leave c = record { run = c.run; susp = c.susp; waits = c.waits; leave = c.run }

-- what the part may call
pub record Callable (e : Where) (r : ℕ) : Type 0 where
  pub may : MayCall e.part.level (e.parts r).level
  pub owned : (e.parts r).owned ≤ e.part.owned
  pub limit : (e.parts r).limit ≤ e.part.limit
  pub stays : (m : ℕ) → (e.parts r).stays m ≤ e.part.stays m

-- a WAIT of the part is on a condition of its monitor, and its numbers are natural
pub record Waitable (e : Where) (instr : Instr) : Type 0 where
  pub condition : ℕ
  pub limit : ℕ
  pub number : ℕ
  pub monitor : ℕ
  pub is : instr ≡ i.Wait (pos condition) (pos limit) (pos number)
  pub of : slice_get e.image.conditions condition ≡ Some monitor
  pub entry : e.part.monitor ≡ Some monitor
  pub reach : Reaches e monitor

-- what one instruction of the part keeps
abbrev pub MayStand : Where → Instr → Type 0
MayStand e (i.Call r) = (j : ℕ) → r ≡ pos j → Callable e j
MayStand e (i.Wait c limit number) = Waitable e (i.Wait c limit number)
MayStand e instr = in_line instr ≡ true → IsPlain e.image e.part instr

-- the instructions from low up to high
abbrev pub AllMayStand : Where → (low high : ℕ) → Type 0
AllMayStand e low high = (a : ℕ) (instr : Instr) → low ≤ a → a < high → At e a instr → MayStand e instr

-- a row tells of its routine what the parts and costs say
pub record IsKnown (e : Where) (r : ℕ) (k : Known) : Type 0 where
  pub routine : Routine
  pub there : slice_get e.image.routines r ≡ Some routine
  pub params : routine.params ≡ k.params
  pub fits : routine.params ≤ routine.locals
  pub locals : routine.locals ≡ k.locals
  pub same_locals : (e.parts r).locals ≡ k.locals
  pub results : (e.parts r).results ≡ k.results
  pub depth : (e.parts r).depth ≤ k.depth
  pub cost : e.costs r ≡ with_leave k.cost

abbrev pub AllKnown : Where → List Known → Type 0
AllKnown e known = (r : ℕ) (k : Known) → slice_get known r ≡ Some k → IsKnown e r k

-- The law: where the computation answers, the code is of the tree, with that height and that cost.
abbrev pub FoundWalks : Type 0
FoundWalks = (e : Where) (known : List Known) (out held : Option ℕ) (base : ℕ) (segs : Segs) (at h low high : ℕ) (f : Found)
    → AllKnown e known → held ≡ e.part.monitor → AllMayStand e low high → low ≤ at → at + size segs ≤ high
    → founds e.image.code known out held segs at h ≡ Some f → f.depth + base ≤ e.part.depth
    → Walks e out held base segs at (at + size segs) h f.height (with_leave f.cost)
