-- Code that is of its tree. A list of segments covers the code from one place to the next, leads
-- from one height to another, and comes at most to a cost.
use Rattle.std.specs.Prelude.{◌≡◌, ◌≤◌, ◌+◌, ◌*◌, ◌⊎◌, ℕ, zero, suc, pos, Option, Some, None, slice_get}
use Rattle.machine_isa.specs.declared.instr.Instr.{Instr}
use Rattle.machine_isa.specs.declared.instr.Instr.TheVariants as i
use Rattle.machine_semantics.specs.Trees.{Seg, Segs, Line, Fork, Rep, Call, Stay, Wait, Exit, Nil, Cons}
use Rattle.machine_semantics.specs.Image.{Image, Monitor, Routine}
use Rattle.machine_isa.specs.Ticks.{ticks}
use Rattle.machine_isa.specs.Operands.{takes, gives}
use Rattle.machine_semantics.specs.Part.{Part, IsPlain}

-- ticks of execution, ticks of suspension, waits; and ticks of execution until the monitor is left
-- that the process is inside
pub record WalkCost : Type 0 where
  pub run : ℕ
  pub susp : ℕ
  pub waits : ℕ
  pub leave : ℕ

-- the cost is at least this
pub record Covers (c : WalkCost) (r s w l : ℕ) : Type 0 where
  pub run : r ≤ c.run
  pub susp : s ≤ c.susp
  pub waits : w ≤ c.waits
  pub leave : l ≤ c.leave

-- where code stands: an image, what each of its routines is as a part and costs at most with its
-- return, and the part that the code is of
pub record Where : Type 0 where
  pub image : Image
  pub parts : ℕ → Part
  pub costs : ℕ → WalkCost
  pub part : Part

-- the same place in another part
abbrev pub within : Where → Part → Where
within e part = record e { part = part }

-- the instruction stands at the address
abbrev pub At : Where → ℕ → Instr → Type 0
At e at instr = slice_get e.image.code at ≡ Some instr

-- the monitor is there, and the part may enter it
pub record Reaches (e : Where) (m : ℕ) : Type 0 where
  pub monitor : Monitor
  pub there : slice_get e.image.monitors m ≡ Some monitor
  pub low : monitor.ceiling ≤ e.part.limit

-- what enters no monitor may be called from everywhere; an entry, and what may call one, only from
-- a part that runs outside all monitors
abbrev pub MayCall : ℕ → ℕ → Type 0
MayCall caller callee = (callee ≡ 0) ⊎ (caller ≡ 2)

-- so many plain instructions, each of which finds its operands and stays within the depth
abbrev pub IsLine : Where → ℕ → ℕ → (at next h k : ℕ) → WalkCost → Type 0
IsLine e base zero at next h k c = (next ≡ at) × (k ≡ h)
IsLine e base (suc n) at next h k c = record {
  instr : Instr;
  here : At e at instr;
  plain : IsPlain e.image e.part instr;
  kept : ℕ;
  taken : h ≡ takes instr + kept;
  room : gives instr + kept + base ≤ e.part.depth;
  later : WalkCost;
  more : IsLine e base n (at + 1) next (gives instr + kept) k later;
  covers : Covers c (ticks instr + later.run) later.susp later.waits (ticks instr + later.leave);
}

-- The code from place at to place next is of the tree, and leads from height h to height k. Heights
-- count the values above the innermost loop's counter, so a loop's body leads from 0 to 0; base is
-- the number of operands below them, that counter included. out is where an EXIT goes, held the
-- monitor that the process is inside by this part. Costs are upper bounds, so a Fork needs no
-- maximum.
abbrev mutual
  pub Walk : Where → (out : Option ℕ) (held : Option ℕ) (base : ℕ) → Seg → (at next h k : ℕ) → WalkCost → Type 0
  Walk e out held base (Line zero) at next h k c = ⊥
  Walk e out held base (Line (suc n)) at next h k c = (held ≡ e.part.monitor) × IsLine e base (suc n) at next h k c
  Walk e out held base (Fork first second) at next h k c = record {
    jump : ℕ;
    below : ℕ;
    tests : At e at (i.JumpZero (pos (jump + 1)));
    taken : h ≡ suc below;
    first_cost : WalkCost;
    first_arm : Walks e out held base first (at + 1) jump below k first_cost;
    jumps : At e jump (i.Jump (pos next));
    second_cost : WalkCost;
    second_arm : Walks e out held base second (jump + 1) next below k second_cost;
    covers_first : Covers c (first_cost.run + 3) first_cost.susp first_cost.waits (first_cost.leave + 3);
    covers_second : Covers c (second_cost.run + 2) second_cost.susp second_cost.waits (second_cost.leave + 2);
  }
  Walk e out held base (Rep zero body) at next h k c = ⊥
  Walk e out held base (Rep (suc n) body) at next h k c = record {
    counts : At e at (i.Repeats (pos (suc n)));
    last : ℕ;
    turn : WalkCost;
    loop : Walks e (Some (last + 1)) held (suc (h + base)) body (at + 1) last 0 0 turn;
    repeats : At e last (i.Repeat (pos (at + 1)));
    next_is : next ≡ last + 1;
    kept : k ≡ h;
    room : suc (h + base) ≤ e.part.depth;
    covers : Covers c (2 + suc n * (turn.run + 3)) (suc n * turn.susp) (suc n * turn.waits) (2 + suc n * (turn.leave + 3));
  }
  Walk e out held base (Call r) at next h k c = record {
    here : At e at (i.Call (pos r));
    routine : Routine;
    there : slice_get e.image.routines r ≡ Some routine;
    below : ℕ;
    taken : h ≡ routine.params + below;
    given : k ≡ (e.parts r).results + below;
    locals : (e.parts r).locals ≡ routine.locals;
    params : routine.params ≤ routine.locals;
    inside : (e.part.monitor ≡ None) ⊎ (held ≡ e.part.monitor);
    may : MayCall e.part.level (e.parts r).level;
    owned : (e.parts r).owned ≤ e.part.owned;
    limit : (e.parts r).limit ≤ e.part.limit;
    stays : (m : ℕ) → (e.parts r).stays m ≤ e.part.stays m;
    room : below + base + 2 + routine.locals + (e.parts r).depth ≤ e.part.depth;
    room_after : k + base ≤ e.part.depth;
    next_is : next ≡ at + 1;
    covers : Covers c (6 + (e.costs r).run) (e.costs r).susp (e.costs r).waits (6 + (e.costs r).leave);
  }
  Walk e out held base (Stay m body) at next h k c = record {
    no_loop : out ≡ None;
    outside : held ≡ None;
    entry : e.part.monitor ≡ Some m;
    level : e.part.level ≡ 1;
    reach : Reaches e m;
    enters : At e at (i.Enter (pos m));
    last : ℕ;
    inner : WalkCost;
    stays : Walks e out (Some m) base body (at + 1) last h k inner;
    leaves : At e last (i.Leave (pos m));
    short : inner.leave + 3 ≤ e.part.stays m;
    next_is : next ≡ last + 1;
    covers : Covers c (8 + inner.run) inner.susp inner.waits (8 + inner.leave);
  }
  Walk e out held base Wait at next h k c = record {
    monitor : ℕ;
    entry : e.part.monitor ≡ Some monitor;
    inside : held ≡ Some monitor;
    reach : Reaches e monitor;
    condition : ℕ;
    limit : ℕ;
    number : ℕ;
    waits : At e at (i.Wait (pos condition) (pos limit) (pos number));
    of : slice_get e.image.conditions condition ≡ Some monitor;
    enters : At e (at + 1) (i.Reenter (pos monitor));
    next_is : next ≡ at + 2;
    kept : k ≡ h;
    covers : Covers c 10 limit 1 10;
  }
  Walk e out held base Exit at next h k c = record {
    to : ℕ;
    in_loop : out ≡ Some to;
    exits : At e at (i.Exit (pos to));
    taken : h ≡ 1;
    kept : k ≡ 0;
    next_is : next ≡ at + 1;
    covers : Covers c 3 0 0 3;
  }

  pub Walks : Where → (out : Option ℕ) (held : Option ℕ) (base : ℕ) → Segs → (at next h k : ℕ) → WalkCost → Type 0
  Walks e out held base Nil at next h k c = (next ≡ at) × (k ≡ h)
  Walks e out held base (Cons head rest) at next h k c = record {
    mid : ℕ;
    between : ℕ;
    first : WalkCost;
    later : WalkCost;
    here : Walk e out held base head at mid h between first;
    more : Walks e out held base rest mid next between k later;
    covers : Covers c (first.run + later.run) (first.susp + later.susp) (first.waits + later.waits) (first.leave + later.leave);
  }
