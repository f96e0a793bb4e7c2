-- What is still to be done in a frame: a list of steps. The first of them tells what the present
-- instruction is, and all of them together which operands stand in the frame.
use Rattle.std.specs.Prelude.{◌≡◌, ◌≤◌, ◌+◌, ◌*◌, ℕ, suc, pos, List, [], ◌∷◌, length, Option, Some, None}
use Rattle.machine_isa.specs.declared.instr.Instr.TheVariants as i
use Rattle.machine_semantics.specs.Trees.{Seg, Segs, Nil, Cons}
use Rattle.machine_semantics.specs.Effect.{Own}
use Rattle.machine_semantics.specs.Tick.{at_next}
use Rattle.machine_semantics.specs.Part.{Kind, Counts, kinds, plains}
use Rattle.machine_semantics.specs.SafeTerms.{IsIn}
use Rattle.machine_semantics.specs.Walk.{Where, WalkCost, Covers, At, Reaches, Walk, Walks}

-- a step that is still to be done in a frame
pub data Step : Type 0 where
  -- a whole segment
  Segment : (seg : Seg) → Step
  -- the jump past a second arm, to a place
  Skip : (to : ℕ) → Step
  -- the end of a loop's turn, with so many turns after it; the place and tree of the loop's body,
  -- and the height below its counter
  Again : (turns start : ℕ) (body : Segs) (height : ℕ) → Step
  -- the LEAVE of a monitor
  Leaves : (monitor : ℕ) → Step

-- the kinds of the operands below the present height: each loop that is under way has its counter,
-- and the values below that
abbrev pub under : List Step → List Kind
under [] = []
under (Segment seg ∷ rest) = under rest
under (Skip to ∷ rest) = under rest
under (Again turns start body height ∷ rest) = Counts (suc turns) ∷ plains height (under rest)
under (Leaves m ∷ rest) = under rest

-- the monitor that the process is inside, as far as this frame tells
abbrev pub held : List Step → Option ℕ
held [] = None
held (Segment seg ∷ rest) = held rest
held (Skip to ∷ rest) = held rest
held (Again turns start body height ∷ rest) = held rest
held (Leaves m ∷ rest) = Some m

-- the steps of the segments, then the rest
abbrev pub then_rest : Segs → List Step → List Step
then_rest Nil rest = rest
then_rest (Cons head more) rest = Segment head ∷ then_rest more rest

-- the code from place at on does these steps, from height h, at most at this cost, and then comes
-- to the end of the part
abbrev pub Follows : Where → (out : Option ℕ) → List Step → (at h : ℕ) → WalkCost → Type 0
Follows e out [] at h c = record {
  no_loop : out ≡ None;
  ends : At e at e.part.last;
  height : h ≡ e.part.results;
  covers : Covers c 4 0 0 4;
}
Follows e out (Segment seg ∷ rest) at h c = record {
  next : ℕ;
  k : ℕ;
  first : WalkCost;
  later : WalkCost;
  walk : Walk e out (held rest) (length (under rest)) seg at next h k first;
  more : Follows e out rest next k later;
  covers : Covers c (first.run + later.run) (first.susp + later.susp) (first.waits + later.waits) (first.leave + later.leave);
}
Follows e out (Skip to ∷ rest) at h c = record {
  jumps : At e at (i.Jump (pos to));
  later : WalkCost;
  more : Follows e out rest to h later;
  covers : Covers c (1 + later.run) later.susp later.waits (1 + later.leave);
}
Follows e out (Again turns start body height ∷ rest) at h c = record {
  empty : h ≡ 0;
  repeats : At e at (i.Repeat (pos start));
  out_is : out ≡ Some (at + 1);
  turn : WalkCost;
  loop : Walks e out (held rest) (suc (length (plains height (under rest)))) body start at 0 0 turn;
  outer : Option ℕ;
  later : WalkCost;
  more : Follows e outer rest (at + 1) height later;
  room : suc (length (plains height (under rest))) ≤ e.part.depth;
  covers : Covers c (3 + turns * (turn.run + 3) + later.run) (turns * turn.susp + later.susp) (turns * turn.waits + later.waits) (3 + turns * (turn.leave + 3) + later.leave);
}
Follows e out (Leaves m ∷ rest) at h c = record {
  no_loop : out ≡ None;
  leaves : At e at (i.Leave (pos m));
  entry : e.part.monitor ≡ Some m;
  outside : held rest ≡ None;
  later : WalkCost;
  more : Follows e out rest (at + 1) h later;
  covers : Covers c (3 + later.run) later.susp later.waits 3;
}

-- the innermost frame has these steps to do, with the operands and words that they need
pub record Frame (e : Where) (path : List Step) (out : Option ℕ) (h : ℕ) (c : WalkCost) (o : Own) : Type 0 where
  pub follows : Follows e out path o.job.place h c
  pub operands : kinds o.job.operands ≡ plains h (under path)
  pub room : length (plains h (under path)) ≤ e.part.depth
  pub words : IsIn e.part o

-- the frame stands at the REENT that follows a wait, outside the monitor of its entry; the steps
-- are those after it
pub record Returning (e : Where) (path : List Step) (out : Option ℕ) (h : ℕ) (c : WalkCost) (o : Own) : Type 0 where
  pub monitor : ℕ
  pub enters : At e o.job.place (i.Reenter (pos monitor))
  pub entry : held path ≡ Some monitor
  pub is_entry : e.part.monitor ≡ Some monitor
  pub reach : Reaches e monitor
  pub later : WalkCost
  pub follows : Follows e out path (o.job.place + 1) h later
  pub operands : kinds o.job.operands ≡ plains h (under path)
  pub room : length (plains h (under path)) ≤ e.part.depth
  pub words : IsIn e.part o
  pub short : later.leave ≤ e.part.stays monitor
  pub covers : Covers c (4 + later.run) later.susp later.waits (4 + later.leave)

-- after an instruction of n ticks within the frame: the frame has other steps, and at least n ticks
-- less to do
pub record Moved (e : Where) (path : List Step) (c : WalkCost) (n : ℕ) (o p : Own) : Type 0 where
  pub new_path : List Step
  pub out : Option ℕ
  pub height : ℕ
  pub cost : WalkCost
  pub frame : Frame e new_path out height cost p
  pub same_held : held new_path ≡ held path
  pub less : Covers c (cost.run + n) cost.susp cost.waits (cost.leave + n)
  pub done : p.job.done ≡ 0
  pub dispatch_ticks : p.job.dispatch_ticks ≡ o.job.dispatch_ticks
  pub callers : p.job.callers ≡ o.job.callers
  pub handling : p.job.handling ≡ o.job.handling
  pub inside : p.job.inside ≡ o.job.inside
  pub owned : length p.owned ≡ length o.owned
  pub shared : length p.shared ≡ length o.shared

-- the process at the next instruction
abbrev pub next_own : Own → Own
next_own o = record o { job = at_next o.job }
