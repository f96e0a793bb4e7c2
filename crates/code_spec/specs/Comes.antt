-- What code comes to, as the source's answers and runs.
use Rattle.std.specs.Prelude.{◌≡◌, ℕ, ◌+◌, ◌⊎◌, true, false, List, [], ◌∷◌, ◌++◌, Option, Some, None, ℤ, pos, length, slice_get}
use Rattle.base.specs.Words.{Answer, word, raised}
use Rattle.source_semantics.specs.Store.{Vars}
use Rattle.source_semantics.specs.Run.{Memory, Call, Item, Run, goes, exits, fails, answers, stops, Action, gets, puts, enters, leaves, waits, signals, broadcasts, asks_empty, raises, ends}
use Rattle.source_semantics.specs.Next.{Next}
use Rattle.machine_isa.specs.declared.instr.Instr.{Instr}
use Rattle.machine_isa.specs.declared.instr.Instr.TheVariants as i
use Rattle.machine_semantics.specs.State.{Operand, Value, Counter, Caller, State, own_locals}
use Rattle.machine_semantics.specs.Effect.{Own, Raises, effect}
use Rattle.code_spec.specs.Layout.{home_of, Scope}
use Rattle.code_spec.specs.Emits.{At}
use Rattle.code_spec.specs.Steps.{Words, stand, SameInside, left_by, next_own}
use Rattle.code_spec.specs.Memory.{Setting, Before, FitsOthers, Same, Fits}
use Rattle.code_spec.specs.Proper.{Reaches}
use Rattle.code_spec.specs.Stands.{Point, innermost, Receives, StandsAll}

-- ---- raises

-- the process is at an instruction that raises the number, and its words hold these variables
pub record Raising (e : Setting) (o : Own) (number : ℕ) (process monitor : Vars) (b : Own) : Type 0 where
  pub instr : Instr
  pub here : At e.image.code b.job.place instr
  pub raises : (s : State) (us : List ℤ) → SameInside e.image b.job.inside b.shared us → effect e.image s instr (next_own (left_by us b)) ≡ Raises number
  pub inside : b.job.inside ≡ o.job.inside
  pub handling : b.job.handling ≡ o.job.handling
  pub frame : length (own_locals b.job.locals b.job.callers) ≡ e.frame
  pub others : FitsOthers e b.job.inside b.owned b.shared process monitor

-- ---- expressions

-- the process is at address q with the word above the operands below, and its words hold the same
-- memory; or at an instruction that raises
abbrev pub Got : Setting → Own → Scope → List ℤ → Before → Memory → (q : ℕ) → (below : List Operand) → Answer → Own → Type 0
Got e o c fixed before m q below (word v) b = (w : Words) × Fits e o c fixed before w m × (b ≡ stand o w q (Value v ∷ below))
Got e o c fixed before m q below (raised n) b = Raising e o n m.process m.monitor b

-- ---- statements

-- the monitor that a process is inside after an action
abbrev pub inside_after : Action → Option ℕ → Option ℕ
inside_after (enters m) inside = Some m
inside_after (leaves m) inside = None
inside_after (waits c limit number) inside = None
inside_after _ inside = inside

-- the instruction does the action, taking from these operands down to those below, inside a monitor
-- or none
abbrev pub Does : Setting → Action → Instr → List Operand → List Operand → Option ℕ → Type 0
Does e (gets d) j os below inside = (j ≡ i.In (pos d)) × (os ≡ below)
Does e (puts d v) j os below inside = (j ≡ i.Out (pos d)) × (os ≡ Value v ∷ below)
Does e (enters m) j os below inside = ((j ≡ i.Enter (pos m)) ⊎ (j ≡ i.Reenter (pos m))) × (os ≡ below) × (inside ≡ None) × Reaches e m
Does e (leaves m) j os below inside = (j ≡ i.Leave (pos m)) × (os ≡ below) × (inside ≡ Some m)
Does e (waits c limit number) j os below inside =
    (m : ℕ) × (j ≡ i.Wait (pos c) (pos limit) (pos number)) × (os ≡ below) × (inside ≡ Some m) × (slice_get e.image.conditions c ≡ Some m)
Does e (signals c) j os below inside = (j ≡ i.Signal (pos c)) × (os ≡ below)
Does e (broadcasts c) j os below inside = (j ≡ i.Broadcast (pos c)) × (os ≡ below)
Does e (asks_empty c) j os below inside = (j ≡ i.Empty (pos c)) × (os ≡ below)
Does e (raises n) j os below inside = ⊥
Does e ends j os below inside = ⊥

-- an action that answers has its answer waited for, and no other has
abbrev pub IsAwaited : Action → List Item → Type 0
IsAwaited (gets d) is = Receives is
IsAwaited (asks_empty c) is = Receives is
IsAwaited _ is = Receives is → ⊥

-- the frame after an instruction, before it is given an answer
abbrev pub frame_after : Own → List Operand → Caller
frame_after b below = record { back = b.job.place + 1; locals = b.job.locals; operands = below }

-- what remains of a call, whose own variables these are
abbrev pub bottom_of : Point → Memory → List Item → Call
bottom_of z m rest = record { home = home_of z.scope.owner; own = m.own; rest = rest }

-- The process is at the instruction of an action, above the frames of o; after it these frames
-- stand for calls inside a call and for what remains of that call.
pub record Acting (e : Setting) (o : Own) (z : Point) (a : Action) (calls : List Call) (rest : List Item) (m : Memory) (b : Own) : Type 0 where
  pub frames : List Caller
  pub below : List Operand
  pub instr : Instr
  pub here : At e.image.code b.job.place instr
  pub does : Does e a instr b.job.operands below b.job.inside
  pub awaited : IsAwaited a (innermost calls (bottom_of z m rest)).rest
  pub callers : b.job.callers ≡ frames ++ o.job.callers
  pub inside : b.job.inside ≡ o.job.inside
  pub handling : b.job.handling ≡ o.job.handling
  pub frame : length (own_locals b.job.locals b.job.callers) ≡ e.frame
  pub others : FitsOthers e b.job.inside b.owned b.shared m.process m.monitor
  pub stands : StandsAll e (inside_after a b.job.inside) calls (bottom_of z m rest) (frame_after b below ∷ frames) z

-- an exit: the counter is dropped that is on top of these operands
abbrev pub Left : Setting → Own → Point → List ℤ → Before → Memory → Option ℕ → Own → Type 0
Left e o z fixed before m None b = ⊥
Left e o z fixed before m (Some y) b =
    (n : ℕ) × (rest : List Operand) × (z.operands ≡ Counter n ∷ rest) × (w : Words) × Fits e o z.scope fixed before w m × (b ≡ stand o w y rest)

-- What the code comes to that leads to point z, as the run of what it stands for.
abbrev pub Reached : Setting → Own → Point → Before → Run → Own → Type 0
Reached e o z before (goes m) b =
    (w : Words) × Fits e o z.scope z.fixed before w m × (z.inside ≡ o.job.inside) × (z.gives ≡ false) × (b ≡ stand o w z.place z.operands)
Reached e o z before (exits m) b = Left e o z z.fixed before m z.scope.exit b
Reached e o z before (fails n m) b = Same z.scope before m × Raising e o n m.process m.monitor b
Reached e o z before (answers v m) b =
    (z.gives ≡ true) × (o.job.inside ≡ None) × (w : Words) × FitsOthers e o.job.inside w.owned w.shared m.process m.monitor
    × (q : ℕ) × At e.image.code q i.ReturnValue × (b ≡ stand o w q (Value v ∷ []))
Reached e o z before (stops a calls rest m) b = (z.scope.is_function ≡ false) × Acting e o z a calls rest m b

-- ---- the next action of a process

-- where a process's own text ends
pub record IsBottom (e : Setting) (z : Point) : Type 0 where
  pub gives : z.gives ≡ false
  pub outside : z.inside ≡ None
  pub operands : z.operands ≡ []
  pub here : At e.image.code z.place i.End

-- The process is at the instruction of its next action, which is no raise and no end; after it its
-- frames stand for the calls that remain.
pub record NextActs (e : Setting) (o : Own) (a : Action) (n : Next) (b : Own) : Type 0 where
  pub below : List Operand
  pub instr : Instr
  pub here : At e.image.code b.job.place instr
  pub does : Does e a instr b.job.operands below b.job.inside
  pub inside : b.job.inside ≡ o.job.inside
  pub handling : b.job.handling ≡ o.job.handling
  pub frame : length (own_locals b.job.locals b.job.callers) ≡ e.frame
  pub others : FitsOthers e b.job.inside b.owned b.shared n.process n.monitor
  pub calls : List Call
  pub bottom : Call
  pub split : n.calls ≡ calls ++ bottom ∷ []
  pub awaited : IsAwaited a (innermost calls bottom).rest
  pub end : Point
  pub ends : IsBottom e end
  pub stands : StandsAll e (inside_after a b.job.inside) calls bottom (frame_after b below ∷ b.job.callers) end

-- the process is at the END of its part, and its words hold its variables
pub record Ending (e : Setting) (o : Own) (n : Next) (b : Own) : Type 0 where
  pub here : At e.image.code b.job.place i.End
  pub inside : b.job.inside ≡ None
  pub outside : o.job.inside ≡ None
  pub others : FitsOthers e b.job.inside b.owned b.shared n.process n.monitor

-- What the code of a process comes to, as its next action: of which the action is given once more.
abbrev pub NextComes : Setting → Own → Next → Action → Own → Type 0
NextComes e o n (raises number) b = Raising e o number n.process n.monitor b
NextComes e o n ends b = Ending e o n b
NextComes e o n a b = NextActs e o a n b
