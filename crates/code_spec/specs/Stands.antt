-- Where the frames of a process stand for its calls in progress.
use Rattle.std.specs.Prelude.{◌≡◌, ℕ, suc, ◌+◌, ◌≤◌, Bool, true, false, List, [], ◌∷◌, ◌++◌, Option, Some, None, ℤ, pos, ◌+ℤ◌}
use Rattle.syntax_tree.specs.Plain.{Name, Stmts, Answers, Program}
use Rattle.source_semantics.specs.Names.{routine_count}
use Rattle.source_semantics.specs.Run.{Target, Item, do_all, turns_left, receive, store, enter_again, leave_with, give, Call}
use Rattle.machine_isa.specs.declared.instr.Instr.{Instr}
use Rattle.machine_isa.specs.declared.instr.Instr.TheVariants as i
use Rattle.machine_semantics.specs.State.{Operand, Value, Counter, Caller}
use Rattle.code_spec.specs.Layout.{home_of, Scope, spot_of, loops}
use Rattle.code_spec.specs.Code.{range_code, range_of_spot, store_spot, store_element}
use Rattle.code_spec.specs.Emits.{Has, IsLine, At, inner, EmitsAll}
use Rattle.code_spec.specs.Compiled.{EmitsAnswer}
use Rattle.code_spec.specs.Memory.{Setting, AllApart, Room, FitsFrame, MayRun}
use Rattle.code_spec.specs.Proper.{Reaches, ProperExpr, ProperAll, ProperTarget, CountsOn}

-- Where a frame stands: the text with its scope, the values of the loop variables around it, the
-- monitor that the process is inside there, whether the frame ends by giving a value, and its
-- address and operands.
pub record Point : Type 0 where
  pub scope : Scope
  pub fixed : List ℤ
  pub inside : Option ℕ
  pub gives : Bool
  pub place : ℕ
  pub operands : List Operand

abbrev pub point : Scope → List ℤ → Option ℕ → Bool → ℕ → List Operand → Point
point c fixed inside gives p os = record { scope = c; fixed = fixed; inside = inside; gives = gives; place = p; operands = os }

-- the same at another address, with other operands, and inside another monitor
abbrev pub moved_to : Point → ℕ → Point
moved_to a p = point a.scope a.fixed a.inside a.gives p a.operands

abbrev pub holding : Point → ℕ → List Operand → Point
holding a p os = point a.scope a.fixed a.inside a.gives p os

abbrev pub entered : Point → ℕ → Option ℕ → Point
entered a p inside = point a.scope a.fixed inside a.gives p a.operands

-- the code leads from an address to another by jumps alone
pub data Onward (code : List Instr) (to : ℕ) : ℕ → Type 0 where
  there : Onward code to to
  jump : {p : ℕ} (t : ℕ) → At code p (i.Jump (pos t)) → Onward code to t → Onward code to p

-- inside a loop its counter is the top operand between statements
abbrev pub HasCounter : Option ℕ → List Operand → Type 0
HasCounter None os = Unit {0}
HasCounter (Some y) os = (n : ℕ) × (rest : List Operand) × (os ≡ Counter n ∷ rest)

-- from the point on the code has these statements, up to address q
pub record Doing (e : Setting) (a : Point) (ss : Stmts) (q : ℕ) : Type 0 where
  pub start : ℕ
  pub word : ℕ
  pub level : ℕ
  pub onward : Onward e.image.code start a.place
  pub emits : EmitsAll e.program e.image.code a.scope word start q ss
  pub room : Room a.scope word (loops ss)
  pub counter : HasCounter a.scope.exit a.operands
  pub low : level ≤ routine_count e.program
  pub proper : ProperAll e a.scope level ss
  pub may_run : MayRun e a.inside a.scope.owner a.scope.is_function

-- how a loop whose variable is at a word counts, and goes back to its start
abbrev pub count_code : ℕ → ℕ → List Instr
count_code w start = i.LoadLocal (pos w) ∷ i.Push (pos 1) ∷ i.Add ∷ i.StoreLocal (pos w) ∷ i.Repeat (pos start) ∷ []

-- the code of the turns of a loop around a scope
pub record Looping (e : Setting) (c : Scope) (inside : Option ℕ) (x : Name) (ss : Stmts) (word start mid end : ℕ) : Type 0 where
  pub level : ℕ
  pub emits : EmitsAll e.program e.image.code (inner c x word end) (suc word) start mid ss
  pub counts : Has e.image.code mid (count_code word start)
  pub end_is : end ≡ mid + 1 + 1 + 1 + 1 + 1
  pub room : Room c word (suc (loops ss))
  pub low : level ≤ routine_count e.program
  pub proper : ProperAll e (inner c x word end) level ss
  pub may_run : MayRun e inside c.owner c.is_function

-- the point is at the end of a turn of a loop, with so many turns left and the next value of its
-- variable
pub record Turning (e : Setting) (a : Point) (x : Name) (v : ℤ) (n : ℕ) (ss : Stmts) : Type 0 where
  pub outer : Scope
  pub fixed : List ℤ
  pub value : ℤ
  pub operands : List Operand
  pub word : ℕ
  pub start : ℕ
  pub mid : ℕ
  pub end : ℕ
  pub scope : a.scope ≡ inner outer x word end
  pub values : a.fixed ≡ value ∷ fixed
  pub counter : a.operands ≡ Counter (suc n) ∷ operands
  pub next : v ≡ value +ℤ pos 1
  pub onward : Onward e.image.code mid a.place
  pub looping : Looping e outer a.inside x ss word start mid end
  pub counts_on : CountsOn value (suc n)

-- an evaluated index lies below the value that is to be stored
abbrev pub index_on : Option ℤ → List Operand → List Operand
index_on None os = os
index_on (Some i) os = Value i ∷ os

-- the check of the range of what is stored to, and the store
abbrev pub target_code : Program → Scope → Name → Option ℤ → List Instr
target_code g c x None = range_code (range_of_spot (spot_of g c x)) ++ store_spot (spot_of g c x)
target_code g c x (Some i) = range_code (range_of_spot (spot_of g c x)) ++ store_element (spot_of g c x)

-- the point is before a store, up to address q, of a value that is still to come
pub record Storing (e : Setting) (a : Point) (t : Target) (q : ℕ) (os : List Operand) : Type 0 where
  pub start : ℕ
  pub onward : Onward e.image.code start a.place
  pub operands : a.operands ≡ index_on t.index os
  pub code : IsLine e.image.code start q (target_code e.program a.scope t.name t.index)
  pub proper : ProperTarget e a.scope t.name t.index
  pub apart : AllApart a.scope.own
  pub may_run : MayRun e a.inside a.scope.owner a.scope.is_function

-- the point is before the end of an entry that answers
pub record Answering (e : Setting) (a : Point) (an : Answers) (m : ℕ) : Type 0 where
  pub start : ℕ
  pub leave : ℕ
  pub level : ℕ
  pub onward : Onward e.image.code start a.place
  pub emits : EmitsAnswer e.program e.image.code a.scope start leave an
  pub leaves : At e.image.code leave (i.Leave (pos m))
  pub back : At e.image.code (leave + 1) i.ReturnValue
  pub operands : a.operands ≡ []
  pub inside : a.inside ≡ Some m
  pub low : level ≤ routine_count e.program
  pub proper : ProperExpr e a.scope level an.value
  pub may_run : MayRun e a.inside a.scope.owner a.scope.is_function

-- the point is before a re-enter of its own monitor
pub record Entering (e : Setting) (a : Point) (m p : ℕ) : Type 0 where
  pub onward : Onward e.image.code p a.place
  pub here : At e.image.code p (i.Reenter (pos m))
  pub outside : a.inside ≡ None
  pub reaches : Reaches e m

-- the point is before the end of an entry procedure
pub record Leaving (e : Setting) (a : Point) (m p : ℕ) : Type 0 where
  pub operands : a.operands ≡ []
  pub onward : Onward e.image.code p a.place
  pub here : At e.image.code p (i.Leave (pos m))
  pub inside : a.inside ≡ Some m

-- the point is before the return of an answer
pub record Giving (e : Setting) (a : Point) (v : ℤ) (q : ℕ) : Type 0 where
  pub onward : Onward e.image.code q a.place
  pub here : At e.image.code q i.ReturnValue
  pub outside : a.inside ≡ None
  pub operands : a.operands ≡ Value v ∷ []

-- the call ends by giving a value
pub record Gives (a : Point) (is : List Item) (z : Point) : Type 0 where
  pub last : is ≡ []
  pub gives : z.gives ≡ true
  pub scope : a.scope ≡ z.scope

-- items that may follow others: none is in the middle of something
abbrev pub Calm : List Item → Type 0
Calm [] = Unit {0}
Calm (do_all ss ∷ is) = Unit {0}
Calm (turns_left x v n ss ∷ is) = Unit {0}
Calm (leave_with a m ∷ is) = Unit {0}
Calm (receive t ∷ is) = ⊥
Calm (store t v ∷ is) = ⊥
Calm (enter_again m ∷ is) = ⊥
Calm (give v ∷ is) = ⊥

-- From point a on the code has the items, one after another, up to point z.
abbrev pub Stands : Setting → Point → List Item → Point → Type 0
Stands e a [] z = (q : ℕ) × Onward e.image.code q a.place × (moved_to a q ≡ z)
Stands e a (do_all ss ∷ is) z = (q : ℕ) × Doing e a ss q × Calm is × Stands e (moved_to a q) is z
Stands e a (turns_left x v n ss ∷ is) z = (t : Turning e a x v n ss) × Calm is × Stands e (point t.outer t.fixed a.inside a.gives t.end t.operands) is z
Stands e a (receive t ∷ is) z = (q : ℕ) × (os : List Operand) × Storing e a t q os × Calm is × Stands e (holding a q os) is z
Stands e a (store t v ∷ is) z =
    (under : List Operand) × (a.operands ≡ Value v ∷ under) × (q : ℕ) × (os : List Operand) × Storing e (holding a a.place under) t q os × Calm is × Stands e (holding a q os) is z
Stands e a (enter_again m ∷ is) z = (p : ℕ) × Entering e a m p × Calm is × Stands e (entered a (p + 1) (Some m)) is z
Stands e a (leave_with None m ∷ is) z = (p : ℕ) × Leaving e a m p × Calm is × Stands e (entered a (p + 1) None) is z
Stands e a (leave_with (Some an) m ∷ is) z = Answering e a an m × Gives a is z
Stands e a (give v ∷ is) z = (q : ℕ) × Giving e a v q × Gives a is z

-- The frame is that of a call: its words hold the call's variables, and from it on the code has the
-- call's items, up to a point.
pub record Frame (e : Setting) (inside : Option ℕ) (f : Caller) (call : Call) (z : Point) : Type 0 where
  pub scope : Scope
  pub fixed : List ℤ
  pub home : home_of scope.owner ≡ call.home
  pub acts : scope.is_function ≡ false
  pub fits : FitsFrame scope fixed f.locals call.own
  pub stands : Stands e (point scope fixed inside false f.back f.operands) call.rest z

-- where a call ends: by a return, or by giving a value
abbrev pub IsEnd : Setting → Point → Type 0
IsEnd e z = (z.operands ≡ []) × (z.gives ≡ false → (z.inside ≡ None) × At e.image.code z.place i.Return)

-- the innermost of calls inside a call, and of that call
abbrev pub innermost : List Call → Call → Call
innermost [] bottom = bottom
innermost (call ∷ calls) bottom = call

-- a value is waited for
abbrev pub Receives : List Item → Type 0
Receives [] = ⊥
Receives (receive t ∷ is) = Unit {0}
Receives (_ ∷ is) = ⊥

-- the frame is that of a call, which ends before what its caller goes on with
pub record Inner (e : Setting) (inside : Option ℕ) (f : Caller) (call : Call) (caller : Call) : Type 0 where
  pub end : Point
  pub frame : Frame e inside f call end
  pub ends : IsEnd e end
  pub gives_to : end.gives ≡ true → Receives caller.rest
  pub gives_none : end.gives ≡ false → Receives caller.rest → ⊥

-- Frames, innermost first, stand for calls inside a call, and for that call, up to a point.
abbrev pub StandsAll : Setting → Option ℕ → List Call → (bottom : Call) → List Caller → Point → Type 0
StandsAll e inside [] bottom [] z = ⊥
StandsAll e inside [] bottom (f ∷ []) z = Frame e inside f bottom z
StandsAll e inside [] bottom (f ∷ g ∷ fs) z = ⊥
StandsAll e inside (call ∷ calls) bottom [] z = ⊥
StandsAll e inside (call ∷ calls) bottom (f ∷ fs) z = Inner e inside f call (innermost calls bottom) × StandsAll e None calls bottom fs z
