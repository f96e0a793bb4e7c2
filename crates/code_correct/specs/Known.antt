-- What is known of calls: the code of routines, and what it comes to.
use Rattle.std.specs.Prelude.{◌≡◌, ℕ, ◌<◌, true, false, List, [], ◌∷◌, Some, None, ℤ, slice_get}
use Rattle.syntax_tree.specs.Plain.{Name, Param, Answers, Program}
use Rattle.base.specs.Words.{Answer, word, raised}
use Rattle.source_semantics.specs.Store.{one, Vars, range_of}
use Rattle.source_semantics.specs.Run.{Memory, Calls, Bound, bound, unbound, routine_named}
use Rattle.machine_isa.specs.declared.instr.Instr.TheVariants as i
use Rattle.machine_semantics.specs.Image.{Routine}
use Rattle.machine_semantics.specs.State.{Operand, Value}
use Rattle.machine_semantics.specs.Effect.{Own}
use Rattle.code_spec.specs.Layout.{Scope, count, routine_words}
use Rattle.code_spec.specs.Numbering.{Text, number_of}
use Rattle.code_spec.specs.Emits.{At}
use Rattle.code_spec.specs.Compiled.{routine_scope, EmitsRoutine}
use Rattle.code_spec.specs.Steps.{Words, stand, Runs}
use Rattle.code_spec.specs.Memory.{Setting, Before, before_of, Fits, FitsOthers, Here}
use Rattle.source_semantics.specs.Names.{routine_count}
use Rattle.code_spec.specs.Proper.{found_of, IsMine, Entry, ProperAll, ProperAnswers}
use Rattle.code_spec.specs.Stands.{point}
use Rattle.code_spec.specs.Comes.{Raising, Reached}

-- the code of a routine stands in the image under its number
pub record IsThere (e : Setting) (t : Text) : Type 0 where
  pub row : Routine
  pub found : slice_get e.image.routines (number_of e.program t) ≡ Some row
  pub params : row.params ≡ count t.routine.params
  pub locals : row.locals ≡ routine_words e.program t.routine
  pub next : ℕ
  pub emits : EmitsRoutine e.program e.image.code t row.start next

-- a function is at its return with the word, or at an instruction that raises
abbrev pub Answered : Setting → Own → Memory → Answer → Own → Type 0
Answered e o m (word v) b =
    (w : Words) × FitsOthers e o.job.inside w.owned w.shared m.process m.monitor × (q : ℕ) × At e.image.code q i.ReturnValue × (b ≡ stand o w q (Value v ∷ []))
Answered e o m (raised n) b = Raising e o n m.process m.monitor b

-- the routines of the process and of the program are there
abbrev pub AllThere : Setting → Type 0
AllThere e = (f : Name) (t : Text) → routine_named e.program e.text f ≡ Some (found_of t) → IsMine e t.owner → IsThere e t

-- what calls of routines below the level n come to is what their code comes to
pub record CallsCome (e : Setting) (n : ℕ) (calls : Calls) : Type 0 where
  pub gives : (f : Name) (t : Text) (a : Answers) (there : IsThere e t) → routine_named e.program e.text f ≡ Some (found_of t) → t.routine.answers ≡ Some a → IsMine e t.owner → e.order.level f < n → e.order.runs f ≡ true
      → (o : Own) (fixed : List ℤ) (w : Words) (m : Memory) → Here e o (routine_scope e.program t) → Fits e o (routine_scope e.program t) fixed (before_of m) w m
      → Runs e.image (Answered e o m (calls.answer (found_of t) m)) (stand o w there.row.start [])
  pub runs : (f : Name) (t : Text) (there : IsThere e t) → routine_named e.program e.text f ≡ Some (found_of t) → t.routine.answers ≡ None → IsMine e t.owner → e.order.level f < n → e.order.runs f ≡ true
      → (o : Own) (fixed : List ℤ) (w : Words) (m : Memory) → Here e o (routine_scope e.program t) → Fits e o (routine_scope e.program t) fixed (before_of m) w m
      → (q : ℕ) × At e.image.code q i.Return
      × Runs e.image (Reached e o (point (routine_scope e.program t) fixed o.job.inside false q []) (before_of m) (calls.run (found_of t) m)) (stand o w there.row.start [])

-- ---- arguments

-- the parameters' variables hold these values
abbrev pub HoldValues : Program → List Param → List ℤ → Vars → Type 0
HoldValues g [] [] [] = Unit {0}
HoldValues g (p ∷ ps) (v ∷ vs) (s ∷ ss) = (s ≡ record { name = p.name; range = range_of g p.kind; held = one v }) × HoldValues g ps vs ss
HoldValues g ps vs ss = ⊥

-- values above operands, the last on top
abbrev pub pushed : List ℤ → List Operand → List Operand
pushed [] os = os
pushed (v ∷ vs) os = pushed vs (Value v ∷ os)

-- the process is at address q with the arguments above the operands below, or at an instruction
-- that raises
abbrev pub GotAll : Setting → Own → Scope → List ℤ → Before → Memory → List Param → (q : ℕ) → (below : List Operand) → Bound → Own → Type 0
GotAll e o c fixed before m ps q below (bound vs) b =
    (values : List ℤ) × HoldValues e.program ps values vs × (w : Words) × Fits e o c fixed before w m × (b ≡ stand o w q (pushed values below))
GotAll e o c fixed before m ps q below (unbound n) b = Raising e o n m.process m.monitor b

-- ---- the routines and entries that a process may run

-- a routine keeps to the static rules, with calls of routines below the level
pub record IsProper (e : Setting) (t : Text) (level : ℕ) : Type 0 where
  pub body : ProperAll e (routine_scope e.program t) level t.routine.body
  pub answers : ProperAnswers e (routine_scope e.program t) level t.routine.answers

-- all of them are there, keep to the static rules, and have levels
pub record HasCode (e : Setting) : Type 0 where
  pub routines : AllThere e
  pub proper : (f : Name) (t : Text) → routine_named e.program e.text f ≡ Some (found_of t) → IsMine e t.owner → e.order.runs f ≡ true → IsProper e t (e.order.level f)
  pub few : (f : Name) (t : Text) → routine_named e.program e.text f ≡ Some (found_of t) → IsMine e t.owner → e.order.level f < routine_count e.program
  pub entries : (mon entry : Name) (t : Text) → Entry e mon entry t → IsThere e t
  pub proper_entries : (mon entry : Name) (t : Text) → Entry e mon entry t → IsProper e t (routine_count e.program)
