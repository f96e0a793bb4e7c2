-- Each instruction of the code of a text has a property that the text gives.
use Rattle.std.specs.Prelude.{◌≡◌, ◌≤◌, ◌<◌, ℕ, Bool, true, List, Some, length, slice_get}
use Rattle.syntax_tree.specs.Plain.{Stmts, Process, Program}
use Rattle.source_semantics.specs.Names.{processes}
use Rattle.machine_isa.specs.declared.instr.Instr.{Instr}
use Rattle.machine_semantics.specs.Image as image
use Rattle.valid_image.specs.Pieces.{belongs, piece_number}
use Rattle.code_spec.specs.Layout.{Scope}
use Rattle.code_spec.specs.Numbering.{Text, numbered}
use Rattle.code_spec.specs.Emits.{EmitsAll}
use Rattle.code_spec.specs.Compiled.{EmitsRoutine, EmitsProcess, IsCodeOf}
use Rattle.built_valid_law.specs.Has.{EachBranch, StmtsHave, RoutineHas, ProcessHas}

-- the instruction passes the test
abbrev pub Passes : (Instr → Bool) → Instr → Type 0
Passes test i = test i ≡ true

-- each instruction from p to q
abbrev pub Keeps : List Instr → (Instr → Type 0) → (p q : ℕ) → Type 0
Keeps code P p q = (a : ℕ) (i : Instr) → p ≤ a → a < q → slice_get code a ≡ Some i → P i

-- The law of statements.
abbrev pub StatementsKeep : Type 0
StatementsKeep = (test : Instr → Bool) (g : Program) (code : List Instr) (c : Scope) (w p q : ℕ) (ss : Stmts)
    → EachBranch (Passes test) → EmitsAll g code c w p q ss → StmtsHave (Passes test) g c w ss → Keeps code (Passes test) p q

-- The law of routines.
abbrev pub RoutinesKeep : Type 0
RoutinesKeep = (test : Instr → Bool) (g : Program) (code : List Instr) (t : Text) (p q : ℕ)
    → EmitsRoutine g code t p q → RoutineHas (Passes test) g t → Keeps code (Passes test) p q

-- The law of processes.
abbrev pub ProcessesKeep : Type 0
ProcessesKeep = (test : Instr → Bool) (g : Program) (code : List Instr) (k : ℕ) (t : Process) (p q : ℕ) (ip : image.Process)
    → EmitsProcess g code k t p q ip → ProcessHas (Passes test) g k t → Keeps code (Passes test) p q

-- ---- the pieces of an image

-- the address lies in the code of the routine
pub record LiesInRoutine (g : Program) (code : List Instr) (t : Text) (a : ℕ) : Type 0 where
  pub from : ℕ
  pub to : ℕ
  pub emits : EmitsRoutine g code t from to
  pub low : from ≤ a
  pub high : a < to

-- the address lies in the code of the process
pub record LiesInProcess (g : Program) (code : List Instr) (k : ℕ) (t : Process) (ip : image.Process) (a : ℕ) : Type 0 where
  pub from : ℕ
  pub to : ℕ
  pub emits : EmitsProcess g code k t from to ip
  pub low : from ≤ a
  pub high : a < to

-- The law: an address that belongs to a piece lies in the code of that routine.
abbrev pub RoutinesOwnTheirCode : Type 0
RoutinesOwnTheirCode = (g : Program) (m : image.Image) → IsCodeOf g m → (r : ℕ) (t : Text) → slice_get (numbered g) r ≡ Some t
    → (a : ℕ) → a < length m.code → belongs m r a ≡ true → LiesInRoutine g m.code t a

-- The law: or of that process.
abbrev pub ProcessesOwnTheirCode : Type 0
ProcessesOwnTheirCode = (g : Program) (m : image.Image) → IsCodeOf g m
    → (k : ℕ) (t : Process) (ip : image.Process) → slice_get (processes g) k ≡ Some t → slice_get m.processes k ≡ Some ip
    → (a : ℕ) → a < length m.code → belongs m (piece_number m k) a ≡ true → LiesInProcess g m.code k t ip a

-- each instruction that belongs to a piece
abbrev pub PieceKeeps : image.Image → (Instr → Type 0) → ℕ → Type 0
PieceKeeps m P k = (a : ℕ) (i : Instr) → belongs m k a ≡ true → slice_get m.code a ≡ Some i → P i

-- The law: each instruction that belongs to the piece of a routine passes the test that its text
-- passes.
abbrev pub RoutinePiecesKeep : Type 0
RoutinePiecesKeep = (test : Instr → Bool) (g : Program) (m : image.Image) → IsCodeOf g m → (r : ℕ) (t : Text) → slice_get (numbered g) r ≡ Some t
    → RoutineHas (Passes test) g t → PieceKeeps m (Passes test) r

-- The law: so it is of processes.
abbrev pub ProcessPiecesKeep : Type 0
ProcessPiecesKeep = (test : Instr → Bool) (g : Program) (m : image.Image) → IsCodeOf g m
    → (k : ℕ) (t : Process) (ip : image.Process) → slice_get (processes g) k ≡ Some t → slice_get m.processes k ≡ Some ip
    → ProcessHas (Passes test) g k t → PieceKeeps m (Passes test) (piece_number m k)
