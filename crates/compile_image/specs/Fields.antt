-- When the numbers of a program fit the fields of its image, and its code has a part for each text.
use Rattle.std.specs.Prelude.{◌≡◌, ◌≤◌, ◌+◌, ℕ, List, [], ◌∷◌, Option, Some, None, filter_map, is_some, length, slice_get}
use Rattle.syntax_tree.specs.Plain.{Constant, Handler, Monitor, Process, Program}
use Rattle.source_semantics.specs.Names.{count_value, event_in, monitors, processes}
use Rattle.image_format.specs.TreeBytes.{RowsFit}
use Rattle.image_format.specs.View.{views}
use Rattle.code_spec.specs.Layout.{monitor_vars, routine_words, words_of}
use Rattle.code_spec.specs.Numbering.{Text, numbered}
use Rattle.code_spec.specs.Compiled.{owner_number}
use Rattle.code_cost_spec.specs.Levels.{stack_of_process}
use Rattle.codegen_spec.specs.declared.code.Part.{Part}
use Rattle.codegen_spec.specs.declared.code.ProcessParts.{ProcessParts}
use Rattle.codegen_spec.specs.declared.code.Code.{Code}

-- ---- a part for each text

-- as many processes, each with a handler where the text has one
abbrev pub HaveHandlers : List Process → List ProcessParts → Type 0
HaveHandlers [] [] = Unit {0}
HaveHandlers (p ∷ ps) (x ∷ xs) = (is_some x.handler ≡ is_some p.handler) × HaveHandlers ps xs
HaveHandlers ps xs = ⊥

-- A part for each routine, and for the body and the handler of each process. What is made of the
-- program has them.
pub record HasParts (g : Program) (k : Code) : Type 0 where
  pub routines : length k.routines ≡ length (numbered g)
  pub processes : HaveHandlers (processes g) k.processes

-- ---- numbers that fit

-- the number of its owner has two bytes, and its frame at most 4,096 words
pub record FitsText (g : Program) (t : Text) : Type 0 where
  pub owner : owner_number t.owner ≤ 65535
  pub words : routine_words g t.routine ≤ 4096

-- exception numbers are at most 999
abbrev pub AreExceptions : Program → List Constant → Type 0
AreExceptions g [] = Unit {0}
AreExceptions g (n ∷ ns) = (count_value g n ≤ 999) × AreExceptions g ns

abbrev pub FitsHandler : Program → Option Handler → Type 0
FitsHandler g None = Unit {0}
FitsHandler g (Some h) = AreExceptions g h.numbers

pub record FitsProcess (g : Program) (k : ℕ) (p : Process) : Type 0 where
  pub words : words_of g p.vars ≤ 1048576
  pub stack : stack_of_process g k p ≤ 4096
  pub handler : FitsHandler g p.handler

-- the words of monitors
abbrev pub monitors_words : Program → List Monitor → ℕ
monitors_words g [] = 0
monitors_words g (m ∷ ms) = words_of g (monitor_vars m) + monitors_words g ms

-- a part begins within the greatest code, and each row of segments in its tree fits its count
pub record FitsPart (x : Part) : Type 0 where
  pub start : x.start ≤ 65535
  pub rows : RowsFit (views x.tree)

abbrev pub FitsHandlerPart : Option Part → Type 0
FitsHandlerPart None = Unit {0}
FitsHandlerPart (Some x) = FitsPart x

pub record FitsParts (x : ProcessParts) : Type 0 where
  pub body : FitsPart x.body
  pub handler : FitsHandlerPart x.handler

-- What is asked of the numbers of a program and its code. It follows from the static rules, and
-- from the two rules of size.
pub record FitsFields (g : Program) (k : Code) : Type 0 where
  pub few_monitors : length (monitors g) ≤ 64
  pub few_events : length (filter_map event_in g.decls) ≤ 64
  pub monitor_words : monitors_words g (monitors g) ≤ 1048576
  pub texts : (r : ℕ) (t : Text) → slice_get (numbered g) r ≡ Some t → FitsText g t
  pub processes : (n : ℕ) (p : Process) → slice_get (processes g) n ≡ Some p → FitsProcess g n p
  pub routine_parts : (r : ℕ) (x : Part) → slice_get k.routines r ≡ Some x → FitsPart x
  pub process_parts : (n : ℕ) (x : ProcessParts) → slice_get k.processes n ≡ Some x → FitsParts x
