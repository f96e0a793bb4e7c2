-- The texts of a program, each with what its names see.
use Rattle.std.specs.Prelude.{◌≡◌, ℕ, suc, List, [], ◌∷◌, map, length, take, Option, slice_get}
use Rattle.syntax_tree.specs.Plain.{Routine, Process, Program}
use Rattle.syntax_tree.specs.Placed.{placed, placed_process, placed_routine, plain, plain_process, plain_routine}
use Rattle.syntax_tree.specs.declared.decl.Program as tree
use Rattle.source_semantics.specs.Names.{processes}
use Rattle.code_spec.specs.Layout.{Scope, routine_vars_words}
use Rattle.code_spec.specs.Numbering.{Text, numbered}
use Rattle.code_spec.specs.Compiled.{process_scope, routine_scope}
use Rattle.codegen_texts.specs.declared.text.RoutineText as code_routine
use Rattle.codegen_texts.specs.declared.text.ProcessText as code_process

-- a routine or entry, the words of its parameters and variables, and the program and place that its
-- names see
pub record RoutineText : Type 0 where
  pub routine : Routine
  pub words : ℕ
  pub program : Program
  pub scope : Scope

-- a process, and the program and place that its names see
pub record ProcessText : Type 0 where
  pub process : Process
  pub program : Program
  pub scope : Scope

-- ---- the texts of a program

abbrev pub routine_text : Program → Text → RoutineText
routine_text g t = record { routine = t.routine; words = routine_vars_words g t.routine; program = g; scope = routine_scope g t }

-- by number
abbrev pub routine_texts : Program → List RoutineText
routine_texts g = map (routine_text g) (numbered g)

abbrev pub process_text : Program → ℕ → Process → ProcessText
process_text g k p = record { process = p; program = g; scope = process_scope g k p }

-- processes from number k on
abbrev pub process_texts_from : Program → ℕ → List Process → List ProcessText
process_texts_from g k [] = []
process_texts_from g k (p ∷ ps) = process_text g k p ∷ process_texts_from g (suc k) ps

-- in the order of the text
abbrev pub process_texts : Program → List ProcessText
process_texts g = process_texts_from g 0 (processes g)

-- ---- the texts of the code

-- a text, by what its names see
abbrev pub told_routine : {N : Type 0} → (N → Program) → (N → Scope) → code_routine.RoutineText N → RoutineText
told_routine program scope t = record {
  routine = plain_routine (placed_routine t.routine.now);
  words = t.words;
  program = program t.names;
  scope = scope t.names;
}

abbrev pub told_process : {N : Type 0} → (N → Program) → (N → Scope) → code_process.ProcessText N → ProcessText
told_process program scope t = record {
  process = plain_process (placed_process t.process.now);
  program = program t.names;
  scope = scope t.names;
}

-- the texts are those of the program
pub record AreTexts (g : Program) (routines : List RoutineText) (processes : List ProcessText) : Type 0 where
  pub routines_are : routines ≡ routine_texts g
  pub processes_are : processes ≡ process_texts g

-- the texts are the first ones of the program
pub record AreFirst (g : Program) (routines : List RoutineText) (processes : List ProcessText) : Type 0 where
  pub routines_are : routines ≡ take (length routines) (routine_texts g)
  pub processes_are : processes ≡ take (length processes) (process_texts g)

-- ---- texts taken one by one

-- a program, and how many of its routines and of its processes are taken
pub record Taken : Type 0 where
  pub program : tree.Program
  pub routines : ℕ
  pub processes : ℕ

abbrev pub program_of : Taken → Program
program_of t = plain (placed t.program)

-- the routine or entry, and the process, to be taken next
abbrev pub next_routine : Taken → Option Text
next_routine t = slice_get (numbered (program_of t)) t.routines

abbrev pub next_process : Taken → Option Process
next_process t = slice_get (processes (program_of t)) t.processes
