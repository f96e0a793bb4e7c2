-- The program's routines and the entries call routines of the program alone: they fit also where a process without routines would run them.
use Rattle.std.proofs.Common.{◌≡◌, Bool, false, List, [], ◌∷◌, Option, Some, None, refl}
use Rattle.std.specs.Prelude.{option_map}
use Rattle.std.proofs.lemmas.Option.{none-some}
use Rattle.syntax_tree.specs.Plain as plain_of
use Rattle.syntax_tree.specs.Plain.{Name}
use Rattle.syntax_tree.specs.Placed.{literal_constant, periodic, no_stmts, Routine, Process, Decl, routine, plain_process}
use Rattle.syntax_tree.specs.declared.place.Place.{Place}
use Rattle.source_semantics.specs.Names.{named, routines}
use Rattle.source_semantics.specs.Run.{Home, of_program}
use Rattle.code_spec.specs.Numbering.{Called, calls_routine, calls_entry, stmts_calls, answers_calls, routine_calls}
use Rattle.static_semantics.specs.Here.{in_routine}
use Rattle.static_semantics.specs.Statements.{may_call}
use Rattle.static_semantics.specs.WellFormed.{RoutineFits}
use Rattle.wellformed_law.proofs.Members.{In}
use Rattle.wellformed_law.proofs.ProgramScope.{routine_called}
use Rattle.codegen_law.specs.Ruled.{OfProgram, AllOfProgram}
use Rattle.codegen_law.specs.Called.{AllCalled, FindsRoutine, Finds}
use Rattle.codegen_law.proofs.Finding.{called_both, text_finds}

-- a process without routines
abbrev pub nobody : Process Place
nobody = record {
  name = [];
  place = record { line = 0; col = 0 };
  activation = periodic (literal_constant (record { line = 0; col = 0 }) false 10 (record { line = 0; col = 0 })) None None;
  vars = [];
  routines = [];
  body = no_stmts;
  handler = None;
  close = [];
  close_place = record { line = 0; col = 0 };
}

pub nothing_hidden : (ds : List (Decl Place)) (r : Routine Place) → In ds (routine r) → named routine_called r.name (nobody).routines ≡ None
nothing_hidden ds r i = refl

-- what a process without routines finds is the program's
of_program_found : (g : plain_of.Program) (b : Bool) (f : Name) → FindsRoutine g (plain_process nobody) b f → OfProgram g (calls_routine f)
of_program_found g b f found = by (named (λ k. k.name) f (routines g)) refl found.is
  where
    by : (o : Option plain_of.Routine) → named (λ k. k.name) f (routines g) ≡ o → option_map (λ r. record { home = of_program; routine = r }) o ≡ Some found.found → OfProgram g (calls_routine f)
    by None is e = absurd (none-some found.found e)
    by (Some r) is e = (r, is)

all_of_program : (g : plain_of.Program) (b : Bool) (cs : List Called) → AllCalled (Finds g (plain_process nobody) b) cs → AllOfProgram g cs
all_of_program g b [] h = tt
all_of_program g b (calls_routine f ∷ cs) h = (of_program_found g b f h.0, all_of_program g b cs h.1)
all_of_program g b (calls_entry m e ∷ cs) h = (tt, all_of_program g b cs h.1)

-- so a text calls the program's routines alone, if that process could run it
pub calls_program : (g : plain_of.Program) (home : Home) (r : plain_of.Routine) → RoutineFits g (plain_process nobody) home r → AllOfProgram g (routine_calls r)
calls_program g home r fits =
    let h = in_routine g (plain_process nobody) home r in
    let t = text_finds h r.body r.answers fits.body fits.answers in
    all_of_program g (may_call h) (routine_calls r) (called_both (Finds g (plain_process nobody) (may_call h)) (stmts_calls r.body) (answers_calls r.answers) t.body_finds t.answers_find)
