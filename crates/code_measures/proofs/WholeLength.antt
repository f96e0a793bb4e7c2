-- The number of instructions of a whole program.
use Rattle.std.specs.Prelude.{◌≡◌, ◌+◌, ℕ, suc, List, [], ◌∷◌, length, Some, slice_get}
use Rattle.std.proofs.Common.{refl, sym, subst, arith}
use Rattle.syntax_tree.specs.Plain.{Process, Program}
use Rattle.source_semantics.specs.Names.{processes}
use Rattle.machine_isa.specs.declared.instr.Instr.{Instr}
use Rattle.machine_semantics.specs.Image as image
use Rattle.code_spec.specs.Numbering.{Text, numbered}
use Rattle.code_spec.specs.Compiled.{EmitsRoutine, EmitsRoutines, EmitsProcess, EmitsProcesses}
use Rattle.code_cost_spec.specs.Lengths.{routine_length, process_length}
use Rattle.code_cost_spec.specs.Levels.{routine_names, process_names, routines_length, processes_length}
use Rattle.code_measures.specs.Sound.{SoundProcess}
use Rattle.code_measures.proofs.Lengths.{routine_long, process_long}
use Rattle.code_measures.specs.Declared.{IsBelow}
use Rattle.code_measures.specs.Whole.{CodeHasItsLength}

routines_long : (g : Program) (code : List Instr) (p q : ℕ) (ts : List Text) (rs : List image.Routine) → EmitsRoutines g code p q ts rs
    → ((r : ℕ) (t : Text) (from to : ℕ) → slice_get ts r ≡ Some t → EmitsRoutine g code t from to → to ≡ from + routine_length g (routine_names g t) t) → q ≡ p + routines_length g ts
routines_long g code p q [] [] h long = let e : q ≡ p = h in omega (arith, e)
routines_long g code p q [] (y ∷ ys) h long = absurd h
routines_long g code p q (u ∷ us) [] h long = absurd h
routines_long g code p q (u ∷ us) (y ∷ ys) h long =
    let a : h.0 ≡ p + routine_length g (routine_names g u) u = long 0 u p h.0 refl h.3 in
    let b : q ≡ h.0 + routines_length g us = routines_long g code h.0 q us ys h.4 (λ r t from to at emits. long (suc r) t from to at emits) in omega (arith, a, b)

processes_long : (g : Program) (code : List Instr) (k p q : ℕ) (ts : List Process) (rs : List image.Process) → EmitsProcesses g code k p q ts rs
    → ((r : ℕ) (t : Process) (from to : ℕ) (x : image.Process) → slice_get ts r ≡ Some t → EmitsProcess g code (k + r) t from to x → to ≡ from + process_length g (process_names g (k + r) t) t) → q ≡ p + processes_length g k ts
processes_long g code k p q [] [] h long = let e : q ≡ p = h in omega (arith, e)
processes_long g code k p q [] (y ∷ ys) h long = absurd h
processes_long g code k p q (u ∷ us) [] h long = absurd h
processes_long g code k p q (u ∷ us) (y ∷ ys) h long =
    let a : h.0 ≡ p + process_length g (process_names g k u) u =
    subst (λ j. h.0 ≡ p + process_length g (process_names g j u) u) (flat k) (long 0 u p h.0 y refl (subst (λ j. EmitsProcess g code j u p h.0 y) (sym (flat k)) h.1)) in
    let b : q ≡ h.0 + processes_length g (suc k) us =
    processes_long g code (suc k) h.0 q us ys h.2
    (λ r t from to x at emits. subst (λ j. to ≡ from + process_length g (process_names g j t) t) (sym (further k r)) (long (suc r) t from to x at (subst (λ j. EmitsProcess g code j t from to x) (further k r) emits))) in omega (arith, a, b)
  where
    flat : (k : ℕ) → k + 0 ≡ k
    flat k = omega arith

    further : (k r : ℕ) → suc k + r ≡ k + suc r
    further k r = omega arith

pub code_has_its_length : CodeHasItsLength
code_has_its_length g m is sound =
    let a : is.between ≡ 0 + routines_length g (numbered g) =
    routines_long g m.code 0 is.between (numbered g) m.routines is.routine_code (λ r t from to at emits. routine_long g (λ y. IsBelow g r y) m.code t from to (sound.routines r t at) emits) in
    let b : length m.code ≡ is.between + processes_length g 0 (processes g) =
    processes_long g m.code 0 is.between (length m.code) (processes g) m.processes is.process_code
    (λ r t from to x at emits. process_long g (λ y. IsBelow g (length (numbered g)) y) m.code (0 + r) t from to x (subst (λ j. SoundProcess g (λ y. IsBelow g (length (numbered g)) y) j t) (sym (plain r)) (sound.bodies r t at)) emits) in
    omega (arith, a, b)
  where
    plain : (k : ℕ) → 0 + k ≡ k
    plain k = omega arith
