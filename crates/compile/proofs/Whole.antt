-- The bounds of all loops of a program that is well formed.
use Rattle.std.proofs.Common.{◌≡◌, ◌≤◌, ℕ, List, [], ◌∷◌, length, Option, Some, None, slice_get, refl, ap, arith}
use Rattle.base.proofs.Lists.{one_of}
use Rattle.syntax_tree.specs.Plain.{Routine, Handler, Monitor, Process, Program}
use Rattle.syntax_tree.specs.Placed as placed
use Rattle.syntax_tree.specs.Placed.{plain}
use Rattle.syntax_tree.specs.declared.place.Place.{Place}
use Rattle.static_semantics.specs.Static.{IsChecked}
use Rattle.source_semantics.specs.Names.{routines, monitors, processes}
use Rattle.source_semantics.specs.Run.{Home, of_program, of_process, of_monitor}
use Rattle.code_spec.specs.Layout.{by_program, by_process, by_monitor}
use Rattle.code_spec.specs.Numbering.{Text, numbered}
use Rattle.static_semantics.specs.Here.{in_routine, in_process}
use Rattle.static_semantics.specs.WellFormed.{RoutineFits, ProcessFits, OptionalFits, IsWellFormed}
use Rattle.codegen_law.proofs.Reached.{OfEach, text_at, of_numbered}
use Rattle.code_measures.specs.MeasuredTexts.{AllBoundsFit}
use Rattle.code_measures.specs.Defined.{HandlerLoopsFit}
use Rattle.compile.specs.Loops.{WellFormedLoopsFit, CheckedLoopsFit}
use Rattle.compile.proofs.Texts.{all_fit}

module _ (g : Program) (form : IsWellFormed g) where
  abbrev LoopsOf : Text → Type 0
  LoopsOf t = AllBoundsFit g t.routine.body

  process_at : (k : ℕ) (p : Process) → slice_get (processes g) k ≡ Some p → ProcessFits g p
  process_at k p at = one_of (ProcessFits g) (processes g) k p form.processes_fit at

  first_process : (ps : List Process) → processes g ≡ ps → 1 ≤ length ps → (p : Process) × ProcessFits g p
  first_process [] is h = absurd (omega arith)
  first_process (p ∷ ps) is h = (p, process_at 0 p (ap (λ z. slice_get z 0) is))

  some_process : (p : Process) × ProcessFits g p
  some_process = first_process (processes g) refl form.counts_fit.one_process

  body_of : (p : Process) (home : Home) (r : Routine) → RoutineFits g p home r → AllBoundsFit g r.body
  body_of p home r fits = all_fit (in_routine g p home r) r.body fits.body

  of_the_program : OfEach g LoopsOf by_program (routines g)
  of_the_program j r at = let p = some_process in body_of p.0 of_program r (one_of (RoutineFits g p.0 of_program) (routines g) j r p.1.shared at)

  of_a_process : (k : ℕ) (p : Process) → slice_get (processes g) k ≡ Some p → OfEach g LoopsOf (by_process k) p.routines
  of_a_process k p there j r at = body_of p of_process r (one_of (RoutineFits g p of_process) p.routines j r (process_at k p there).own at)

  of_a_monitor : (m : ℕ) (d : Monitor) → slice_get (monitors g) m ≡ Some d → OfEach g LoopsOf (by_monitor m) d.entries
  of_a_monitor m d there j r at = let p = some_process in body_of p.0 (of_monitor m) r (one_of (RoutineFits g p.0 (of_monitor m)) d.entries j r (p.1.entries m d there) at)

  handler_fits : (p : Process) (h : Option Handler) → OptionalFits g p h → HandlerLoopsFit g h
  handler_fits p None fits = tt
  handler_fits p (Some h) fits = all_fit (in_process g p) h.body fits.body

pub well_formed_loops_fit : WellFormedLoopsFit
well_formed_loops_fit g form = record {
  routines = λ r t at. text_at g (LoopsOf g form) (numbered g) r t (of_numbered g (LoopsOf g form) (of_the_program g form) (of_a_process g form) (of_a_monitor g form)) at;
  bodies = λ k p at. let fits = process_at g form k p at in (all_fit (in_process g p) p.body fits.body, handler_fits g form p p.handler fits.handler);
}

pub checked_loops_fit : ((g : placed.Prog Place) → IsChecked g → IsWellFormed (plain g)) → WellFormedLoopsFit → CheckedLoopsFit
checked_loops_fit formed loops g is = loops (plain g) (formed g is)
