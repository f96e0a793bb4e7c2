-- The bounds of the loops of a text that is well formed where it stands.
use Rattle.syntax_tree.specs.Plain.{Stmt, assign, assign_entry, assign_empty, perform, perform_entry, when, when_else, loop, exit_when, get, put, wait, signal, broadcast, except, assert, Stmts, no_stmts, stmts}
use Rattle.source_semantics.specs.Names.{constant_value}
use Rattle.static_semantics.specs.Here.{Here, in_loop}
use Rattle.static_semantics.specs.Statements.{Fits, AllFit}
use Rattle.codegen_law.proofs.Words.{word_fits}
use Rattle.code_measures.specs.MeasuredTexts.{BoundsFit, AllBoundsFit}

mutual
  one_fits : (c : Here) (s : Stmt) → Fits c s → BoundsFit c.program s
  one_fits c (assign r e) h = tt
  one_fits c (assign_entry r m e es) h = tt
  one_fits c (assign_empty r x) h = tt
  one_fits c (perform f es) h = tt
  one_fits c (perform_entry m e es) h = tt
  one_fits c (when e a) h = all_fit c a h.1
  one_fits c (when_else e a b) h = (all_fit c a h.1, all_fit c b h.2)
  one_fits c (loop x low high ss) h =
      (word_fits (constant_value c.program low) h.0.low_constant.word, word_fits (constant_value c.program high) h.0.high_constant.word, all_fit (in_loop x c) ss h.1)
  one_fits c (exit_when e) h = tt
  one_fits c (get d r) h = tt
  one_fits c (put d e) h = tt
  one_fits c (wait x limit number) h = tt
  one_fits c (signal x) h = tt
  one_fits c (broadcast x) h = tt
  one_fits c (except n) h = tt
  one_fits c (assert e) h = tt

  pub all_fit : (c : Here) (ss : Stmts) → AllFit c ss → AllBoundsFit c.program ss
  all_fit c no_stmts h = tt
  all_fit c (stmts s ss) h = (one_fits c s h.0, all_fit c ss h.1)
