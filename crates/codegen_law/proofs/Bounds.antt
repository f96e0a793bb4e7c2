-- The bounds and the turns of loops are not cut off.
use Rattle.std.proofs.Common.{◌≡◌, ◌+◌, ◌≤◌, min, ℕ, suc, Bool, pos, arith}
use Rattle.syntax_tree.specs.Plain.{Stmt, when, when_else, loop, Stmts, no_stmts, stmts, Program}
use Rattle.source_semantics.specs.Names.{constant_value}
use Rattle.code_spec.specs.Layout.{Scope, loops, loops_in}
use Rattle.code_spec.specs.Emits.{turns_of}
use Rattle.codegen_spec.specs.Told.{within}
use Rattle.codegen_law.specs.MadeRightFits.{Fit, StmtFits, StmtsFit}

-- a number that is not cut off is small
pub small_of : (n : ℕ) → Fit (pos n) → n ≤ 2147483647
small_of n h = let e : min n 2147483647 ≡ n = cc in omega arith

abbrev mutual
  pub BoundsFit : Program → Stmt → Type 0
  BoundsFit g (when e a) = AllBoundsFit g a
  BoundsFit g (when_else e a b) = AllBoundsFit g a × AllBoundsFit g b
  BoundsFit g (loop x low high ss) = Fit (constant_value g low) × Fit (constant_value g high) × Fit (pos (turns_of (constant_value g low) (constant_value g high))) × AllBoundsFit g ss
  BoundsFit g _ = Unit {0}

  pub AllBoundsFit : Program → Stmts → Type 0
  AllBoundsFit g no_stmts = Unit {0}
  AllBoundsFit g (stmts s ss) = BoundsFit g s × AllBoundsFit g ss

mutual
  pub bounds_fit : (g : Program) (c : Scope) (b : Bool) (w : ℕ) (s : Stmt) → StmtFits g c b w s → BoundsFit g s
  bounds_fit g c b w (when e a) h = all_bounds_fit g c b w a h.1
  bounds_fit g c b w (when_else e a d) h = (all_bounds_fit g c b w a h.1, all_bounds_fit g c b (w + loops a) d h.2)
  bounds_fit g c b w (loop x low high ss) h = (h.0, h.1, h.2, all_bounds_fit g (within c x w) _ (suc w) ss h.4)
  bounds_fit g c b w _ h = tt

  pub all_bounds_fit : (g : Program) (c : Scope) (b : Bool) (w : ℕ) (ss : Stmts) → StmtsFit g c b w ss → AllBoundsFit g ss
  all_bounds_fit g c b w no_stmts h = tt
  all_bounds_fit g c b w (stmts s ss) h = (bounds_fit g c b w s h.0, all_bounds_fit g c b (w + loops_in s) ss h.1)
