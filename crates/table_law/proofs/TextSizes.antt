-- The size of statements that spend ticks.
use Rattle.std.proofs.Common.{◌≡◌, ◌≤◌, ◌*◌, ℕ, List, refl, arith}
use Rattle.syntax_tree.specs.Plain.{Name, Program}
use Rattle.syntax_tree.specs.Placed.{Stmt, plain_stmts}
use Rattle.code_spec.specs.Layout.{Owner, loops}
use Rattle.code_cost_spec.specs.Names.{Names, Calls}
use Rattle.code_cost_spec.specs.Heights.{stmts_height}
use Rattle.code_cost_spec.specs.Lengths.{stmts_length}
use Rattle.table_format.specs.Spending.{Nowhere, of_x, in_turn}
use Rattle.table_law.specs.Ticks.{IsOwnWord}
use Rattle.table_law.proofs.Spends.{Spends, nothing, by_three, by_four, by_five, by_short, by_long}

module _ (g : Program) (n : Names) (tail : Name) (own : IsOwnWord n (of_x tail)) where
  abbrev size : List (Stmt Nowhere) → ℕ
  size ss = stmts_length g n (plain_stmts (in_turn ss))

  -- two instructions for three ticks at most
  by_ticks : (t : ℕ) (ss : List (Stmt Nowhere)) → Spends tail t ss → 3 * size ss ≤ 2 * t
  by_ticks t ss nothing = omega arith
  by_ticks t ss (by_three left _ more is few spends) = omega (arith, own.length, is, by_ticks left more spends)
  by_ticks t ss (by_four left _ more is few spends) = omega (arith, own.length, is, by_ticks left more spends)
  by_ticks t ss (by_five left _ more is few spends) = omega (arith, own.length, is, by_ticks left more spends)
  by_ticks t ss (by_short turns left _ more is some few least most spends) = omega (arith, is, some, by_ticks left more spends)
  by_ticks t ss (by_long turns left _ more is some few least most spends) = omega (arith, is, some, by_ticks left more spends)

  short_part : (t : ℕ) (ss : List (Stmt Nowhere)) → t ≤ 10022 → Spends tail t ss → size ss ≤ 16
  short_part t ss low nothing = omega arith
  short_part t ss low (by_three left m more is few spends) = omega (arith, few, by_ticks m ss (by_three left m more is few spends))
  short_part t ss low (by_four left m more is few spends) = omega (arith, few, by_ticks m ss (by_four left m more is few spends))
  short_part t ss low (by_five left m more is few spends) = omega (arith, few, by_ticks m ss (by_five left m more is few spends))
  short_part t ss low (by_short turns left _ more is some few least most spends) = omega (arith, most, by_ticks left more spends)
  short_part t ss low (by_long turns left _ more is some few least most spends) = absurd (omega (arith, is, some, least, low))

  pub short : (t : ℕ) (ss : List (Stmt Nowhere)) → Spends tail t ss → size ss ≤ 32
  short t ss nothing = omega arith
  short t ss (by_three left m more is few spends) = omega (arith, few, by_ticks m ss (by_three left m more is few spends))
  short t ss (by_four left m more is few spends) = omega (arith, few, by_ticks m ss (by_four left m more is few spends))
  short t ss (by_five left m more is few spends) = omega (arith, few, by_ticks m ss (by_five left m more is few spends))
  short t ss (by_short turns left _ more is some few least most spends) = omega (arith, most, by_ticks left more spends)
  short t ss (by_long turns left _ more is some few least most spends) = omega (arith, short_part left more (omega (arith, most)) spends)

pub low : (g : Program) (o : Owner) (k : Calls) (tail : Name) (t : ℕ) (ss : List (Stmt Nowhere)) → Spends tail t ss → stmts_height g o k (plain_stmts (in_turn ss)) ≤ 4
low g o k tail t ss nothing = omega arith
low g o k tail t ss (by_three left _ more is few spends) = omega (arith, low g o k tail left more spends)
low g o k tail t ss (by_four left _ more is few spends) = omega (arith, low g o k tail left more spends)
low g o k tail t ss (by_five left _ more is few spends) = omega (arith, low g o k tail left more spends)
low g o k tail t ss (by_short turns left _ more is some few least most spends) = omega (arith, low g o k tail left more spends)
low g o k tail t ss (by_long turns left _ more is some few least most spends) = omega (arith, low g o k tail left more spends)

abbrev all_loops : List (Stmt Nowhere) → ℕ
all_loops ss = loops (plain_stmts (in_turn ss))

no_loops : (tail : Name) (t : ℕ) (ss : List (Stmt Nowhere)) → t ≤ 12 → Spends tail t ss → all_loops ss ≡ 0
no_loops tail t ss less nothing = refl
no_loops tail t ss less (by_three left _ more is few spends) = omega (arith, no_loops tail left more (omega (arith, is, less)) spends)
no_loops tail t ss less (by_four left _ more is few spends) = omega (arith, no_loops tail left more (omega (arith, is, less)) spends)
no_loops tail t ss less (by_five left _ more is few spends) = omega (arith, no_loops tail left more (omega (arith, is, less)) spends)
no_loops tail t ss less (by_short turns left _ more is some few least most spends) = absurd (omega (arith, is, some, less))
no_loops tail t ss less (by_long turns left _ more is some few least most spends) = absurd (omega (arith, is, some, less))

one_loop : (tail : Name) (t : ℕ) (ss : List (Stmt Nowhere)) → t ≤ 10022 → Spends tail t ss → all_loops ss ≤ 1
one_loop tail t ss less nothing = omega arith
one_loop tail t ss less (by_three left _ more is few spends) = omega (arith, one_loop tail left more (omega (arith, is, less)) spends)
one_loop tail t ss less (by_four left _ more is few spends) = omega (arith, one_loop tail left more (omega (arith, is, less)) spends)
one_loop tail t ss less (by_five left _ more is few spends) = omega (arith, one_loop tail left more (omega (arith, is, less)) spends)
one_loop tail t ss less (by_short turns left _ more is some few least most spends) = omega (arith, no_loops tail left more most spends)
one_loop tail t ss less (by_long turns left _ more is some few least most spends) = absurd (omega (arith, is, some, least, less))

pub few_loops : (tail : Name) (t : ℕ) (ss : List (Stmt Nowhere)) → Spends tail t ss → all_loops ss ≤ 3
few_loops tail t ss nothing = omega arith
few_loops tail t ss (by_three left _ more is few spends) = omega (arith, few_loops tail left more spends)
few_loops tail t ss (by_four left _ more is few spends) = omega (arith, few_loops tail left more spends)
few_loops tail t ss (by_five left _ more is few spends) = omega (arith, few_loops tail left more spends)
few_loops tail t ss (by_short turns left _ more is some few least most spends) = omega (arith, no_loops tail left more most spends)
few_loops tail t ss (by_long turns left _ more is some few least most spends) = omega (arith, one_loop tail left more (omega (arith, most)) spends)
