use Rattle.syntax_tree.specs.Placed.{plain_stmts}
use Rattle.code_cost_spec.specs.Costs.{stmts_cost}
use Rattle.table_format.specs.Spending.{in_turn, spend}
use Rattle.table_law.proofs.Spends.{spent}
use Rattle.table_law.proofs.Ticks.{is_run, takes}
use Rattle.table_law.proofs.TextSizes.{short, low, few_loops}
use Rattle.table_law.proofs.spend_law.spend_takes.Goals as goal

pub returns-clause-ticks : goal.returns-clause-ticks
returns-clause-ticks c g n k tail t own met few = is_run (stmts_cost g n k (plain_stmts (in_turn (spend tail t)))) t (takes g k n tail own t (spend tail t) (spent tail t met few))

pub returns-clause-short : goal.returns-clause-short
returns-clause-short c g n tail t own met few = short g n tail own t (spend tail t) (spent tail t met few)

pub returns-clause-low : goal.returns-clause-low
returns-clause-low c g o k tail t met few = (low g o k tail t (spend tail t) (spent tail t met few), few_loops tail t (spend tail t) (spent tail t met few))
