-- The ticks of statements that spend them.
use Rattle.std.proofs.Common.{◌≡◌, ◌≤◌, ◌-◌, ℕ, zero, suc, pos, negsuc, List, refl, ap, ◌∙◌, arith}
use Rattle.std.specs.Prelude.{◌-ℤ◌, cond}
use Rattle.std.proofs.lemmas.Bool.{le-ltb}
use Rattle.base.specs.declared.capped.Cost.{Cost}
use Rattle.syntax_tree.specs.Plain.{Name, Program}
use Rattle.syntax_tree.specs.Placed.{Stmt, plain_stmts}
use Rattle.source_semantics.specs.Store.{up_to}
use Rattle.code_cost_spec.specs.Names.{Names, Calls}
use Rattle.code_cost_spec.specs.Costs.{run, stmts_cost}
use Rattle.table_format.specs.Spending.{Nowhere, of_x, in_turn}
use Rattle.table_law.specs.Ticks.{IsOwnWord}
use Rattle.table_law.proofs.Spends.{Spends, nothing, by_three, by_four, by_five, by_short, by_long}

-- from 1 to this
turns_are : (k : ℕ) → 1 ≤ k → up_to (pos k -ℤ pos 1) ≡ k
turns_are zero some = absurd (omega arith)
turns_are (suc less) some = ap (λ c. up_to (cond c (negsuc (1 - suc (suc less))) (pos (suc less - 1)))) (le-ltb (suc less) 1 (omega arith)) ∙ omega arith

-- just so many ticks
pub record Takes (c : Cost) (n : ℕ) : Type 0 where
  pub runs : c.run ≡ n
  pub suspended : c.susp ≡ 0
  pub waits : c.waits ≡ 0

pub is_run : (c : Cost) (n : ℕ) → Takes c n → c ≡ run n
is_run c n t = (let a = t.runs in let b = t.suspended in let d = t.waits in λ i. record { run = a i; susp = b i; waits = d i })

pub takes : (g : Program) (k : Calls) (n : Names) (tail : Name) → IsOwnWord n (of_x tail) → (t : ℕ) (ss : List (Stmt Nowhere)) → Spends tail t ss
    → Takes (stmts_cost g n k (plain_stmts (in_turn ss))) t
takes g k n tail own t ss nothing = record { runs = refl; suspended = refl; waits = refl }
takes g k n tail own t ss (by_three left _ more is few spends) =
    let rest = takes g k n tail own left more spends in
    record { runs = omega (arith, own.stores, rest.runs, is); suspended = omega (arith, rest.suspended); waits = omega (arith, rest.waits) }
takes g k n tail own t ss (by_four left _ more is few spends) =
    let rest = takes g k n tail own left more spends in
    record { runs = omega (arith, own.loads, own.stores, rest.runs, is); suspended = omega (arith, rest.suspended); waits = omega (arith, rest.waits) }
takes g k n tail own t ss (by_five left _ more is few spends) =
    let rest = takes g k n tail own left more spends in
    record { runs = omega (arith, own.stores, rest.runs, is); suspended = omega (arith, rest.suspended); waits = omega (arith, rest.waits) }
takes g k n tail own t ss (by_short turns left _ more is some few least most spends) =
    let rest = takes g k n tail own left more spends in
    record { runs = omega (arith, turns_are turns some, rest.runs, is); suspended = omega (arith, rest.suspended); waits = omega (arith, rest.waits) }
takes g k n tail own t ss (by_long turns left _ more is some few least most spends) =
    let rest = takes g k n tail own left more spends in
    record { runs = omega (arith, turns_are turns some, rest.runs, is); suspended = omega (arith, rest.suspended); waits = omega (arith, rest.waits) }
