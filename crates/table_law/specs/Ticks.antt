-- How many ticks the statements take that spend them, and how large they are.
use Rattle.std.specs.Prelude.{◌≡◌, ◌≤◌, ◌⊎◌, ℕ}
use Rattle.syntax_tree.specs.Plain.{Name, Program, whole}
use Rattle.syntax_tree.specs.Placed.{plain_stmts}
use Rattle.code_spec.specs.Layout.{Owner, loops}
use Rattle.code_cost_spec.specs.Names.{Names, Calls}
use Rattle.code_cost_spec.specs.Costs.{run, load_ticks, put_ticks, stmts_cost}
use Rattle.code_cost_spec.specs.Heights.{stmts_height}
use Rattle.code_cost_spec.specs.Lengths.{put_length, stmts_length}
use Rattle.table_format.specs.Spending.{of_x, in_turn, spend}

-- a name is that of a variable of one word of a frame or of a process, which has no range
pub record IsOwnWord (n : Names) (name : Name) : Type 0 where
  pub loads : load_ticks (n.view name) ≡ 2
  pub stores : put_ticks n (whole name) ≡ 2
  pub length : put_length n (whole name) ≡ 1

-- a number of ticks that statements can take
abbrev pub IsMet : ℕ → Type 0
IsMet n = (n ≡ 0) ⊎ (3 ≤ n)

-- no wait and no suspension: just so many ticks
abbrev pub TakesTicks : Type 0
TakesTicks =
    (g : Program) (n : Names) (k : Calls) (tail : Name) (ticks : ℕ) → IsOwnWord n (of_x tail) → IsMet ticks → ticks ≤ 1000000000
    → stmts_cost g n k (plain_stmts (in_turn (spend tail ticks))) ≡ run ticks

-- at most 32 instructions
abbrev pub IsShort : Type 0
IsShort =
    (g : Program) (n : Names) (tail : Name) (ticks : ℕ) → IsOwnWord n (of_x tail) → IsMet ticks → ticks ≤ 1000000000
    → stmts_length g n (plain_stmts (in_turn (spend tail ticks))) ≤ 32

-- at most 4 words of stack, and at most 3 loops
abbrev pub IsLow : Type 0
IsLow =
    (g : Program) (o : Owner) (k : Calls) (tail : Name) (ticks : ℕ) → IsMet ticks → ticks ≤ 1000000000
    → (stmts_height g o k (plain_stmts (in_turn (spend tail ticks))) ≤ 4) × (loops (plain_stmts (in_turn (spend tail ticks))) ≤ 3)
