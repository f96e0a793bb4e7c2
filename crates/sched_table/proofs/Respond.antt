-- A bound in each row is a response of each process.
use Rattle.std.proofs.Common.{◌<◌, ◌-◌, ℕ, List, Option, Some, None, length, get_or, arith, refl}
use Rattle.std.specs.Prelude.{IsSome}
use Rattle.std.proofs.lemmas.List.Elements.{All-get_or, All-from_get_or}
use Rattle.sched_response.specs.declared.tasks.Task.{Task}
use Rattle.sched_response.specs.Demand.{Solves}
use Rattle.sched_table.specs.declared.table.Row.{Row}
use Rattle.sched_table.specs.Table.{IsBoundAt, TimelyTablesRespond, row_at}

abbrev no_row : Row
no_row = record { frame = 0; deadline = 0; rank = 0; cost = record { run = 0; susp = 0; waits = 0 }; block = 0; bound = None; size = record { words = 0; stack = 0 } }

solved : (tasks : List Task) (level : ℕ) (bound : Option ℕ) → IsBoundAt tasks level bound → IsSome bound → (r : ℕ) × Solves tasks level r
solved tasks level None is some = cc
solved tasks level (Some r) is some = (r, is.solves)

bounded : (tasks : List Task) (level : ℕ) (bound : Option ℕ) → IsBoundAt tasks level bound → (r : ℕ) → Solves tasks level r → IsSome bound
bounded tasks level None is r solves = absurd (is r solves)
bounded tasks level (Some least) is r solves = refl

pub respond : TimelyTablesRespond
respond us monitors sizes table is = (
  λ timely p below.
      let has : IsSome (row_at table.rows p).bound = All-get_or (λ (row : Row). IsSome row.bound) table.rows p no_row (omega (arith, below, is.rows.one_each)) timely in
      solved is.tasks (get_or is.ranks p 0 - 1) (row_at table.rows p).bound (is.rows.each p below).bound has,
  λ all. All-from_get_or (λ (row : Row). IsSome row.bound) table.rows no_row (λ p below.
      let lt : p < length us = omega (arith, below, is.rows.one_each) in
      let one = all p lt in
      bounded is.tasks (get_or is.ranks p 0 - 1) (row_at table.rows p).bound (is.rows.each p lt).bound one.0 one.1),
)
