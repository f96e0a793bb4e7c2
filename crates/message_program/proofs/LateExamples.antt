-- The messages for a program with one process, which is late.
use Rattle.std.proofs.Common.{refl}
use Rattle.std.specs.Prelude.{◌≡◌, [], ◌∷◌, None, codes}
use Rattle.std.specs.Fmt.{digits}
use Rattle.image.specs.declared.names.ImageNames.{ImageNames}
use Rattle.sched_demand.specs.declared.judging.Judgement.TheVariants.{Late}
use Rattle.sched_table.specs.declared.table.Table.{Table}
use Rattle.message_program.specs.Late.{demand_message, late_message}

pub names : ImageNames
names = record { processes = codes "q" ∷ []; monitors = []; conditions = []; devices = []; events = [] }

pub table : Table
table = record {
  rows = record { frame = 60; deadline = 50; rank = 1; cost = record { run = 70; susp = 0; waits = 0 }; block = 0; bound = None; size = record { words = 0; stack = 1 } } ∷ [];
  ceilings = [];
  monitor_words = [];
  code = 9;
}

-- with an overhead of 12 ticks
pub no_bound : late_message (codes "P") 12 names table ≡ codes "P: untimely: the process `q` has no bound within its deadline of 50 ticks\nrte: `rte why P 12` takes the bounds apart; `rte fit P 12` tells what would fit\n"
unfolding late_message names table digits
no_bound = refl

-- one tick more may be needed than there is
pub one_more : demand_message (codes "P") (Late 41 40 41) ≡ codes "P: late: within 40 ticks the processes may need 41 ticks\n"
unfolding demand_message digits
one_more = refl

-- more than a number of the report may be is a word
pub above_most : demand_message (codes "P") (Late 7 1000000000 1000000001) ≡ codes "P: late: within 1000000000 ticks the processes may need over ticks\n"
unfolding demand_message digits
above_most = refl

-- no row lacks a bound
pub none_late : late_message (codes "P") 0 names (record table { rows = [] }) ≡ codes "P: untimely: a process has no bound within its deadline\nrte: `rte why P` takes the bounds apart; `rte fit P` tells what would fit\n"
unfolding late_message names table
none_late = refl
