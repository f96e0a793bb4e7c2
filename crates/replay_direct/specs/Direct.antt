-- What a process does next where no run is needed to know it.
use Rattle.std.specs.Prelude.{List, [], ◌∷◌}
use Rattle.syntax_tree.specs.Placed.{placed_stmts, plain_stmts}
use Rattle.syntax_tree.specs.Plain.{Stmts}
use Rattle.source_semantics.specs.Next.{Next}
use Rattle.source_semantics.specs.Run as run
use Rattle.source_semantics.specs.Store.{Vars}
use Rattle.replay_state.specs.View.{next_of}
use Rattle.replay_direct.specs.declared.direct.DirectAction as code_direct
use Rattle.replay_direct.specs.declared.direct.DirectAction.TheVariants as direct_is
use Rattle.replay_direct.specs.declared.found.FoundAction as code_found
use Rattle.replay_direct.specs.declared.found.FoundAction.TheVariants as found_is

-- these statements stand in place of the first item
abbrev pub items_from : Stmts → List run.Item → List run.Item
items_from ss [] = []
items_from ss (i ∷ is) = run.do_all ss ∷ is

-- the same in the innermost call
abbrev pub calls_from : Stmts → List run.Call → List run.Call
calls_from ss [] = []
calls_from ss (call ∷ outer) = record { home = call.home; own = call.own; rest = items_from ss call.rest } ∷ outer

-- the memory of a call without variables of its own
abbrev pub memory_beside : Vars → Vars → run.Memory
memory_beside process monitor = record { own = []; process = process; monitor = monitor }

-- the next action from these calls in progress, over these variables of the process and of the
-- monitor that it is inside
abbrev pub direct_next : code_direct.DirectAction → List run.Call → Vars → Vars → Next
direct_next (direct_is.Puts d v ss) calls process monitor = record {
  action = run.puts d v;
  calls = calls_from (plain_stmts (placed_stmts ss.now)) calls;
  process = process;
  monitor = monitor;
}
direct_next direct_is.Ends calls process monitor = record { action = run.ends; calls = []; process = process; monitor = monitor }

-- the same, where it came of a run or was known without one
abbrev pub found_next : code_found.FoundAction → List run.Call → Vars → Vars → Next
found_next (found_is.Direct d) calls process monitor = direct_next d calls process monitor
found_next (found_is.Ran n) calls process monitor = next_of n
