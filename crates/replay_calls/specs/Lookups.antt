-- What contracts see of the code's lookups.
use Rattle.syntax_tree.specs.Placed.{placed_routine, plain_routine}
use Rattle.source_semantics.specs.Run as run
use Rattle.replay_calls.specs.declared.lookup.ResolvedRoutine as code_found
use Rattle.replay_calls.specs.Seen.{home_of}

abbrev pub found_of : code_found.ResolvedRoutine → run.Found
found_of f = record { home = home_of f.home; routine = plain_routine (placed_routine f.routine.now) }
