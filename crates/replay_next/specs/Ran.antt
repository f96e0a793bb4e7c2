-- What statements come to, as contracts see it.
use Rattle.std.specs.Prelude.{List, [], ◌∷◌, map, Option, Some, None}
use Rattle.source_semantics.specs.Run as run
use Rattle.replay_state.specs.View.{action_of, calls_of, item_of}
use Rattle.replay_next.specs.declared.results.RunResult as code_ran
use Rattle.replay_next.specs.declared.results.RunResult.TheVariants as ran_is
use Rattle.replay_next.specs.declared.visible.ConditionResult as code_test
use Rattle.replay_next.specs.declared.visible.ConditionResult.TheVariants as test_is

-- what statements come to, with the variables in reach after them
abbrev pub ran_of : code_ran.RunResult → run.Memory → run.Run
ran_of ran_is.Goes m = run.goes m
ran_of ran_is.Exits m = run.exits m
ran_of (ran_is.Fails n) m = run.fails n m
ran_of (ran_is.Stops s) m = run.stops (action_of s.action) (calls_of s.inside.items) (map item_of s.rest.items) m

-- what a choice comes to
abbrev pub tested_run : code_test.ConditionResult → run.Memory → run.Run → run.Run → run.Run
tested_run test_is.Holds m first second = first
tested_run test_is.Not m first second = second
tested_run (test_is.Raised n) m first second = run.fails n m

-- what remains of a statement whose value is still to come
abbrev pub receiving : Option run.Target → List run.Item
receiving None = []
receiving (Some t) = run.receive t ∷ []

abbrev pub listed : Option run.Item → List run.Item
listed None = []
listed (Some i) = i ∷ []
