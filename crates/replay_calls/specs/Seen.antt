-- What contracts see of the code's homes and answers.
use Rattle.std.specs.Prelude.{Option, Some, None, ℤ}
use Rattle.base.specs.Words as w
use Rattle.source_semantics.specs.Run as run
use Rattle.replay_calls.specs.declared.lookup.RoutineHome as code_home
use Rattle.replay_calls.specs.declared.lookup.RoutineHome.TheVariants as home_is
use Rattle.replay_calls.specs.declared.words.Answer as code_answer
use Rattle.replay_calls.specs.declared.words.Answer.TheVariants as answer_is

abbrev pub home_of : code_home.RoutineHome → run.Home
home_of home_is.Program = run.of_program
home_of home_is.Process = run.of_process
home_of (home_is.Monitor m) = run.of_monitor m

abbrev pub answer_of : code_answer.Answer → w.Answer
answer_of (answer_is.Word v) = w.word v
answer_of (answer_is.Raised n) = w.raised n

-- a number that may be too large for the code is no word
abbrev pub value_in : Option ℤ → w.Answer
value_in None = w.raised 1
value_in (Some v) = w.in_word v
