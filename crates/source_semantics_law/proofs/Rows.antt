-- Programs with their logs: each log is a run of its program.
use Rattle.std.specs.Prelude.{[], ◌∷◌}
use Rattle.std.proofs.Common.{refl}
use Rattle.source_semantics.specs.Ranks.{reached}
use Rattle.source_semantics.specs.Next.{calls_to}
use Rattle.source_semantics.specs.Starts.{due}
use Rattle.source_semantics.specs.Source.{IsSourceRun}
use Rattle.source_semantics_law.proofs.Plays.{begins, acts_at, is_run}
use Rattle.source_semantics_law.specs.ByDeadline.{by_deadline, by_deadline_log, by_deadline_script}
use Rattle.source_semantics_law.specs.Example.{by_event, by_event_log, by_event_script, handled_range, handled_range_log, handled_range_script, late_signal, late_signal_log, late_signal_script, least_word, least_word_log, least_word_script, loop_and_function, loop_and_function_log, loop_and_function_script, one_put, one_put_log, one_put_script, overflow, overflow_log, overflow_script, raise_inside, raise_inside_log, raise_inside_script, signalled_wait, signalled_wait_log, signalled_wait_script, three_ranks, three_ranks_log, three_ranks_script}

pub one_put_runs : IsSourceRun one_put one_put_script one_put_log
unfolding due calls_to reached
one_put_runs = is_run one_put one_put_script (begins 0 ∷ acts_at 10 0 ∷ acts_at 14 0 ∷ []) one_put_log refl

pub three_ranks_runs : IsSourceRun three_ranks three_ranks_script three_ranks_log
unfolding due calls_to reached
three_ranks_runs = is_run three_ranks three_ranks_script (begins 0 ∷ acts_at 10 0 ∷ begins 12 ∷ begins 14 ∷ acts_at 24 2 ∷ acts_at 28 2 ∷ acts_at 37 0 ∷ acts_at 48 1 ∷ acts_at 60 1 ∷ acts_at 68 1 ∷ acts_at 76 0 ∷ []) three_ranks_log refl

pub signalled_wait_runs : IsSourceRun signalled_wait signalled_wait_script signalled_wait_log
unfolding due calls_to reached
signalled_wait_runs = is_run signalled_wait signalled_wait_script (begins 0 ∷ acts_at 10 0 ∷ acts_at 16 0 ∷ begins 31 ∷ acts_at 41 1 ∷ acts_at 46 1 ∷ acts_at 49 1 ∷ acts_at 53 0 ∷ acts_at 56 0 ∷ acts_at 64 0 ∷ acts_at 72 1 ∷ []) signalled_wait_log refl

pub late_signal_runs : IsSourceRun late_signal late_signal_script late_signal_log
unfolding due calls_to reached
late_signal_runs = is_run late_signal late_signal_script (begins 0 ∷ acts_at 10 0 ∷ acts_at 16 0 ∷ begins 32 ∷ acts_at 42 1 ∷ begins 47 ∷ acts_at 47 1 ∷ acts_at 50 1 ∷ acts_at 61 0 ∷ acts_at 65 0 ∷ acts_at 73 1 ∷ []) late_signal_log refl

pub raise_inside_runs : IsSourceRun raise_inside raise_inside_script raise_inside_log
unfolding due calls_to reached
raise_inside_runs = is_run raise_inside raise_inside_script (begins 0 ∷ begins 0 ∷ acts_at 10 0 ∷ acts_at 14 0 ∷ acts_at 18 0 ∷ acts_at 29 1 ∷ acts_at 32 1 ∷ acts_at 40 1 ∷ []) raise_inside_log refl

pub handled_range_runs : IsSourceRun handled_range handled_range_script handled_range_log
unfolding due calls_to reached
handled_range_runs = is_run handled_range handled_range_script (begins 0 ∷ acts_at 3 0 ∷ acts_at 14 0 ∷ acts_at 18 0 ∷ []) handled_range_log refl

pub overflow_runs : IsSourceRun overflow overflow_script overflow_log
unfolding due calls_to reached
overflow_runs = is_run overflow overflow_script (begins 0 ∷ acts_at 3 0 ∷ acts_at 7 0 ∷ []) overflow_log refl

pub least_word_runs : IsSourceRun least_word least_word_script least_word_log
unfolding due calls_to reached
least_word_runs = is_run least_word least_word_script (begins 0 ∷ acts_at 20 0 ∷ acts_at 24 0 ∷ []) least_word_log refl

pub by_event_runs : IsSourceRun by_event by_event_script by_event_log
unfolding due calls_to reached
by_event_runs = is_run by_event by_event_script (begins 0 ∷ acts_at 10 0 ∷ acts_at 14 0 ∷ begins 15 ∷ acts_at 25 0 ∷ acts_at 29 0 ∷ []) by_event_log refl

pub loop_and_function_runs : IsSourceRun loop_and_function loop_and_function_script loop_and_function_log
unfolding due calls_to reached
loop_and_function_runs = is_run loop_and_function loop_and_function_script (begins 0 ∷ acts_at 20 0 ∷ acts_at 100 0 ∷ acts_at 110 0 ∷ acts_at 200 0 ∷ acts_at 220 0 ∷ acts_at 300 0 ∷ acts_at 400 0 ∷ acts_at 420 0 ∷ acts_at 430 0 ∷ []) loop_and_function_log refl

pub by_deadline_runs : IsSourceRun by_deadline by_deadline_script by_deadline_log
unfolding due calls_to reached
by_deadline_runs = is_run by_deadline by_deadline_script (begins 0 ∷ begins 0 ∷ acts_at 11 1 ∷ acts_at 15 1 ∷ acts_at 27 0 ∷ acts_at 33 0 ∷ []) by_deadline_log refl
