-- Logs that are no run of their program.
use Rattle.std.specs.Prelude.{◌≡◌, true, false, is_some, [], ◌∷◌, pos}
use Rattle.std.proofs.Common.{refl, ap}
use Rattle.base.specs.declared.event.Act.TheVariants as act
use Rattle.source_semantics.specs.Ranks.{reached}
use Rattle.source_semantics.specs.Next.{calls_to}
use Rattle.source_semantics.specs.Starts.{due}
use Rattle.source_semantics.specs.Source.{IsSourceRun, first_end}
use Rattle.source_semantics_law.proofs.Replays.{no_run, other_run}
use Rattle.source_semantics_law.specs.ByDeadline.{by_deadline, by_deadline_script, shorter_frame_first_log}
use Rattle.source_semantics_law.specs.Example.{at, late_signal, one_put, raise_inside, two_waiters}
use Rattle.source_semantics_law.specs.NoRun.{before_occupant_log, ends_early_log, last_signalled_log, out_of_order_log, overrun_log, release_missing_log, released_twice_log, signal_late_log, time_out_late_log, until}

pub ends_early_is_none : IsSourceRun one_put (until 15) ends_early_log → ⊥
unfolding due calls_to reached
ends_early_is_none h = other_run one_put (until 15) ends_early_log (at 0 0 act.Release ∷ at 5 0 (act.Put 0 (pos 7)) ∷ []) refl (λ e. let b : false ≡ true = ap (λ l. is_some (first_end 0 l)) e in absurd cc) h

pub released_twice_is_none : IsSourceRun one_put (until 15) released_twice_log → ⊥
unfolding due calls_to reached
released_twice_is_none h = no_run one_put (until 15) released_twice_log refl h

pub release_missing_is_none : IsSourceRun one_put (until 16) release_missing_log → ⊥
unfolding due calls_to reached
release_missing_is_none h = no_run one_put (until 16) release_missing_log refl h

pub overrun_is_none : IsSourceRun one_put (until 16) overrun_log → ⊥
unfolding due calls_to reached
overrun_is_none h = no_run one_put (until 16) overrun_log refl h

pub time_out_late_is_none : IsSourceRun late_signal (until 100) time_out_late_log → ⊥
unfolding due calls_to reached
time_out_late_is_none h = no_run late_signal (until 100) time_out_late_log refl h

pub signal_late_is_none : IsSourceRun late_signal (until 100) signal_late_log → ⊥
unfolding due calls_to reached
signal_late_is_none h = no_run late_signal (until 100) signal_late_log refl h

pub before_occupant_is_none : IsSourceRun late_signal (until 100) before_occupant_log → ⊥
unfolding due calls_to reached
before_occupant_is_none h = no_run late_signal (until 100) before_occupant_log refl h

pub out_of_order_is_none : IsSourceRun raise_inside (until 50) out_of_order_log → ⊥
unfolding due calls_to reached
out_of_order_is_none h = no_run raise_inside (until 50) out_of_order_log refl h

pub last_signalled_is_none : IsSourceRun two_waiters (until 300) last_signalled_log → ⊥
unfolding due calls_to reached
last_signalled_is_none h = no_run two_waiters (until 300) last_signalled_log refl h

pub shorter_frame_first_is_none : IsSourceRun by_deadline by_deadline_script shorter_frame_first_log → ⊥
unfolding due calls_to reached
shorter_frame_first_is_none h = no_run by_deadline by_deadline_script shorter_frame_first_log refl h
