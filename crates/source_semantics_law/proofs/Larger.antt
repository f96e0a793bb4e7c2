-- Larger programs with their logs: each log is a run of its program.
use Rattle.std.specs.Prelude.{[], ◌∷◌}
use Rattle.std.proofs.Common.{refl}
use Rattle.source_semantics.specs.Ranks.{reached}
use Rattle.source_semantics.specs.Next.{calls_to}
use Rattle.source_semantics.specs.Starts.{due}
use Rattle.source_semantics.specs.Source.{IsSourceRun}
use Rattle.source_semantics_law.proofs.Plays.{begins, acts_at, is_run}
use Rattle.source_semantics_law.specs.Example.{long_wait, long_wait_log, long_wait_script, mine, mine_log, mine_script, mine_woken, mine_woken_log, mine_woken_script, two_waiters, two_waiters_log, two_waiters_script}

pub mine_runs : IsSourceRun mine mine_script mine_log
unfolding due calls_to reached
mine_runs = is_run mine mine_script (begins 0 ∷ begins 0 ∷ begins 0 ∷ begins 0 ∷ begins 0 ∷ acts_at 9 0 ∷ acts_at 30 0 ∷ acts_at 43 0 ∷ acts_at 63 0 ∷ acts_at 76 0 ∷ acts_at 79 0 ∷ acts_at 87 0 ∷ []) mine_log refl

pub long_wait_runs : IsSourceRun long_wait long_wait_script long_wait_log
unfolding due calls_to reached
long_wait_runs = is_run long_wait long_wait_script (begins 0 ∷ begins 0 ∷ begins 0 ∷ acts_at 10 0 ∷ acts_at 22 0 ∷ acts_at 30 0 ∷ acts_at 41 1 ∷ acts_at 47 1 ∷ begins 60 ∷ acts_at 70 0 ∷ acts_at 82 0 ∷ acts_at 90 0 ∷ acts_at 94 2 ∷ acts_at 106 2 ∷ begins 120 ∷ acts_at 130 0 ∷ acts_at 142 0 ∷ acts_at 150 0 ∷ acts_at 162 2 ∷ acts_at 174 2 ∷ begins 180 ∷ acts_at 190 0 ∷ begins 198 ∷ acts_at 202 0 ∷ acts_at 210 0 ∷ acts_at 214 1 ∷ acts_at 234 2 ∷ begins 240 ∷ acts_at 246 2 ∷ acts_at 257 0 ∷ acts_at 269 0 ∷ acts_at 277 0 ∷ []) long_wait_log refl

pub mine_woken_runs : IsSourceRun mine_woken mine_woken_script mine_woken_log
unfolding due calls_to reached
mine_woken_runs = is_run mine_woken mine_woken_script (begins 0 ∷ begins 0 ∷ begins 0 ∷ begins 0 ∷ begins 0 ∷ begins 0 ∷ acts_at 9 0 ∷ acts_at 30 0 ∷ acts_at 43 0 ∷ acts_at 63 0 ∷ acts_at 76 0 ∷ acts_at 79 0 ∷ acts_at 87 0 ∷ acts_at 100 1 ∷ acts_at 110 1 ∷ acts_at 114 1 ∷ acts_at 130 2 ∷ acts_at 140 2 ∷ acts_at 150 2 ∷ acts_at 170 2 ∷ acts_at 180 3 ∷ acts_at 190 3 ∷ acts_at 200 4 ∷ acts_at 500 4 ∷ acts_at 510 5 ∷ acts_at 520 5 ∷ acts_at 523 5 ∷ acts_at 530 3 ∷ acts_at 540 3 ∷ acts_at 560 3 ∷ acts_at 565 3 ∷ acts_at 580 5 ∷ acts_at 590 5 ∷ []) mine_woken_log refl

pub two_waiters_runs : IsSourceRun two_waiters two_waiters_script two_waiters_log
unfolding due calls_to reached
two_waiters_runs = is_run two_waiters two_waiters_script (begins 0 ∷ begins 0 ∷ acts_at 10 0 ∷ acts_at 16 0 ∷ acts_at 20 1 ∷ acts_at 30 1 ∷ begins 100 ∷ acts_at 110 2 ∷ acts_at 120 2 ∷ acts_at 125 2 ∷ acts_at 130 2 ∷ acts_at 135 2 ∷ acts_at 140 2 ∷ acts_at 150 0 ∷ acts_at 155 0 ∷ acts_at 160 0 ∷ acts_at 165 0 ∷ acts_at 170 2 ∷ acts_at 180 2 ∷ acts_at 185 2 ∷ acts_at 190 2 ∷ acts_at 195 2 ∷ acts_at 200 2 ∷ acts_at 205 2 ∷ acts_at 210 1 ∷ acts_at 215 1 ∷ acts_at 220 1 ∷ acts_at 225 1 ∷ acts_at 230 2 ∷ acts_at 240 2 ∷ []) two_waiters_log refl
