use Rattle.std.proofs.Common.{◌≡◌, ◌++◌, map, drop}
use Rattle.image.specs.Raw.{process_of}
use Rattle.built_image.specs.Shown.{rows_of}
use Rattle.compile_schedule.proofs.shown.rows.Given as goal

abbrev pub invariant-loop-number : goal.invariant-loop-number
invariant-loop-number l = l.all ++ rows_of (map process_of (drop l.number l.processes)) (drop l.number l.bounds) ≡ rows_of (map process_of l.processes) l.bounds
