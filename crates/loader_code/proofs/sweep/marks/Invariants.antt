use Rattle.std.proofs.Common.{◌≡◌, ◌<◌, ℕ, length, get_or, None, drop}
use Rattle.loader_code.specs.Owned.{last_start}
use Rattle.loader_code.proofs.sweep.marks.Given as goal

abbrev pub invariant-loop-number : goal.invariant-loop-number
invariant-loop-number l = record {
  one_each : length l.all.items ≡ l.length;
  each : (a : ℕ) → a < l.length → get_or l.all.items a None ≡ last_start (drop l.number l.starts) l.number a;
}
