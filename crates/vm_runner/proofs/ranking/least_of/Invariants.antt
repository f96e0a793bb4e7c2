use Rattle.std.proofs.Common.{◌≡◌, ◌≤◌, drop}
use Rattle.std.specs.Prelude.{min}
use Rattle.vm_runner.specs.Ranking.{least_of, nobody}
use Rattle.vm_runner.proofs.ranking.least_of.Given as goal

abbrev pub invariant-loop-precedence : goal.invariant-loop-precedence
invariant-loop-precedence l = record {
  so_far : least_of l.precedences ≡ min l.least (least_of (drop l.precedence-index l.precedences));
  low : l.least ≤ nobody;
}
