use Rattle.std.proofs.Common.{◌≡◌, ◌<◌, ℕ, length}
use Rattle.syntax_tree.specs.Placed.{placed}
use Rattle.sched_sections.specs.Levels.{level_at}
use Rattle.analysis_command.specs.Analysed.{IsLevel}
use Rattle.analysis_command.proofs.levels.all_levels.Given as goal

abbrev pub invariant-loop-number : goal.invariant-loop-number
invariant-loop-number l = record {
  one_each : length l.all ≡ l.number;
  each : (level : ℕ) → level < l.number → IsLevel (placed l.numbering) l.image level (level_at l.all level);
}
