use Rattle.std.proofs.Common.{List, ℕ, subst}
use Rattle.syntax_tree.specs.Placed.{placed}
use Rattle.command_due.specs.Source.{IsWritten}
use Rattle.analysis_command.proofs.texts.bounds_of_text.Goals as goal

pub judged_bounds-requires : goal.judged_bounds-requires
judged_bounds-requires g c = (c.requires.1, subst (λ (t : List ℕ). IsWritten t (placed c.in_ok-program.program)) c.requires.0 c.in_ok-program.ensures)
