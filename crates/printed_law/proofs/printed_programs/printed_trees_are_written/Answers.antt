use Rattle.printed_law.proofs.Printed.{Printing, written_again}
use Rattle.printed_law.proofs.printed_programs.printed_trees_are_written.Goals as goal

pub returns : goal.returns
returns c =
    let laws : Printing = record {
      spelled = c.tokens_are_spelled.ensures;
      tokens_of = c.reads_back.ensures.tokens;
      tree_of = c.reads_back.ensures.tree;
      checked = c.trees_are_checked_alike.ensures;
      stacks = c.stacks_are_in_limits.ensures;
    } in
    written_again laws
