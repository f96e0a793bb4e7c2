use Rattle.std.proofs.Common.{ap}
use Rattle.syntax_printer.specs.Canonical.{canonical}
use Rattle.table_format.specs.Program.{table_text}
use Rattle.table_law.proofs.written_law.table_text_is_written.Goals as goal

pub returns : goal.returns
unfolding table_text
returns c t is some =
    let found = c.table_tree.ensures.tree t is in
    record {
      tree = found.tree;
      written = record {
        program = c.table_text_is_program.ensures.program t is some found.tree found.grown;
        fits = c.table_keeps_sizes.ensures t is found.tree found.same;
      };
      same = found.same;
      spelled = c.table_tree.ensures.canonical t is found.tree found.grown;
      printed = ap canonical found.same;
    }
