use Rattle.table_format.specs.Program.{table_text}
use Rattle.table_law.proofs.program_law.table_text_is_program.Goals as goal

pub returns-clause-program : goal.returns-clause-program
returns-clause-program c t is some g grown = record {
  tree = grown;
  checked = c.table_is_checked.ensures t is some g (record { text = table_text t; toks = grown.toks; listed = grown.listed; reads = grown.grown }) (c.table_tree.ensures.only t is g grown);
}

pub returns-clause-faultless : goal.returns-clause-faultless
returns-clause-faultless c t is some number place fault =
    let tree = c.table_tree.ensures.tree t is in
    c.program_or_fault.ensures (table_text t) tree.tree number place
    (record {
      tree = tree.grown;
      checked = c.table_is_checked.ensures t is some tree.tree (record { text = table_text t; toks = tree.grown.toks; listed = tree.grown.listed; reads = tree.grown.grown }) tree.same;
    }) fault
