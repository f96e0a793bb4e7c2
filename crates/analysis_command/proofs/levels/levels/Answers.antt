use Rattle.std.proofs.Common.{sym, subst}
use Rattle.syntax_tree.specs.Placed.{placed, plain}
use Rattle.syntax_tree.specs.declared.decl.Program.{Program as Tree}
use Rattle.image.specs.Raw.{image_of}
use Rattle.analysis_command.specs.Analysed.{AreLevels, IsAnalysed}
use Rattle.analysis_command.specs.Graphs.{IsCallGraph}
use Rattle.analysis_command.proofs.Shape as shape
use Rattle.analysis_command.proofs.levels.levels.Goals as goal

pub task_set-requires-clause-limits : goal.task_set-requires-clause-limits
task_set-requires-clause-limits c = c.requires.image.limits

pub task_set-requires-clause-ranks : goal.task_set-requires-clause-ranks
task_set-requires-clause-ranks c = shape.none (placed c.args.program.now) c.args.image.now.overhead c.args.image.now c.requires.image

pub all_levels-requires : goal.all_levels-requires
all_levels-requires c =
    let g = placed c.args.program.now in
    subst (λ (t : Tree). IsAnalysed (placed t) c.args.image.now c.in_ok-graph.graph c.in_ok-set.set) (sym c.in_ok-numbering.ensures)
    (record {
      ranked = c.requires.image;
      text = shape.image_of_text c.checked_programs_are_ready.ensures c.generated_code_is_code.ensures g c.args.image.now.overhead c.args.image.now c.requires.checked c.requires.image;
      calls = subst (λ (t : Tree). IsCallGraph (plain (placed t)) (image_of c.args.image.now) c.in_ok-graph.graph) c.in_ok-numbering.ensures c.in_ok-graph.ensures;
      is = c.in_ok-set.ensures;
      are = c.tasks_are_of_the_text.ensures g c.args.image.now.overhead (image_of c.args.image.now) c.requires.checked c.requires.image.fits c.requires.image.shaped;
    })

pub returns : goal.returns
returns c = subst (λ (t : Tree). AreLevels (placed t) c.args.image.now c.in_ok-levels.levels) c.in_ok-numbering.ensures c.in_ok-levels.ensures
