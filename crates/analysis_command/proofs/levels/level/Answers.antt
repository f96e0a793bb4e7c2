use Rattle.std.proofs.Common.{◌+◌, ◌∙◌, [], List, ap, arith, subst, sym}
use Rattle.std.specs.Prelude.{slice_index_or}
use Rattle.syntax_tree.specs.Placed.{placed, plain}
use Rattle.sched_response.specs.declared.tasks.Task.{Task}
use Rattle.sched_program.specs.Tasks.{IsBlock}
use Rattle.sched_table.specs.Table.{IsBoundAt}
use Rattle.analysis_command.proofs.Analysed as analysed
use Rattle.analysis_command.proofs.Apart.{bound_is}
use Rattle.analysis_command.proofs.levels.level.Goals as goal

pub blocker-requires-clause-rank : goal.blocker-requires-clause-rank
blocker-requires-clause-rank c =
    let there = analysed.ranked_there c.ranks_are_of_the_meaning.ensures (placed c.args.numbering.now) c.args.image.now c.args.graph.now c.args.set.now c.requires.analysed c.args.level c.requires.there in
    omega (arith, there)

pub blocker-requires-clause-block : goal.blocker-requires-clause-block
blocker-requires-clause-block c =
    let g = placed c.args.numbering.now in
    let at = analysed.process_is c.ranks_are_of_the_meaning.ensures g c.args.image.now c.args.graph.now c.args.set.now c.requires.analysed c.args.level c.process_of-process.result c.as_slice.result.now c.requires.there c.as_slice.ensures.value c.process_of-process.ensures in
    let task = analysed.own_task c.ranks_are_of_the_meaning.ensures g c.args.image.now c.args.graph.now c.args.set.now c.requires.analysed c.args.level c.process_of-process.result c.task_at-task.result c.requires.there at c.task_at-task.ensures in
    subst (λ (t : Task). IsBlock (plain g) (c.args.level + 1) t.block) (sym task) (analysed.block_is c.ranks_are_of_the_meaning.ensures g c.args.image.now c.args.graph.now c.args.set.now c.requires.analysed c.args.level c.requires.there)

pub returns : goal.returns
returns c =
    let g = placed c.args.numbering.now in
    let at = analysed.process_is c.ranks_are_of_the_meaning.ensures g c.args.image.now c.args.graph.now c.args.set.now c.requires.analysed c.args.level c.process_of-process.result c.as_slice.result.now c.requires.there c.as_slice.ensures.value c.process_of-process.ensures in
    record {
      name = c.in_ok-name.ensures
          ∙ (c.name_of.ensures ∙ (ap (λ ns. slice_index_or ns c.process_of-process.result []) c.as_slice-2.ensures ∙ ap (λ k. slice_index_or c.args.image.now.names.processes k []) at));
      task = analysed.own_task c.ranks_are_of_the_meaning.ensures g c.args.image.now c.args.graph.now c.args.set.now c.requires.analysed c.args.level c.process_of-process.result c.task_at-task.result c.requires.there at c.task_at-task.ensures;
      bound = subst (λ (ts : List Task). IsBoundAt ts c.args.level c.bound_of-bound.result) c.requires.analysed.is
          (bound_is c.args.set.now c.args.level c.bound_of-bound.result c.bound_of-bound.ensures.some c.bound_of-bound.ensures.none);
      blocker = c.in_ok-blocker.ensures;
    }
