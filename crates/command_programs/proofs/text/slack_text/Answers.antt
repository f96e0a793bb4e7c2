use Rattle.std.proofs.Common.{◌≡◌, ◌∙◌, List, length, subst, sym, arith}
use Rattle.std.proofs.lemmas.List.{length-map}
use Rattle.image.specs.Raw.{image_of, named_of, process_of}
use Rattle.sched_response.specs.declared.tasks.Task.{Task}
use Rattle.valid_image.specs.Valid.{Ranks}
use Rattle.command_programs.specs.Levels.{AreTimelyTasks}
use Rattle.command_programs.proofs.Growing.{all_lines, no_lines, one_line}
use Rattle.command_programs.proofs.Ranks.{timely_tasks}
use Rattle.command_programs.proofs.text.slack_text.Goals as goal

pub task_set-requires-clause-ranks : goal.task_set-requires-clause-ranks
task_set-requires-clause-ranks c = c.requires.valid Ranks

pub loop-number-init : goal.loop-number-init
loop-number-init c = record {
  tasks = timely_tasks c.valid_meets_premises.ensures (image_of c.args.image.now) c.requires.limits c.requires.valid c.in_ok-set.set c.in_ok-set.ensures;
  told = no_lines (named_of c.args.image.now) c.new-text.result c.new-text.ensures;
}

pub loop-number-preserved : goal.loop-number-preserved
loop-number-preserved c = record {
  tasks = subst (λ (us : List Task). AreTimelyTasks (image_of c.args.image.now) us) (sym c.in_ok-add_process.ensures.kept) c.loop-number.invariant.tasks;
  told = one_line (named_of c.args.image.now) c.loop-number.number c.loop-number.text c.add_process.new.text c.in_ok-add_process.ensures.line c.loop-number.invariant.told;
}

pub returns : goal.returns
returns c =
    let past : c.loop-number.number ≡ length c.args.image.now.processes = omega arith in
    all_lines (named_of c.args.image.now) c.loop-number.number c.loop-number.text (past ∙ sym (length-map c.args.image.now.processes process_of)) c.loop-number.invariant.told
