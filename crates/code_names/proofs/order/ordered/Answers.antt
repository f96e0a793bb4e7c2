use Rattle.std.proofs.Common.{◌∙◌, ap, sym, [], ◌++◌, length}
use Rattle.syntax_tree.specs.Placed.{placed, plain}
use Rattle.code_spec.specs.Numbering.{visit_texts}
use Rattle.code_names.specs.declared.order.Task.{Task}
use Rattle.code_names.specs.Tasks.{after_task, after_tasks}
use Rattle.code_names.specs.Texts.{texts_of}
use Rattle.code_names.proofs.NumberingTable.{texts-append, texts-length}
use Rattle.code_names.proofs.Tasks.{visits, all-visits, last-first}
use Rattle.code_names.proofs.Visiting.{numbered-is}
use Rattle.code_names.proofs.order.ordered.Goals as goal

pub loop-task-init : goal.loop-task-init
loop-task-init c =
    let g = plain (placed c.args.directory.now) in
    let depth = c.len.result in
    let items = c.as_slice.result.now in
    let tasks = c.list_visits.new.tasks.items in
    ap (λ l. after_tasks g tasks (texts_of l)) c.new-order.ensures
    ∙ all-visits g depth items tasks [] (c.in_ok-list_visits.ensures ∙ ap (λ l. l ++ visits depth items) c.new-tasks.ensures.items)
    ∙ ap (λ l. visit_texts depth g [] (texts_of l)) c.as_slice.ensures ∙ ap (visit_texts depth g []) c.texts-texts.ensures
    ∙ numbered-is depth g (c.len.ensures ∙ sym (texts-length c.texts-texts.result.now) ∙ ap length c.texts-texts.ensures)

pub loop-task-preserved-in-Continue-branch-2 : goal.loop-task-preserved-in-Continue-branch-2
loop-task-preserved-in-Continue-branch-2 c =
    let g = plain (placed c.args.directory.now) in
    let left = c.pop.new.self.items in
    let done = texts_of c.loop-task.order in
    c.in_ok-visit-in-Visit.ensures.visits
    ∙ ap (λ (task : Task). after_tasks g left (after_task g task done)) (sym c.in-Visit.is)
    ∙ sym (last-first g c.loop-task.tasks.items left c.in-Some.task done c.in-Some.ensures.items) ∙ c.loop-task.invariant

pub loop-task-preserved : goal.loop-task-preserved
loop-task-preserved c =
    let g = plain (placed c.args.directory.now) in
    let left = c.pop.new.self.items in
    let done = texts_of c.loop-task.order in
    ap (λ l. after_tasks g left (texts_of l)) c.in_ok-push-in-Number.ensures ∙ ap (after_tasks g left) (texts-append c.loop-task.order c.in-Number.text)
    ∙ ap (λ (task : Task). after_tasks g left (after_task g task done)) (sym c.in-Number.is)
    ∙ sym (last-first g c.loop-task.tasks.items left c.in-Some.task done c.in-Some.ensures.items) ∙ c.loop-task.invariant
