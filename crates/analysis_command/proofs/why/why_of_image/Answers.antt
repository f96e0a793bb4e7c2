use Rattle.std.proofs.Common.{◌≤◌, ◌-◌, ◌∙◌, List, All, ap, map, subst, sym}
use Rattle.syntax_tree.specs.Placed.{placed}
use Rattle.image.specs.Raw.{process_of}
use Rattle.image.specs.declared.raw.RawProcess.{RawProcess}
use Rattle.sched_response.specs.Demand.{AreTasks}
use Rattle.sched_sections.specs.declared.levels.Level.{Level}
use Rattle.sched_sections.specs.Levels.{shown_at, tasks_in}
use Rattle.analysis_command.proofs.Apart as apart
use Rattle.analysis_command.proofs.Told as told
use Rattle.analysis_command.proofs.why.why_of_image.Goals as goal

pub bounds_text-requires-clause-tasks : goal.bounds_text-requires-clause-tasks
bounds_text-requires-clause-tasks c =
    let g = placed c.args.program.now in
    subst (λ (ls : List Level). AreTasks (tasks_in ls)) (sym c.as_slice-2.ensures)
    (apart.are_tasks g c.args.image.now.overhead c.args.image.now c.requires.image c.in_ok-levels.levels c.in_ok-levels.ensures)

pub bounds_text-requires-clause-ticks : goal.bounds_text-requires-clause-ticks
bounds_text-requires-clause-ticks c =
    let g = placed c.args.program.now in
    subst (λ (ls : List Level). All (λ l. shown_at l ≤ 1000000000) ls) (sym c.as_slice-2.ensures)
    (apart.shown_low g c.args.image.now.overhead c.args.image.now c.requires.image c.in_ok-levels.levels c.in_ok-levels.ensures)

pub bounds_text-requires-clause-order : goal.bounds_text-requires-clause-order
bounds_text-requires-clause-order c =
    let g = placed c.args.program.now in
    told.order_low c.checked_programs_are_ready.ensures c.generated_code_is_code.ensures c.tasks_are_of_the_text.ensures c.ranks_are_of_the_text.ensures c.ranks_are_of_the_meaning.ensures
    g c.args.image.now.overhead c.args.image.now c.requires.checked c.requires.image c.in_ok-levels.levels c.in_ok-levels.ensures
    c.as_slice-2.result.now c.as_slice-3.result.now c.as_slice-2.ensures (c.as_slice-3.ensures.value ∙ (c.in_ok-order.ensures ∙ ap (λ (ps : List RawProcess). map (λ p. (process_of p).rank - 1) ps) c.as_slice.ensures))

pub returns : goal.returns
returns c =
    let g = placed c.args.program.now in
    told.is_why c.checked_programs_are_ready.ensures c.generated_code_is_code.ensures c.tasks_are_of_the_text.ensures c.ranks_are_of_the_text.ensures c.ranks_are_of_the_meaning.ensures
    g c.args.image.now.overhead c.args.image.now c.requires.checked c.requires.image c.in_ok-levels.levels c.in_ok-levels.ensures
    c.as_slice-2.result.now c.as_slice-4.result.now c.as_slice-3.result.now c.in_ok-text.text c.all_bounded-in_time.result c.as_slice-2.ensures
    (c.as_slice-3.ensures.value ∙ (c.in_ok-order.ensures ∙ ap (λ (ps : List RawProcess). map (λ p. (process_of p).rank - 1) ps) c.as_slice.ensures)) c.as_slice-4.ensures
    c.in_ok-text.ensures c.all_bounded-in_time.ensures
