use Rattle.std.proofs.Common.{◌<◌, ◌+◌, ◌++◌, ◌∙◌, ℕ, List, [], length, map, ap, subst, arith}
use Rattle.std.specs.Prelude.{slice_index_or}
use Rattle.image.specs.Raw.{image_of, process_of}
use Rattle.image.specs.declared.raw.RawProcess.{RawProcess}
use Rattle.sched_response.specs.declared.tasks.Task.{Task}
use Rattle.sched_sensitivity.specs.Slack.{with_more}
use Rattle.command_due.specs.Lines.{slack_line, AreLeastBounds}
use Rattle.valid_image.specs.Tasks.{with_rank as index_of_rank}
use Rattle.command_programs.proofs.Growing.{added, then_ok}
use Rattle.command_programs.proofs.Ranks.{level_kept, level_there, levels_kept, process_there, room_kept, timely_kept}
use Rattle.command_programs.proofs.text.add_process.Goals as goal

pub spare_of-spare-requires-clause-level : goal.spare_of-spare-requires-clause-level
spare_of-spare-requires-clause-level c =
    level_there c.args.image.now c.args.set.now c.as_slice-processes.result.now c.args.number c.level_of-level.result c.index-processes-number.result c.requires.tasks
    c.as_slice-processes.ensures c.requires.there c.index-processes-number.is c.level_of-level.ensures

pub bounds_with-requires-clause-level : goal.bounds_with-requires-clause-level
bounds_with-requires-clause-level c =
    level_kept (image_of c.args.image.now) c.args.set.now c.spare_of-spare.new.set c.spare_of-spare.ensures.kept c.requires.tasks c.level_of-level.result
    (level_there c.args.image.now c.args.set.now c.as_slice-processes.result.now c.args.number c.level_of-level.result c.index-processes-number.result c.requires.tasks
    c.as_slice-processes.ensures c.requires.there c.index-processes-number.is c.level_of-level.ensures)

pub bounds_with-requires-clause-room : goal.bounds_with-requires-clause-room
bounds_with-requires-clause-room c =
    room_kept (image_of c.args.image.now) c.args.set.now c.spare_of-spare.new.set c.spare_of-spare.ensures.kept c.requires.tasks c.level_of-level.result
    (level_there c.args.image.now c.args.set.now c.as_slice-processes.result.now c.args.number c.level_of-level.result c.index-processes-number.result c.requires.tasks
    c.as_slice-processes.ensures c.requires.there c.index-processes-number.is c.level_of-level.ensures)
    c.spare_of-spare.result.extra c.spare_of-spare.ensures.spare.extra.fits

pub bounds_with-requires-clause-timely : goal.bounds_with-requires-clause-timely
bounds_with-requires-clause-timely c =
    timely_kept c.args.set.now c.spare_of-spare.new.set c.spare_of-spare.ensures.kept c.level_of-level.result c.spare_of-spare.result.extra c.spare_of-spare.ensures.spare.extra.fits

pub bounds_with-requires-clause-levels : goal.bounds_with-requires-clause-levels
bounds_with-requires-clause-levels c =
    levels_kept (image_of c.args.image.now) c.args.set.now c.spare_of-spare.new.set c.spare_of-spare.ensures.kept c.requires.tasks (map process_of c.as_slice-processes.result.now)
    (ap (λ (ps : List RawProcess). map process_of ps) c.as_slice-processes.ensures)

pub returns-clause-line : goal.returns-clause-line
returns-clause-line c = then_ok c.add_line.result _ _ c.add_line.ensures (λ grown.
    let image = c.args.image.now in
    let p = c.index-processes-number.result in
    let spare = c.spare_of-spare.result in
    let level = c.level_of-level.result in
    let low : c.args.number < length c.as_slice-processes.result.now = omega (arith, c.requires.there, ap (λ (xs : List RawProcess). length xs) c.as_slice-processes.ensures) in
    added image c.args.set.now c.args.number level c.with_rank-failing.result p spare c.in_ok-bounds.bounds c.name_at.result.now c.name_at-2.result.now c.args.text.now c.add_line.new.text
    (process_there image c.as_slice-processes.result.now c.args.number p c.as_slice-processes.ensures low c.index-processes-number.is)
    c.requires.tasks.is c.level_of-level.ensures c.spare_of-spare.ensures.spare
    (subst (λ (us : List Task). AreLeastBounds (map process_of image.processes) (with_more us level spare.extra) c.in_ok-bounds.bounds) c.spare_of-spare.ensures.kept
    (subst (λ (ps : List RawProcess). AreLeastBounds (map process_of ps) (with_more c.spare_of-spare.new.set level spare.extra) c.in_ok-bounds.bounds) c.as_slice-processes.ensures c.in_ok-bounds.ensures.bounds))
    (c.name_at.ensures ∙ ap (λ (ns : List (List ℕ)). slice_index_or ns c.args.number []) c.as_slice-names.ensures)
    (c.with_rank-failing.ensures ∙ ap (λ (ps : List RawProcess). index_of_rank (spare.fails + 1) 0 (map process_of ps)) c.as_slice-processes.ensures)
    (c.name_at-2.ensures ∙ ap (λ (ns : List (List ℕ)). slice_index_or ns c.with_rank-failing.result []) c.as_slice-names.ensures)
    (grown ∙ ap (λ (bs : List ℕ). c.args.text.now ++ slack_line c.name_at.result.now spare.extra bs c.name_at-2.result.now) c.as_slice.ensures))
