use Rattle.std.proofs.Common.{◌∙◌, sym}
use Rattle.std.proofs.lemmas.List.{length-map}
use Rattle.image.specs.Raw.{image_of, routine_of}
use Rattle.analysis_command.proofs.Places.{found_of}
use Rattle.analysis_command.proofs.search.found.Goals as goal

pub returns : goal.returns
returns c =
    found_of (image_of c.args.image.now) c.args.graph.now c.args.rank c.args.block c.len.result c.in_ok-goals.goals.items c.in_ok-row.row.items c.as_slice-2.result.now c.as_slice-6.result.now c.as_slice.result.now
    c.as_slice-5.result.now c.ranked_below-lower.result.now c.as_slice-3.result.now c.as_slice-4.result.now c.calls_of_processes-of_processes.result.now c.first_reached.result c.as_slice.ensures.value c.in_ok-goals.ensures
    c.as_slice-2.ensures.value c.as_slice-3.ensures.value c.in_ok-row.ensures c.as_slice-6.ensures.value c.as_slice-4.ensures.value (c.len.ensures ∙ sym (length-map c.args.image.now.routines routine_of))
    c.calls_of_processes-of_processes.ensures c.as_slice-5.ensures.value c.ranked_below-lower.ensures c.first_reached.ensures
