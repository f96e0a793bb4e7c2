use Rattle.std.proofs.Common.{◌≡◌, ◌∙◌, length, map, sym, refl}
use Rattle.std.proofs.lemmas.List.{length-map}
use Rattle.image.specs.Raw.{monitor_of, process_of}
use Rattle.image_reader.proofs.Assembled.{names_framed}
use Rattle.image_reader.proofs.Zips.{firsts, seconds}
use Rattle.image_reader.proofs.whole_image.assemble.Goals as goal

pub returns-in-Ok-clause-parts : goal.returns-in-Ok-clause-parts
returns-in-Ok-clause-parts c =
    let raw = c.with_events.ensures in
    rw (raw.overhead, raw.program, raw.devices, raw.events, raw.monitor_names, raw.monitors, raw.conditions, raw.routines, raw.process_names, raw.processes, raw.code, c.in-Ok.ensures, c.as_slice.ensures, c.as_slice-processes.ensures)
    (rw (names_framed 0 c.args.named.events (map process_of c.args.named.guarded.work.processes.things)) refl)

pub returns-in-Ok-clause-image : goal.returns-in-Ok-clause-image
returns-in-Ok-clause-image c =
    let raw = c.with_events.ensures in
    let g = c.args.named.guarded in
    let ps = map process_of g.work.processes.things in
    let ms = map monitor_of g.monitors.things in
    let each_process : length g.work.processes.names ≡ length ps = c.requires.each_process ∙ sym (length-map g.work.processes.things process_of) in
    let each_monitor : length g.monitors.names ≡ length ms = c.requires.each_monitor ∙ sym (length-map g.monitors.things monitor_of) in
    rw (raw.overhead, raw.program, raw.devices, raw.events, raw.monitor_names, raw.monitors, raw.conditions, raw.routines, raw.process_names, raw.processes, raw.code, c.in-Ok.ensures, c.as_slice.ensures, c.as_slice-processes.ensures)
    (rw (names_framed 0 c.args.named.events ps, firsts g.work.processes.names ps each_process, seconds g.work.processes.names ps each_process, firsts g.monitors.names ms each_monitor, seconds g.monitors.names ms each_monitor) refl)
