use Rattle.std.proofs.Common.{◌≡◌, ◌<◌, ◌^◌, ◌∙◌, [], refl, sym, length, map, subst, append-nil, All}
use Rattle.std.specs.List.{flat_map}
use Rattle.image.specs.Bytes.{Second, bytes_of, condition_bytes}
use Rattle.image.specs.InRange.{IsProcessInRange}
use Rattle.image.specs.Raw.{monitor_of, named_of, process_of, routine_of}
use Rattle.image_bytes.specs.Fields.{process_fields, routine_fields}
use Rattle.image_bytes.specs.Placing.{opening_bytes}
use Rattle.image_bytes.proofs.InstrsLemmas.{instrs_stand}
use Rattle.image_bytes.proofs.Whole.{Guarded, Released, all_handled, begun, both_same, code_on, conditions_on, guarded_in, has_end, monitors_on, monitors_written, past_conditions, past_monitors, past_opening, past_processes, past_routines, processes_on, processes_written, released_in, routines_on, routines_written, things_of}
use Rattle.image_bytes.proofs.finding.places_of.Goals as goal
use Rattle.image_reader.specs.Grammar.{monitor_format}
use Rattle.machine_isa.specs.Bytes.{HasWords}

pub after_opening-opened-requires : goal.after_opening-opened-requires
after_opening-opened-requires c =
    let raw = c.args.raw.now in
    let bytes = bytes_of Second (named_of raw) in
    let long : length bytes < 2 ^ 64 = c.requires.room in
    has_end opening_bytes bytes (monitors_on raw) 24 raw raw refl (begun raw bytes refl) long

pub monitors_from-requires-clause-room : goal.monitors_from-requires-clause-room
monitors_from-requires-clause-room c =
    let raw = c.args.raw.now in
    let bytes = bytes_of Second (named_of raw) in
    let long : length bytes < 2 ^ 64 = c.requires.room in
    let guarded : Guarded = (c.as_slice.result.now, c.as_slice-2.result.now) in
    let monitors = past_opening raw bytes c.after_opening-opened.result refl c.after_opening-opened.ensures in
    has_end monitors_written bytes (conditions_on raw) c.after_opening-opened.result guarded (guarded_in raw) (both_same c.as_slice.ensures c.as_slice-2.ensures) monitors long

pub after_conditions-called-requires : goal.after_conditions-called-requires
after_conditions-called-requires c =
    let raw = c.args.raw.now in
    let bytes = bytes_of Second (named_of raw) in
    let long : length bytes < 2 ^ 64 = c.requires.room in
    let guarded : Guarded = (c.as_slice.result.now, c.as_slice-2.result.now) in
    let monitors = past_opening raw bytes c.after_opening-opened.result refl c.after_opening-opened.ensures in
    let conditions = past_monitors raw bytes _ c.in_ok-monitors.conditions guarded (both_same c.as_slice.ensures c.as_slice-2.ensures) monitors c.in_ok-monitors.ensures.after in
    has_end (flat_map condition_bytes) bytes (routines_on raw) c.in_ok-monitors.conditions c.as_slice-3.result.now raw.names.conditions c.as_slice-3.ensures conditions long

pub routines_from-requires : goal.routines_from-requires
routines_from-requires c =
    let raw = c.args.raw.now in
    let bytes = bytes_of Second (named_of raw) in
    let long : length bytes < 2 ^ 64 = c.requires.room in
    let guarded : Guarded = (c.as_slice.result.now, c.as_slice-2.result.now) in
    let monitors = past_opening raw bytes c.after_opening-opened.result refl c.after_opening-opened.ensures in
    let conditions = past_monitors raw bytes _ c.in_ok-monitors.conditions guarded (both_same c.as_slice.ensures c.as_slice-2.ensures) monitors c.in_ok-monitors.ensures.after in
    let routines = past_conditions raw bytes _ c.after_conditions-called.result _ c.as_slice-3.ensures conditions c.after_conditions-called.ensures in
    has_end routines_written bytes (processes_on raw) c.after_conditions-called.result c.as_slice-4.result.now raw.routines c.as_slice-4.ensures routines long

pub processes_from-requires-clause-handlers : goal.processes_from-requires-clause-handlers
processes_from-requires-clause-handlers c = all_handled c.args.raw.now c.as_slice-6.result.now c.requires.limits c.as_slice-6.ensures

pub processes_from-requires-clause-in_range : goal.processes_from-requires-clause-in_range
processes_from-requires-clause-in_range c = subst (λ ps. All IsProcessInRange (map process_of ps)) (sym c.as_slice-6.ensures) c.requires.written.processes

pub processes_from-requires-clause-room : goal.processes_from-requires-clause-room
processes_from-requires-clause-room c =
    let raw = c.args.raw.now in
    let bytes = bytes_of Second (named_of raw) in
    let long : length bytes < 2 ^ 64 = c.requires.room in
    let guarded : Guarded = (c.as_slice.result.now, c.as_slice-2.result.now) in
    let released : Released = (c.as_slice-5.result.now, c.as_slice-6.result.now) in
    let monitors = past_opening raw bytes c.after_opening-opened.result refl c.after_opening-opened.ensures in
    let conditions = past_monitors raw bytes _ c.in_ok-monitors.conditions guarded (both_same c.as_slice.ensures c.as_slice-2.ensures) monitors c.in_ok-monitors.ensures.after in
    let routines = past_conditions raw bytes _ c.after_conditions-called.result _ c.as_slice-3.ensures conditions c.after_conditions-called.ensures in
    let processes = past_routines raw bytes _ c.in_ok-routines.released _ c.as_slice-4.ensures routines c.in_ok-routines.ensures.after in
    has_end processes_written bytes (code_on raw) c.in_ok-routines.released released (released_in raw) (both_same c.as_slice-5.ensures c.as_slice-6.ensures) processes long

pub returns : goal.returns
returns c =
    let raw = c.args.raw.now in
    let bytes = bytes_of Second (named_of raw) in
    let guarded : Guarded = (c.as_slice.result.now, c.as_slice-2.result.now) in
    let same_guarded : guarded ≡ guarded_in raw = both_same c.as_slice.ensures c.as_slice-2.ensures in
    let released : Released = (c.as_slice-5.result.now, c.as_slice-6.result.now) in
    let same_released : released ≡ released_in raw = both_same c.as_slice-5.ensures c.as_slice-6.ensures in
    let monitors = past_opening raw bytes c.after_opening-opened.result refl c.after_opening-opened.ensures in
    let conditions = past_monitors raw bytes _ c.in_ok-monitors.conditions guarded same_guarded monitors c.in_ok-monitors.ensures.after in
    let routines = past_conditions raw bytes _ c.after_conditions-called.result _ c.as_slice-3.ensures conditions c.after_conditions-called.ensures in
    let processes = past_routines raw bytes _ c.in_ok-routines.released _ c.as_slice-4.ensures routines c.in_ok-routines.ensures.after in
    let code = past_processes raw bytes _ c.in_ok-processes.code released same_released processes c.in_ok-processes.ensures.after in
    let words : All HasWords raw.code = subst (All HasWords) c.as_slice-7.ensures c.code_has_words.ensures in
    let guarded_places = things_of monitor_format monitors_written (λ x. map monitor_of x.1) bytes (conditions_on raw) _ _ guarded (guarded_in raw) same_guarded monitors c.in_ok-monitors.ensures.places in
    let routine_places = things_of routine_fields routines_written (map routine_of) bytes (processes_on raw) _ _ _ raw.routines c.as_slice-4.ensures routines c.in_ok-routines.ensures.places in
    let released_places = things_of process_fields processes_written (λ x. map process_of x.1) bytes (code_on raw) _ _ released (released_in raw) same_released processes c.in_ok-processes.ensures.places in
    record {
      monitors = guarded_places;
      routines = routine_places;
      processes = released_places;
      code = instrs_stand bytes c.in_ok-processes.code raw.code [] (code.next ∙ sym (append-nil (code_on raw))) words;
      instructions = c.len.ensures;
    }
