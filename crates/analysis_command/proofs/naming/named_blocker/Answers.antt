use Rattle.std.proofs.Common.{◌≡◌, ◌∙◌, List, length, ap, arith, sym}
use Rattle.std.specs.Prelude.{slice_get}
use Rattle.std.proofs.lemmas.List.{length-map}
use Rattle.std.proofs.lemmas.Option.{same_Some, slice_get_within}
use Rattle.syntax_tree.specs.Placed.{placed, plain}
use Rattle.syntax_tree.specs.Plain.{Monitor, Process}
use Rattle.source_semantics.specs.Names.{monitors, processes}
use Rattle.code_names.specs.Parts.{monitor_of, process_of}
use Rattle.code_names.specs.Texts.{text_of}
use Rattle.sched_program.specs.Blockers.{entry_of}
use Rattle.analysis_command.proofs.Places.{monitor_is, text_at_place}
use Rattle.analysis_command.proofs.naming.named_blocker.Goals as goal

pub monitor_at-owner-requires : goal.monitor_at-owner-requires
monitor_at-owner-requires c =
    let g = plain (placed c.args.directory.now) in
    let stay = c.requires.is.stay in
    let text : text_of c.in-Some.text ≡ entry_of stay = text_at_place g c.texts.result.now c.args.place c.in-Some.text (entry_of stay) c.texts.ensures c.in-Some.ensures c.requires.is.stands in
    let number = monitor_is c.in-Some.text c.in-Monitor.monitor stay.monitor stay.entry text c.in-Monitor.is in
    let many : length c.monitors.result.now ≡ length (monitors g) = sym (length-map c.monitors.result.now monitor_of) ∙ ap (λ (ms : List Monitor). length ms) c.monitors.ensures in
    let low = slice_get_within (monitors g) stay.monitor c.requires.is.owner c.requires.is.owns in
    omega (arith, number, many, low)

pub process_at-inside-requires : goal.process_at-inside-requires
process_at-inside-requires c =
    let g = plain (placed c.args.directory.now) in
    let stay = c.requires.is.stay in
    let many : length c.processes.result.now ≡ length (processes g) = sym (length-map c.processes.result.now process_of) ∙ ap (λ (ps : List Process). length ps) c.processes.ensures in
    let low = slice_get_within (processes g) stay.number stay.process stay.there in
    omega (arith, c.requires.is.number, many, low)

pub returns : goal.returns
returns c = λ held block at.
    let g = plain (placed c.args.directory.now) in
    let text : text_of c.in-Some.text ≡ entry_of at.stay = text_at_place g c.texts.result.now c.args.place c.in-Some.text (entry_of at.stay) c.texts.ensures c.in-Some.ensures at.stands in
    let number = monitor_is c.in-Some.text c.in-Monitor.monitor at.stay.monitor at.stay.entry text c.in-Monitor.is in
    let owner : monitor_of c.monitor_at-owner.result ≡ at.owner =
    same_Some (monitor_of c.monitor_at-owner.result) at.owner (sym c.monitor_at-owner.ensures ∙ (ap (λ (ms : List Monitor). slice_get ms c.in-Monitor.monitor) c.monitors.ensures ∙ (ap (λ n. slice_get (monitors g) n) number ∙ at.owns))) in
    let inside : process_of c.process_at-inside.result ≡ at.stay.process =
    same_Some (process_of c.process_at-inside.result) at.stay.process
    (sym c.process_at-inside.ensures ∙ (ap (λ (ps : List Process). slice_get ps c.args.process) c.processes.ensures ∙ (ap (λ n. slice_get (processes g) n) (sym at.number) ∙ at.stay.there))) in
    record {
      stay = at.stay;
      first = at.first;
      nearest = at.nearest;
      owner = at.owner;
      owns = at.owns;
      monitor = c.in_ok-new.ensures ∙ (c.as_bytes.ensures ∙ ap (λ (m : Monitor). m.name) owner);
      entry = c.in_ok-new-2.ensures ∙ (c.as_bytes-2.ensures ∙ ap (λ t. t.routine.name) text);
      process = c.in_ok-new-3.ensures ∙ (c.as_bytes-3.ensures ∙ ap (λ (p : Process). p.name) inside);
    }
