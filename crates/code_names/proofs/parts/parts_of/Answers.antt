use Rattle.std.proofs.Common.{◌≡◌, ◌∙◌, ◌∷◌, ◌+◌, ◌++◌, ap, sym, map, drop, length}
use Rattle.std.proofs.lemmas.List.{drop_more}
use Rattle.syntax_tree.specs.Placed.{placed_decl, plain_decl}
use Rattle.code_spec.specs.Numbering.{texts_from}
use Rattle.code_names.specs.Texts.{texts_of}
use Rattle.code_names.specs.Parts.{seen_monitors, seen_processes, monitors_of, processes_of}
use Rattle.code_names.proofs.parts.parts_of.Goals as goal

pub loop-decl-preserved : goal.loop-decl-preserved
loop-decl-preserved c =
    let items = c.as_slice-decl-items.result.now in
    let index = c.loop-decl.decl-index in
    let old = c.loop-decl.parts in
    let rest = map plain_decl (map placed_decl (drop (index + 1) items)) in
    let here : c.decl-item.result ∷ drop (index + 1) items ≡ drop index items =
    ap (λ d. d ∷ drop (index + 1) items) c.decl-item.is ∙ sym (drop_more items index c.decl-item.result c.loop-decl-test.true)
    in
    record {
      texts = c.in_ok-list_decl.ensures.texts rest ∙ ap (λ l. texts_of old.texts ++ texts_from (length old.processes.items) (length old.monitors.items) (map plain_decl (map placed_decl l))) here ∙ c.loop-decl.invariant.texts;
      monitors = c.in_ok-list_decl.ensures.monitors rest ∙ ap (λ l. seen_monitors old.monitors.items ++ monitors_of (map plain_decl (map placed_decl l))) here ∙ c.loop-decl.invariant.monitors;
      processes = c.in_ok-list_decl.ensures.processes rest ∙ ap (λ l. seen_processes old.processes.items ++ processes_of (map plain_decl (map placed_decl l))) here ∙ c.loop-decl.invariant.processes;
    }
