use Rattle.std.proofs.Common.{◌+◌, map, drop, ap, sym, ◌∙◌, arith}
use Rattle.std.proofs.lemmas.List.{drop_all}
use Rattle.syntax_tree.specs.Placed.{placed_routine}
use Rattle.static_names.specs.declared.kind.Kind.TheVariants.{Entry}
use Rattle.static_names.specs.Occurrences.{entry_name}
use Rattle.static_names.specs.Seen.{entry_meaning, add_entry, add_entries}
use Rattle.static_names.proofs.Walks.{drop-item}
use Rattle.static_names.proofs.program.entries.Goals as goal

pub loop-entry-preserved : goal.loop-entry-preserved
loop-entry-preserved c =
    let rest = map entry_name (map placed_routine (drop (c.loop-entry.entry-index + 1) c.args.list.now)) in
    let was = entry_meaning c.loop-entry.entries.entries in
    ap (λ r. add_entries r c.args.monitor rest) c.in-Ok.ensures
    ∙ ap (λ n. add_entries (add_entry was c.args.monitor (n, record { place = c.entry-item.result.place; kind = Entry })) c.args.monitor rest) c.as_bytes.ensures
    ∙ ap (λ l. add_entries was c.args.monitor (map entry_name (map placed_routine l))) (sym (drop-item c.args.list.now c.loop-entry.entry-index c.entry-item.result (omega arith) c.entry-item.is))
    ∙ c.loop-entry.invariant

pub returns : goal.returns
returns c = ap (λ l. add_entries (entry_meaning c.loop-entry.entries.entries) c.args.monitor (map entry_name (map placed_routine l))) (sym (drop_all c.loop-entry.entry-index c.args.list.now (omega arith))) ∙ c.loop-entry.invariant
