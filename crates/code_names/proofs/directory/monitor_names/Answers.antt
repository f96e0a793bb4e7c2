use Rattle.std.proofs.Common.{◌+◌, ◌∙◌, ◌∷◌, ◌++◌, [], List, ap, sym, map, drop, append_assoc, append-nil}
use Rattle.std.specs.Borrow.{Bor}
use Rattle.std.proofs.lemmas.List.{drop_all, drop_more, map-append}
use Rattle.syntax_tree.specs.Plain.{Name}
use Rattle.syntax_tree.specs.declared.decl.Monitor.{Monitor}
use Rattle.code_names.specs.First.{names_of}
use Rattle.code_names.specs.Parts.{monitor_of}
use Rattle.code_names.proofs.directory.monitor_names.Goals as goal

abbrev listed : List (Bor Monitor) → List Name
listed ms = map (λ m. (monitor_of m).name) ms

pub loop-monitor-preserved : goal.loop-monitor-preserved
loop-monitor-preserved c =
    let monitors = c.args.monitors.now in
    let rest = drop (c.loop-monitor.monitor-index + 1) monitors in
    let old = c.loop-monitor.names.items in
    let name = c.as_bytes.result in
    ap (λ l. names_of l ++ listed rest) c.in_ok-push.ensures.items
    ∙ ap (λ l. l ++ listed rest) (map-append (λ (n : Bor Name). n.now) old (name ∷ []))
    ∙ append_assoc (names_of old) (name.now ∷ []) (listed rest)
    ∙ ap (λ n. names_of old ++ n ∷ listed rest) c.as_bytes.ensures
    ∙ ap (λ l. names_of old ++ listed l) (ap (λ m. m ∷ rest) c.monitor-item.is ∙ sym (drop_more monitors c.loop-monitor.monitor-index c.monitor-item.result c.loop-monitor-test.true))
    ∙ c.loop-monitor.invariant

pub returns : goal.returns
returns c =
    let names = names_of c.loop-monitor.names.items in
    c.in_ok-list.ensures ∙ sym (append-nil names)
    ∙ ap (λ l. names ++ listed l) (sym (drop_all c.loop-monitor.monitor-index c.args.monitors.now c.loop-monitor-test.false))
    ∙ c.loop-monitor.invariant
