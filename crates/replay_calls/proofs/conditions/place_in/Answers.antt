use Rattle.std.proofs.Common.{◌+◌, ◌-◌, ◌∙◌, ap, sym, Bor, drop, take}
use Rattle.std.proofs.lemmas.List.{drop-map, take-map}
use Rattle.syntax_tree.specs.declared.name.Name.{Name}
use Rattle.source_semantics.specs.Names.{place_of}
use Rattle.replay_calls.proofs.conditions.place_in.Goals as goal

pub returns : goal.returns
returns c =
    let from = c.args.span.start in
    let count = c.args.span.end - c.args.span.start in
    let own = λ (n : Bor Name). n.now in
    ap (λ n. from + n) c.place_among.ensures.place
    ∙ ap (λ l. from + place_of c.args.name.now l) (sym (ap (take count) (drop-map own from c.args.names.now) ∙ take-map own count (drop from c.args.names.now)))
