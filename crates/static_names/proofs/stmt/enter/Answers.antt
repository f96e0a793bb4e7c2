use Rattle.std.proofs.Common.{[], ◌∷◌, ap, ◌∙◌}
use Rattle.static_names.specs.declared.kind.Kind.TheVariants.{LoopVariable}
use Rattle.static_names.specs.Reach.{inside}
use Rattle.static_names.specs.Seen.{site}
use Rattle.static_names.proofs.Loops.{site-enter}
use Rattle.static_names.proofs.stmt.enter.Goals as goal

pub returns-clause-inner : goal.returns-clause-inner
returns-clause-inner c around =
    ap (site around) c.in_ok-push.ensures.items
    ∙ site-enter around c.args.loops.now.items (record { name = c.as_bytes-name.result; declared = record { place = c.args.place; kind = LoopVariable } })
    ∙ ap (λ n. inside ((n, record { place = c.args.place; kind = LoopVariable }) ∷ []) (site around c.args.loops.now.items)) c.as_bytes-name.ensures
