use Rattle.std.proofs.Common.{◌∷◌, ap, ◌∙◌}
use Rattle.static_names.specs.declared.kind.NameUse.TheVariants.{Condition}
use Rattle.static_names.specs.Occurrences.{uses}
use Rattle.static_names.specs.Findings.{noted}
use Rattle.static_names.specs.Seen.{site}
use Rattle.static_names.proofs.Steps.{on_ok}
use Rattle.static_names.proofs.stmt.assign_empty.Goals as goal

pub returns : goal.returns
returns c = on_ok c.use_name.result c.use_name.ensures (λ h more.
    ap (λ f. noted f more) h
    ∙ c.in-Ok.ensures (uses (site c.args.around.now c.args.loops.now) c.args.cond.0.now c.args.cond.1 Condition ∷ more))
