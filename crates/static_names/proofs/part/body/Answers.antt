use Rattle.std.proofs.Common.{ap, ◌∙◌}
use Rattle.std.proofs.lemmas.Result.{on_ok_weaker}
use Rattle.syntax_tree.specs.Placed.{placed_stmts}
use Rattle.static_names.specs.Occurrences.{stmts_names}
use Rattle.static_names.specs.Findings.{noted}
use Rattle.static_names.specs.Seen.{site}
use Rattle.static_names.proofs.part.body.Goals as goal

pub returns : goal.returns
returns c = on_ok_weaker c.stmts.result (λ h more.
    h more ∙ ap (λ l. noted c.args.findings.now (stmts_names (site c.args.around.now l) (placed_stmts c.args.list.now) more)) c.new-loops.ensures.items) c.stmts.ensures.names
