use Rattle.std.proofs.Common.{◌+◌, ap, ◌∙◌}
use Rattle.base.specs.Capped.{cap}
use Rattle.loader.proofs.Needs.{run_told}
use Rattle.validity_parts.proofs.costs.process_run.Goals as goal

pub returns : goal.returns
returns c =
    c.cap_sum-3.ensures ∙ ap (λ n. cap (c.cap_sum-code.result + n)) c.dispatches.ensures
    ∙ run_told c.args.over c.cap_sum-code.result c.cap_sum-2.result c.args.body.now c.args.handler.now (c.cap_sum-code.ensures ∙ ap (λ n. cap (4 + n)) c.cap_sum.ensures) c.cap_sum-2.ensures
