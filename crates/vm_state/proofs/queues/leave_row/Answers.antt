-- Those who stay.
use Rattle.std.proofs.Common.{◌∙◌, rules}
use Rattle.std.specs.Prelude.{not, nat_eq}
use Rattle.std.proofs.lemmas.Fn.{filter_same}
use Rattle.vm_state.proofs.Rows.{without_is}
use Rattle.vm_state.proofs.queues.leave_row.Goals as goal

pub returns-clause-rest : goal.returns-clause-rest
returns-clause-rest c = filter_same _ (λ x. not (nat_eq x c.args.process)) _ (λ x b f' h. search rules) _ _ c.retain.ensures.filtered ∙ without_is c.args.process c.args.row.now.items
