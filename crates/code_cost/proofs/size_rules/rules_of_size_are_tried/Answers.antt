use Rattle.code_cost.proofs.Tried.{rules_are_tried}
use Rattle.code_cost.proofs.size_rules.rules_of_size_are_tried.Goals as goal

pub returns : goal.returns
returns c = rules_are_tried
