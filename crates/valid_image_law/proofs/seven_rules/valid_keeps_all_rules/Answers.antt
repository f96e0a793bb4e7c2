use Rattle.valid_image_law.proofs.RuleWhole.{valid_keeps_all_rules}
use Rattle.valid_image_law.proofs.seven_rules.valid_keeps_all_rules.Goals as goal

pub returns : goal.returns
returns c = valid_keeps_all_rules
