use Rattle.valid_image_law.proofs.RuleWhole.{parts_fail_by_their_rules}
use Rattle.valid_image_law.proofs.seven_rules.parts_fail_by_their_rules.Goals as goal

pub returns : goal.returns
returns c = parts_fail_by_their_rules
