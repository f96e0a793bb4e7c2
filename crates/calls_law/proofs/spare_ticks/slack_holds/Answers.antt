use Rattle.calls_law.proofs.Spared.{slack-holds}
use Rattle.calls_law.proofs.spare_ticks.slack_holds.Goals as goal

pub returns : goal.returns
returns c = slack-holds c.built_images_are_ready.ensures c.spare_ticks_hold.ensures
