use Rattle.replay_law.proofs.Joined.{held}
use Rattle.replay_law.proofs.stored_programs.built_images_are_held.Goals as goal

pub returns : goal.returns
returns c = held c.built_images_are_ranged.ensures c.built_images_are_ready.ensures c.valid_images_are_held.ensures
