use Rattle.calls_law.proofs.Accepted.{go_then_migrate}
use Rattle.calls_law.proofs.accepted_programs.go_then_migrate_keeps.Goals as goal

pub returns : goal.returns
returns c = go_then_migrate c.timely_texts_have_one_image.ensures c.built_images_are_held.ensures c.migrate_is_one.ensures
