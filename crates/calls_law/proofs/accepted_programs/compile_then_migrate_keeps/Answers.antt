use Rattle.calls_law.proofs.Accepted.{compile_then_migrate}
use Rattle.calls_law.proofs.accepted_programs.compile_then_migrate_keeps.Goals as goal

pub returns : goal.returns
returns c = compile_then_migrate c.built_images_are_held.ensures c.migrate_is_one.ensures
