use Rattle.image_reader.specs.File.{longest}
use Rattle.command_answers.specs.Contents.{IsContent}
use Rattle.command_images.proofs.Refused.{migrated_image, refused_migrate}
use Rattle.command_images.proofs.images.migrate_act.Goals as goal

pub returns-in-Ok-clause-due : goal.returns-in-Ok-clause-due
returns-in-Ok-clause-due c = migrated_image c.in-Ok.image (IsContent longest c.args.content) c.store_image.result c.in-Ok.ensures c.store_image.ensures.outcome

pub returns-in-Err-clause-due : goal.returns-in-Err-clause-due
returns-in-Err-clause-due c = refused_migrate c.in-Err.fault (IsContent longest c.args.content) c.refuse_image.result c.in-Err.ensures c.refuse_image.ensures.due
