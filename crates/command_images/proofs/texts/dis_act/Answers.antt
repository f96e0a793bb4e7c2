use Rattle.image_reader.specs.File.{longest}
use Rattle.command_answers.specs.Contents.{IsContent}
use Rattle.command_images.proofs.PrepareImagesTold.{refused_dis, told_image}
use Rattle.command_images.proofs.texts.dis_act.Goals as goal

pub returns-in-Ok-clause-due : goal.returns-in-Ok-clause-due
returns-in-Ok-clause-due c = told_image c.in-Ok.raw (IsContent longest c.args.content.now) c.store_text.result c.in-Ok.ensures.told c.store_text.ensures.outcome

pub returns-in-Err-clause-due : goal.returns-in-Err-clause-due
returns-in-Err-clause-due c = refused_dis c.in-Err.fault (IsContent longest c.args.content.now) c.refuse_bytes.result c.in-Err.ensures.told c.refuse_bytes.ensures.due
