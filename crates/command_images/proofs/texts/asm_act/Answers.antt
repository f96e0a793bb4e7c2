use Rattle.assembler.specs.Faults.{longest_text}
use Rattle.command_answers.specs.Contents.{IsContent}
use Rattle.command_images.proofs.PrepareImagesTold.{assembled_image, refused_asm}
use Rattle.command_images.proofs.texts.asm_act.Goals as goal

pub returns-in-Ok-clause-due : goal.returns-in-Ok-clause-due
returns-in-Ok-clause-due c = assembled_image c.in-Ok.image (IsContent longest_text c.args.content.now) c.store_image.result c.in-Ok.ensures c.store_image.ensures.outcome

pub returns-in-Err-clause-due : goal.returns-in-Err-clause-due
returns-in-Err-clause-due c = refused_asm c.in-Err.fault (IsContent longest_text c.args.content.now) c.refuse_text.result c.in-Err.ensures c.refuse_text.ensures.due
