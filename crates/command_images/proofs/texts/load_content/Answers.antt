use Rattle.std.proofs.Common.{◌<◌, length, subst}
use Rattle.assembler.specs.Faults.{longest_text}
use Rattle.command_answers.specs.declared.reading.Content.{Content}
use Rattle.command_answers.specs.Contents.{IsContent}
use Rattle.command_images.proofs.PrepareImagesTold.{long_text}
use Rattle.command_images.proofs.texts.load_content.Goals as goal

pub returns-in-TooLong : goal.returns-in-TooLong
returns-in-TooLong c =
    λ text is. (let long : longest_text < length text = subst (λ (found : Content). IsContent longest_text found text) c.in-TooLong.is is in long_text text long)
