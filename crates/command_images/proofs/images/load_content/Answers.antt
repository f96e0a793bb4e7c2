use Rattle.std.proofs.Common.{◌<◌, length, subst}
use Rattle.image_reader.specs.File.{longest}
use Rattle.command_answers.specs.declared.reading.Content.{Content}
use Rattle.command_answers.specs.Contents.{IsContent}
use Rattle.command_images.proofs.Refused.{long_image}
use Rattle.command_images.proofs.images.load_content.Goals as goal

pub returns-in-TooLong : goal.returns-in-TooLong
returns-in-TooLong c =
    λ bytes is. (let long : longest < length bytes = subst (λ (found : Content). IsContent longest found bytes) c.in-TooLong.is is in long_image bytes long)
