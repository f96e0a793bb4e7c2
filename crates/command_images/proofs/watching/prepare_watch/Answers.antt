use Rattle.std.proofs.Common.{None}
use Rattle.image_reader.specs.File.{longest}
use Rattle.command_words.specs.Calls as call
use Rattle.command_answers.specs.Acts.{outcome_of}
use Rattle.command_answers.specs.Contents.{IsContent}
use Rattle.command_answers.proofs.Held.{acted}
use Rattle.command_images.proofs.Watched.{watch_prepares, watch_stops}
use Rattle.command_images.proofs.Explained.{script_explained}
use Rattle.command_images.proofs.watching.prepare_watch.Goals as goal

pub returns-in-Ok-clause-prepared : goal.returns-in-Ok-clause-prepared
returns-in-Ok-clause-prepared g c =
    watch_prepares g.F.Files.tells c.args.image.now c.args.script.now c.args.stop (g.F.Files.state c.args.files.now) (g.F.Files.state c.read.new.files) (g.F.Files.state c.watch_on.new.files)
    (IsContent longest c.in_ok-content.content) c.in-Ok.loaded c.watch_on.result c.in_ok-content.ensures.content c.in-Ok.ensures c.in_ok-content.ensures.only_reads.files c.in_ok-content.ensures.only_reads.read_counts
    c.watch_on.ensures.due c.watch_on.ensures.quiet c.watch_on.ensures.failed

pub returns-in-Ok-refuse_image-clause-prepared : goal.returns-in-Ok-refuse_image-clause-prepared
returns-in-Ok-refuse_image-clause-prepared g c =
    acted g.F.Files.tells (call.watch c.args.image.now c.args.script.now c.args.stop) (g.F.Files.state c.args.files.now) c.in-Ok-refuse_image.act (c.in-Ok-refuse_image.ensures.quiet None)
    (watch_stops g.F.Files.tells c.args.stop ((g.F.Files.state c.args.files.now).held c.args.image.now) ((g.F.Files.state c.args.files.now).held c.args.script.now) (IsContent longest c.in_ok-content.content)
    (outcome_of c.in-Ok-refuse_image.act) c.in_ok-content.ensures.content (λ bytes is. c.in-Ok-refuse_image.ensures.due bytes (c.in-Err.ensures bytes is)))

pub returns-in-Ok-clause-told : goal.returns-in-Ok-clause-told
returns-in-Ok-clause-told g c =
    script_explained g.F.Files.tells c.args.image.now c.args.script.now (g.F.Files.state c.args.files.now).held (g.F.Files.state c.read.new.files).held c.watch_on.new.message
    (IsContent longest c.in_ok-content.content) c.in-Ok.loaded c.watch_on.result c.in_ok-content.ensures.content c.in-Ok.ensures c.in_ok-content.ensures.only_reads.files c.watch_on.ensures.told
