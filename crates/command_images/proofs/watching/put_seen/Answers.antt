use Rattle.std.proofs.Common.{subst}
use Rattle.image.specs.Named.{NamedImage}
use Rattle.command_answers.specs.declared.status.Status.TheVariants as status
use Rattle.command_answers.proofs.Coming.{put_comes_to}
use Rattle.command_due.specs.StopDue.{IsStopText}
use Rattle.command_images.proofs.watching.put_seen.Goals as goal

pub returns-clause-told : goal.returns-clause-told
returns-clause-told c = (
  c.in_ok-text.text,
  subst (λ (n : NamedImage). IsStopText n c.args.script.now.lines c.args.script.now.end c.args.stop c.in_ok-text.text) c.image.ensures c.in_ok-text.ensures,
  put_comes_to status.Done c.in_ok-text.text c.put.result c.put.ensures,
)
