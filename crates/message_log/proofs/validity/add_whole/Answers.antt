use Rattle.message_log.proofs.Naming.{uncovered}
use Rattle.message_log.proofs.validity.add_whole.Goals as goal

pub returns-in_default : goal.returns-in_default
returns-in_default c = rw (uncovered c.args.subject c.args.a c.args.b c.in_default.not-Words) c.add_around-in_default.ensures
