use Rattle.image_reader_law.proofs.Limits.{read_limits, read_monitors}
use Rattle.image_reader_law.proofs.validity_ranges.images_read_are_in_their_ranges.Goals as goal

pub returns-clause-limits : goal.returns-clause-limits
returns-clause-limits c = read_limits

pub returns-clause-monitors : goal.returns-clause-monitors
returns-clause-monitors c = read_monitors
