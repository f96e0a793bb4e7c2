use Rattle.event_log.proofs.Once.{line_once, log_once}
use Rattle.event_log.proofs.one_log_law.one_log.Goals as goal

pub returns-clause-line : goal.returns-clause-line
returns-clause-line c = line_once

pub returns-clause-text : goal.returns-clause-text
returns-clause-text c = log_once
