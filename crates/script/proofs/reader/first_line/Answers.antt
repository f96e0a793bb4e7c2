use Rattle.script.proofs.Readings.{unbegun_lacks, unbegun_line}
use Rattle.script.proofs.reader.first_line.Goals as goal

pub returns-in-None-clause-none : goal.returns-in-None-clause-none
returns-in-None-clause-none c = unbegun_lacks c.args.bytes.now c.in-None.ensures.none

pub returns-in-None-read_line-clause-none : goal.returns-in-None-read_line-clause-none
returns-in-None-read_line-clause-none c = unbegun_line c.args.bytes.now c.in-Some.parts.before.now c.in-Some.parts.after.now c.in-Some.ensures.found c.in-None-read_line.ensures.none
