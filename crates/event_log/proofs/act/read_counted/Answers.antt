use Rattle.std.proofs.Common.{decimal}
use Rattle.event_log.proofs.Names.{unasked_last}
use Rattle.event_log.proofs.act.read_counted.Goals as goal

pub returns-in-None-read_number-clause-none : goal.returns-in-None-read_number-clause-none
returns-in-None-read_number-clause-none c d number below small =
    unasked_last c.args.names.now.names.now c.args.bytes.now c.in-Some.asked.cond c.in-Some.asked.last.now c.requires.words c.in-Some.ensures.within c.in-Some.ensures.found d (decimal number) below (c.in-None-read_number.ensures.none number small)
