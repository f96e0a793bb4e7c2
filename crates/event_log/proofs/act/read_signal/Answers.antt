use Rattle.event_log.specs.Line.{woken_name}
use Rattle.event_log.proofs.Names.{unasked_last}
use Rattle.event_log.proofs.act.read_signal.Goals as goal

pub returns-in-None-read_woken-clause-none : goal.returns-in-None-read_woken-clause-none
returns-in-None-read_woken-clause-none c d woken below within =
    unasked_last c.args.names.now.names.now c.args.bytes.now c.in-Some.asked.cond c.in-Some.asked.last.now c.requires.words c.in-Some.ensures.within c.in-Some.ensures.found d (woken_name c.args.names.now.names.now woken) below (c.in-None-read_woken.ensures.none woken within)
