use Rattle.event_log.specs.Line.{truth_text}
use Rattle.event_log.proofs.Names.{unasked_last}
use Rattle.event_log.proofs.act.read_empty.Goals as goal

pub returns-in-None-read_truth-clause-none : goal.returns-in-None-read_truth-clause-none
returns-in-None-read_truth-clause-none c d answer below =
    unasked_last c.args.names.now.names.now c.args.bytes.now c.in-Some.asked.cond c.in-Some.asked.last.now c.requires.words c.in-Some.ensures.within c.in-Some.ensures.found d (truth_text answer) below (c.in-None-read_truth.ensures.none answer)
