use Rattle.event_log.proofs.Names.{unasked, unasked_after, unasked_front}
use Rattle.event_log.proofs.act.read_asked.Goals as goal

pub returns-in-None-clause-none : goal.returns-in-None-clause-none
returns-in-None-clause-none c = unasked c.args.names.now.names.now c.args.bytes.now c.requires.words c.in-None.ensures.none

pub returns-in-None-cut_at-clause-none : goal.returns-in-None-cut_at-clause-none
returns-in-None-cut_at-clause-none c =
    unasked_after c.args.names.now.names.now c.args.bytes.now c.in-Some.parts.before.now c.in-Some.parts.after.now c.requires.words c.in-Some.ensures.found c.in-None-cut_at.ensures.none

pub returns-in-None-find_condition-clause-none : goal.returns-in-None-find_condition-clause-none
returns-in-None-find_condition-clause-none c =
    unasked_front c.args.names.now.names.now c.args.bytes.now c.in-Some.parts.before.now c.in-Some.parts.after.now c.in-Some-cut_at.more.before.now c.in-Some-cut_at.more.after.now c.front_of.result.now c.requires.words c.in-Some.ensures.found c.in-Some-cut_at.ensures.found c.front_of.ensures c.in-None-find_condition.ensures.none
