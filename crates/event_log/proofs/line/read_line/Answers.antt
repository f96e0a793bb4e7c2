use Rattle.event_log.proofs.LinesLemmas.{untold_lacks, untold_tick, untold_process, untold_name, untold_act}
use Rattle.event_log.proofs.line.read_line.Goals as goal

pub returns-in-None-clause-none : goal.returns-in-None-clause-none
returns-in-None-clause-none c = untold_lacks c.args.names.now.names.now c.args.line.now c.in-None.ensures.none

pub returns-in-None-unsigned-clause-none : goal.returns-in-None-unsigned-clause-none
returns-in-None-unsigned-clause-none c = untold_tick c.args.names.now.names.now c.args.line.now c.in-Some.front.before.now c.in-Some.front.after.now c.in-Some.ensures.found c.in-None-unsigned.ensures.none

pub returns-in-None-cut_at-clause-none : goal.returns-in-None-cut_at-clause-none
returns-in-None-cut_at-clause-none c = untold_process c.args.names.now.names.now c.args.line.now c.in-Some.front.before.now c.in-Some.front.after.now c.in-Some.ensures.found c.in-None-cut_at.ensures.none

pub returns-in-None-find_near-clause-none : goal.returns-in-None-find_near-clause-none
returns-in-None-find_near-clause-none c =
    untold_name c.args.names.now.names.now c.args.line.now c.in-Some.front.before.now c.in-Some.front.after.now c.in-Some-cut_at.parts.before.now c.in-Some-cut_at.parts.after.now c.requires.words c.in-Some.ensures.found c.in-Some-cut_at.ensures.found c.in-None-find_near.ensures.none

pub returns-in-None-read_act-clause-none : goal.returns-in-None-read_act-clause-none
returns-in-None-read_act-clause-none c =
    untold_act c.args.names.now.names.now c.args.line.now c.in-Some.front.before.now c.in-Some.front.after.now c.in-Some-cut_at.parts.before.now c.in-Some-cut_at.parts.after.now c.requires.words c.in-Some.ensures.found c.in-Some-cut_at.ensures.found c.in-None-read_act.ensures.none
