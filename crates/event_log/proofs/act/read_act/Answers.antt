use Rattle.event_log.proofs.Acts.{if_none, unsaid_bare, unsaid_verb}
use Rattle.event_log.proofs.act.read_act.Goals as goal

pub returns-in-Some-verb_named-clause-none : goal.returns-in-Some-verb_named-clause-none
returns-in-Some-verb_named-clause-none c =
    if_none c.read_bare.result _ _ (λ none. unsaid_bare c.args.names.now.names.now c.args.bytes.now c.in-Some-verb_named.verb c.in-None.ensures.none c.in-Some-verb_named.ensures.found (none c.args.names.now.names.now)) c.read_bare.ensures.none

pub returns-in-None-verb_named-2-clause-none : goal.returns-in-None-verb_named-2-clause-none
returns-in-None-verb_named-2-clause-none c = unsaid_verb c.args.names.now.names.now c.args.bytes.now c.in-Some.parts.before.now c.in-Some.parts.after.now c.in-Some.ensures.found c.in-None-verb_named-2.ensures.none
