use Rattle.script.proofs.Lookups.{event_within}
use Rattle.script.proofs.past.Past.judge.Goals as goal

pub judge_event-requires-clause-event : goal.judge_event-requires-clause-event
judge_event-requires-clause-event c =
    event_within c.args.names.now c.args.events.now.entries c.in-Event.name.now c.find-in-Event.result c.in-Some-find.event c.requires.events c.find-in-Event.ensures c.in-Some-find.is
