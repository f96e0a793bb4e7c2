-- The events that events in code stand for.
use Rattle.std.specs.Prelude.{List, map}
use Rattle.base.specs.declared.event.Event.{Event}
use Rattle.base.specs.declared.event.Act.{Act}
use Rattle.base.specs.declared.event.Act.TheVariants as act
use Rattle.replay_reason_spec.specs.declared.event.SourceAct.{SourceAct}
use Rattle.replay_reason_spec.specs.declared.event.SourceAct.TheVariants as does
use Rattle.replay_reason_spec.specs.declared.event.SourceEvent.{SourceEvent}

abbrev pub act_of : SourceAct → Act
act_of does.Release = act.Release
act_of (does.TimeOut c number) = act.TimeOut c number
act_of (does.Get d value) = act.Get d value
act_of (does.Put d value) = act.Put d value
act_of (does.Enter m) = act.Enter m
act_of (does.Leave m) = act.Leave m
act_of (does.Wait c) = act.Wait c
act_of (does.Signal c woken) = act.Signal c woken
act_of (does.Broadcast c count) = act.Broadcast c count
act_of (does.Empty c answer) = act.Empty c answer
act_of (does.Raise number) = act.Raise number
act_of does.End = act.End

abbrev pub event_of : SourceEvent → Event
event_of e = record { tick = e.tick; proc = e.process; act = act_of e.act }

abbrev pub events_of : List SourceEvent → List Event
events_of es = map event_of es
