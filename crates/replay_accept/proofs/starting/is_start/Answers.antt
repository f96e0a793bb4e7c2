use Rattle.std.proofs.Common.{◌≡◌, sym, subst}
use Rattle.std.specs.Prelude.{◌↔◌, IsTrue}
use Rattle.base.specs.declared.event.Act.TheVariants as act_is
use Rattle.replay_due_events.specs.Timings.{event_of}
use Rattle.replay_due_events.specs.declared.due_starts.Start.{Start}
use Rattle.replay_accept.proofs.Judging.{is_by}
use Rattle.replay_accept.proofs.starting.is_start.Goals as goal

pub returns-in-Release : goal.returns-in-Release
returns-in-Release c =
    let e = c.args.event.now in
    subst (λ (s : Start). IsTrue c.is_by.result ↔ (e ≡ event_of e.tick s)) (sym c.in-Release.is)
    (is_by e c.in-Release.process act_is.Release c.is_release.result c.is_by.result c.is_release.ensures c.is_by.ensures)

pub returns-in-TimeOut : goal.returns-in-TimeOut
returns-in-TimeOut c =
    let e = c.args.event.now in
    subst (λ (s : Start). IsTrue c.is_by-in-TimeOut.result ↔ (e ≡ event_of e.tick s)) (sym c.in-TimeOut.is)
    (is_by e c.in-TimeOut.process (act_is.TimeOut c.in-TimeOut.condition c.in-TimeOut.number) c.is_time_out.result c.is_by-in-TimeOut.result c.is_time_out.ensures c.is_by-in-TimeOut.ensures)
