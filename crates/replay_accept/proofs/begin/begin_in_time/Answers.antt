use Rattle.std.proofs.Common.{◌≡◌, false, refl, sym, true, ◌∙◌}
use Rattle.replay_state.specs.View.{config_of}
use Rattle.replay_due_events.specs.Timings.{event_of}
use Rattle.replay_accept.specs.declared.begin.Begun.{Begun}
use Rattle.replay_script.specs.Cursors.{script_in}
use Rattle.replay_accept.specs.Judged.{Begins, ComesAs}
use Rattle.replay_accept.specs.Running.{program_of}
use Rattle.replay_accept.proofs.Judging.{begun_of, if_ok, not_first, open_for}
use Rattle.replay_accept.proofs.begin.begin_in_time.Goals as goal

pub returns-in-None-clause-begins : goal.returns-in-None-clause-begins
returns-in-None-clause-begins c = (
  open_for (program_of c.args.rules.now) (script_in c.args.script.now) (config_of c.args.config.now) c.args.event.now c.requires.time c.in-None.ensures,
  refl,
)

pub returns-then-is_start-clause-begins : goal.returns-then-is_start-clause-begins
returns-then-is_start-clause-begins c =
    let g = program_of c.args.rules.now in
    let k = config_of c.args.config.now in
    let e = c.args.event.now in
    let s = script_in c.args.script.now in
    let x = event_of e.tick c.in-Some.start in
    let new = config_of c.begin_start.new.config in
    let same : e ≡ x = c.is_start.ensures.0 c.if-is_start.true in
    if_ok (λ (b : Begun). ComesAs g k x b new) (λ (b : Begun). Begins g s k e b new) c.begin_start.result
    (λ b w. begun_of g s k e x c.in-Some.ensures same c.requires.time b new w) c.begin_start.ensures.begins

pub returns-else-is_start-clause-begins : goal.returns-else-is_start-clause-begins
returns-else-is_start-clause-begins c =
    let x = event_of c.args.event.now.tick c.in-Some.start in (
      not_first (program_of c.args.rules.now) (script_in c.args.script.now) (config_of c.args.config.now) c.args.event.now x c.in-Some.ensures
          (λ h. let bad : true ≡ false = sym (c.is_start.ensures.1 h) ∙ c.if-is_start.false in absurd cc),
      refl,
    )
