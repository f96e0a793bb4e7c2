use Rattle.std.proofs.Common.{◌≡◌, ℕ, List, [], length}
use Rattle.event_log.specs.Reader.{HasRead, IsReader}
use Rattle.replay_accept.specs.Running.{Stands, program_of}
use Rattle.replay_state.specs.View.{config_of}
use Rattle.replay_script.specs.Cursors.{IsAt, script_in}
use Rattle.replay.proofs.ReplayingLemmas.{HasLed}
use Rattle.replay.proofs.judge_events.judge_over.Given as goal

abbrev pub invariant-loop-event : goal.invariant-loop-event
invariant-loop-event l = record {
  stands : Stands l.running;
  rules : l.running.rules ≡ l.initial.running.rules;
  at : IsAt l.running.config.tick l.script;
  same : l.script.script ≡ l.initial.script.script;
  reader : IsReader l.reader;
  index : l.reader.index ≡ l.initial.reader.index;
  led : (text : List ℕ) → HasRead text [] l.initial.reader →
      HasLed (program_of l.initial.running.rules) (script_in l.initial.script) (config_of l.initial.running.config) text l.reader (config_of l.running.config);
}

abbrev pub decreases-loop-event : goal.decreases-loop-event
decreases-loop-event l = length l.reader.rest.now
