use Rattle.std.proofs.Common.{◌≡◌, sym, ◌∙◌, true, false}
use Rattle.replay_state.specs.View.{config_of}
use Rattle.replay_script.specs.Cursors.{script_in}
use Rattle.replay_accept.specs.Running.{program_of}
use Rattle.replay.proofs.ReplayingLemmas.{found_missing, run_from}
use Rattle.replay.proofs.judge_events.judge_end.Goals as goal

pub returns-then-is_complete-clause-found : goal.returns-then-is_complete-clause-found
returns-then-is_complete-clause-found c = λ begun events many allowed.
    run_from (program_of c.args.running.now.rules) (script_in c.args.script.now) begun events (config_of c.args.running.now.config) allowed (c.is_complete.ensures.1 c.if-is_complete.true)

pub find_reason-requires-clause-stops : goal.find_reason-requires-clause-stops
find_reason-requires-clause-stops c = λ none. let bad : true ≡ false = sym (c.is_complete.ensures.0 none) ∙ c.if-is_complete.false in absurd cc

pub returns-clause-found : goal.returns-clause-found
returns-clause-found c = λ begun events many allowed.
    found_missing (program_of c.args.running.now.rules) (script_in c.args.script.now) begun (config_of c.args.running.now.config) events c.args.count c.in_ok-reason.reason many allowed
    (λ none. let bad : true ≡ false = sym (c.is_complete.ensures.0 none) ∙ c.if-is_complete.false in absurd cc) c.in_ok-reason.ensures
